-- `torn::doubled` meets its contract: of the masks so far it is known whether one has two members. Assumes nothing.
use Rattle.std.proofs.Common.{ℕ, get_or}
use Rattle.torn.specs.steps.Doubled.{Twice}
use Rattle.torn.proofs.NoticedLaws.{marked_more}
use Rattle.torn.proofs.doubled.Goals as goal

pub loop-m-preserved : goal.loop-m-preserved
loop-m-preserved c =
    let l = c.loop-m in
    marked_more (λ (i : ℕ). Twice (get_or c.args.s.now i 0)) l.m-index l.c c.others-c.result l.invariant c.others-c.ensures

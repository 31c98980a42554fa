-- `fits::blocked` meets its contract. The invariant: the answer is the answer from the next place on. Assumes nothing.
use Rattle.std.proofs.Common.{refl, sym, ◌∙◌, take}
use Rattle.basis.specs.Test.{◌or◌, non}
use Rattle.basis.proofs.LoopLaws.{any_none, any_found, any_more}
use Rattle.entries.proofs.EntriesLaws.{any_events}
use Rattle.fits.specs.steps.ByNumber.{blocks}
use Rattle.fits.proofs.ByNumberLaws.{blocks_at}
use Rattle.fits.proofs.blocked.Invariants.{blocks_here}
use Rattle.fits.proofs.blocked.Goals as goal

pub loop-p-init : goal.loop-p-init
loop-p-init c = refl

pub returns-then-hit : goal.returns-then-hit
unfolding ◌or◌ non
returns-then-hit c =
    any_found (blocks_here c.args.s.now c.args.x.head.edition c.args.a) (take c.count-n.result c.args.at.now) c.loop-p.p-index 0 c.loop-p.invariant c.loop-p-test.true
    (blocks_at c.args.s.now c.args.x.head.edition _ c.args.a ∙ simp (← c.agent_at-no_init.ensures, ← c.shape_at.ensures, ← c.overlap.ensures) c.if-hit.true)
    ∙ sym (any_events (blocks c.args.a) c.args.s.now c.args.x c.args.at.now c.count-n.result c.count-n.ensures)

pub loop-p-preserved : goal.loop-p-preserved
unfolding ◌or◌ non
loop-p-preserved c =
    any_more (blocks_here c.args.s.now c.args.x.head.edition c.args.a) (take c.count-n.result c.args.at.now) c.loop-p.p-index 0 c.loop-p.invariant c.loop-p-test.true
    (blocks_at c.args.s.now c.args.x.head.edition _ c.args.a ∙ simp (← c.agent_at-no_init.ensures, ← c.shape_at.ensures, ← c.overlap.ensures) c.if-hit.false)

pub returns : goal.returns
returns c =
    any_none (blocks_here c.args.s.now c.args.x.head.edition c.args.a) (take c.count-n.result c.args.at.now) c.loop-p.p-index c.loop-p.invariant c.loop-p-test.false
    ∙ sym (any_events (blocks c.args.a) c.args.s.now c.args.x c.args.at.now c.count-n.result c.count-n.ensures)

-- `agents::missing` meets its contract. The invariant: the first i agents are there. Assumes nothing.
use mathlib.Core.Path.{sym, ◌∙◌}
use Prim.Native.Nat.{◌+◌}
use native.Mathlib.Omega.{arith}
use borrow.Author.Tests.{ne_eqb, eq-eqb}
use Rattle.entries.specs.Entries.{execution}
use Rattle.basis.proofs.ListLaws.{up_more}
use Rattle.agents.proofs.AgentsLaws.{one_lost, none_lost}
use Rattle.agents.proofs.missing.Goals as goal

pub loop-i-init : goal.loop-i-init
loop-i-init c = λ j h. absurd (omega arith)

pub bounds-seen-i : goal.bounds-seen-i
bounds-seen-i c = omega arith

pub returns-then-not-there : goal.returns-then-not-there
returns-then-not-there c =
    one_lost (execution c.args.s.now c.args.x c.args.at.now) c.loop-i.i c.loop-i-test.true (sym (c.present.ensures.tells (c.loop-i.i + 1) (omega arith)) ∙ ne_eqb _ _ c.if-not-there.true)

pub loop-i-preserved : goal.loop-i-preserved
loop-i-preserved c = up_more c.loop-i.invariant (eq-eqb _ _ c.if-not-there.false)

pub returns : goal.returns
returns c =
    none_lost (execution c.args.s.now c.args.x c.args.at.now) (λ j h. sym (c.present.ensures.tells (j + 1) (omega arith)) ∙ c.loop-i.invariant j (let l = c.loop-i-test.false in omega arith))

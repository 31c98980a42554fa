-- `before::step` meets its contract: a step from an event that is not counted, one that there is a way for, a new one. Assumes nothing.
use mathlib.Core.Path.{ap, sym, ◌∙◌}
use native.Mathlib.Nat.{mod-eq_of_lt}
use native.Mathlib.Omega.{arith}
use lib.ListN.{get_or}
use Rattle.sets.specs.Mask.{mem}
use Rattle.before.proofs.LinkedLaws.{step_far, step_known, step_new}
use Rattle.before.proofs.step.Goals as goal

pub returns-then-n-a : goal.returns-then-n-a
returns-then-n-a c = step_far c.args.n c.requires.0 c.args.succ.now c.args.cols.now c.requires.3 c.requires.4 c.args.a c.args.b c.requires.1 c.if-n-a.true c.with.result c.with.ensures c.requires.2

pub returns-then-has : goal.returns-then-has
returns-then-has c =
    step_known c.args.n c.requires.0 c.args.succ.now c.args.cols.now c.requires.3 c.requires.4 c.args.a c.args.b c.requires.1 (omega (arith, c.if-n-a.false))
    (ap (mem (get_or c.args.succ.now c.args.a 0)) (sym (mod-eq_of_lt c.requires.2)) ∙ sym c.has.ensures ∙ c.if-has.true)

pub returns : goal.returns
returns c = step_new c.args.n c.requires.0 c.args.succ.now c.args.cols.now c.requires.3 c.requires.4 c.args.a c.args.b c.requires.1 (omega (arith, c.if-n-a.false)) c.from_one-d.result c.from_one-d.ensures c.join.ensures

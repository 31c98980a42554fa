-- `before::from_one` meets its contract. Assumes nothing.
use mathlib.Core.Path.{ap, sym, ◌∙◌, subst}
use native.Mathlib.Nat.{mod-eq_of_lt}
use native.Mathlib.Omega.{arith}
use lib.ListN.{get_or}
use Rattle.sets.specs.Mask.{insert}
use Rattle.before.specs.steps.Linked.{Beyond}
use Rattle.before.proofs.LinkedLaws.{beyond_one, beyond_far}
use Rattle.before.proofs.from_one.Goals as goal

pub returns-then-b-n : goal.returns-then-b-n
returns-then-b-n c =
    subst (Beyond c.args.n c.args.succ.now _) (sym (c.with.ensures ∙ ap (insert (get_or c.args.succ.now c.args.b 0)) (mod-eq_of_lt c.requires.0))) (beyond_one c.args.n c.args.succ.now c.args.b c.if-b-n.true)

pub returns : goal.returns
returns c =
    subst (Beyond c.args.n c.args.succ.now _) (sym (c.with-2.ensures ∙ ap (insert 0) (mod-eq_of_lt c.requires.0))) (beyond_far c.args.n c.args.succ.now c.args.b (omega (arith, c.if-b-n.false)))

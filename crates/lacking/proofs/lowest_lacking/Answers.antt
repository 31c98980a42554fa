-- `lacking::lowest_lacking` meets its contract. The invariant: the lowest event that lacks a row is the lowest from event e on. Assumes nothing.
use Rattle.std.proofs.Common.{refl, sym, ◌∙◌, arith}
use Rattle.lacking.proofs.LackingLaws.{lacks_at, lacking_found, lacking_more, lacking_none}
use Rattle.lacking.proofs.lowest_lacking.Goals as goal

pub loop-e-init : goal.loop-e-init
loop-e-init c = refl

pub bounds-at-e : goal.bounds-at-e
bounds-at-e c = let n = c.count-n.ensures in omega arith

pub returns-then-bad : goal.returns-then-bad
returns-then-bad c =
    let h = rw c.count-n.ensures at c.loop-e-test.true in
    lacking_found c.args.s.now c.args.x c.args.at.now c.loop-e.e c.loop-e.invariant h (lacks_at c.args.s.now c.args.x c.args.at.now c.loop-e.e h ∙ sym (rw c.shape_at-a.ensures at c.lacks-bad.ensures) ∙ c.if-bad.true)

pub loop-e-preserved : goal.loop-e-preserved
loop-e-preserved c =
    let h = rw c.count-n.ensures at c.loop-e-test.true in
    lacking_more c.args.s.now c.args.x c.args.at.now c.loop-e.e c.loop-e.invariant h (lacks_at c.args.s.now c.args.x c.args.at.now c.loop-e.e h ∙ sym (rw c.shape_at-a.ensures at c.lacks-bad.ensures) ∙ c.if-bad.false)

pub returns : goal.returns
returns c = lacking_none c.args.s.now c.args.x c.args.at.now c.loop-e.e c.loop-e.invariant (rw c.count-n.ensures at c.loop-e-test.false)

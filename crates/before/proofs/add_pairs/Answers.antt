-- `before::add_pairs` meets its contract: the first j pairs have been looked at. The measure is what is left. Assumes nothing.
use mathlib.Core.Path.{◌≡◌, ap, sym, subst, ◌∙◌}
use mathlib.Core.List.{List}
use Prim.Native.Nat.{ℕ, ◌%◌, min}
use native.Mathlib.Nat.{mod-eq_of_lt}
use native.Mathlib.Omega.{arith}
use Rattle.sets.specs.Mask.{slots}
use Rattle.tables.specs.Tables.{pair_room, pair_in}
use Rattle.cells.specs.Cells.{gaining}
use Rattle.format.specs.declared.Pair.{Pair}
use Rattle.before.specs.Before.{pair_gains, pair_steps_in}
use Rattle.before.specs.steps.Linked.{Linking}
use Rattle.before.proofs.BeforeLaws.{pairs_none, pairs_more}
use Rattle.before.proofs.LinkedLaws.{linking_none, linking_more}
use Rattle.before.proofs.add_pairs.Goals as goal

pub loop-j-init : goal.loop-j-init
loop-j-init c = (omega arith, omega arith, linking_none (pair_steps_in c.args.p.now 0) c.requires.1 c.requires.2 (pairs_none c.args.p.now))

pub step-requires : goal.step-requires
step-requires c = (c.requires.0, omega arith, omega arith, c.loop-j.invariant.2.size, c.loop-j.invariant.2.width)

pub loop-j-preserved : goal.loop-j-preserved
loop-j-preserved c =
    let l = c.loop-j in
    let p = c.args.p.now in
    let r = c.pair-r.result in
    let is : r ≡ pair_in p l.j = c.pair-r.ensures ∙ ap (pair_in p) (mod-eq_of_lt (let z = l.invariant.1 in omega (arith, z, c.loop-j-test.true))) in
    (omega arith, l.invariant.1, linking_more (pair_steps_in p l.j) (λ (x : List ℕ). gaining x (r.first % slots) (r.second % slots)) (pair_steps_in p _) (λ x. ap (λ (y : Pair). pair_gains y (pair_steps_in p l.j x)) is ∙ pairs_more p x l.j) l.invariant.2 c.step.ensures)

pub shape_of-succ : goal.shape_of-succ
shape_of-succ c = c.loop-j.invariant.2.size ∙ sym c.requires.1

pub shape_of-cols : goal.shape_of-cols
shape_of-cols c = c.loop-j.invariant.2.width ∙ sym c.requires.2

pub returns : goal.returns
returns c =
    let l = c.loop-j in
    let z = c.least-m.ensures in
    let k : l.j ≡ min c.args.pairs pair_room = omega arith in
    subst (λ (x : ℕ). Linking c.args.n (pair_steps_in c.args.p.now x) c.args.succ.now c.args.cols.now l.succ l.cols) k l.invariant.2

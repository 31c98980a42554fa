-- `before::merge` meets its contract: the first d masks are done. The measure is what is left. Assumes nothing.
use mathlib.Core.Path.{◌≡◌, ap, subst}
use Prim.Native.Nat.{ℕ}
use native.Mathlib.Omega.{arith}
use lib.Bits.{bit_or}
use lib.ListN.{get_or}
use Rattle.sets.specs.Mask.{slots}
use Rattle.before.proofs.LinkedLaws.{Changed, changed_none, changed_more, merged_at, merged_all}
use Rattle.before.proofs.merge.Goals as goal

pub loop-d-init : goal.loop-d-init
loop-d-init c = (omega arith, c.requires.0, changed_none _ c.args.masks.now)

pub bounds-masks-d : goal.bounds-masks-d
bounds-masks-d c = let z = c.loop-d.invariant.2.size in let y = c.loop-d.invariant.1 in omega (arith, z, y, c.loop-d-test.true)

pub bounds-others-d : goal.bounds-others-d
bounds-others-d c = omega (arith, c.requires.1, c.loop-d-test.true)

pub bounds-masks-d-in-loop-d : goal.bounds-masks-d-in-loop-d
bounds-masks-d-in-loop-d c = let z = c.loop-d.invariant.2.size in let y = c.loop-d.invariant.1 in omega (arith, z, y, c.loop-d-test.true)

pub loop-d-preserved : goal.loop-d-preserved
loop-d-preserved c =
    let l = c.loop-d in
    (omega arith, l.invariant.1, changed_more (merged_at c.args.masks.now c.args.others.now) l.d c.args.masks.now l.masks _ (let y = l.invariant.1 in omega (arith, y, c.loop-d-test.true)) (ap (λ (x : ℕ). bit_or x (get_or c.args.others.now l.d 0)) (l.invariant.2.left l.d (omega arith))) l.invariant.2)

pub shape_of-masks : goal.shape_of-masks
shape_of-masks c = c.loop-d.invariant.2.size

pub returns : goal.returns
returns c =
    let l = c.loop-d in
    let k : l.d ≡ slots = omega arith in
    merged_all c.args.masks.now c.args.others.now l.masks (subst (λ (x : ℕ). Changed (merged_at c.args.masks.now c.args.others.now) x c.args.masks.now l.masks) k l.invariant.2)

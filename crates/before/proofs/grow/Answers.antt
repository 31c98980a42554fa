-- `before::grow` meets its contract: the first e masks are done; the second and the third loop go on from what the one before left (`Going`). The
-- measure is what is left. Assumes nothing.
use mathlib.Core.Path.{◌≡◌, sym, subst, ◌∙◌}
use Prim.Native.Nat.{ℕ}
use native.Mathlib.Omega.{arith}
use lib.ListN.{length-set}
use Rattle.sets.specs.Mask.{slots}
use Rattle.before.proofs.LinkedLaws.{Changed, changed_none, grew_at, grew_more, grew_all}
use Rattle.before.proofs.grow.Goals as goal

pub loop-e-init : goal.loop-e-init
loop-e-init c = (omega arith, c.requires, changed_none _ c.args.masks.now)

pub bounds-masks-e : goal.bounds-masks-e
bounds-masks-e c = let z = c.loop-e.invariant.2.size in let y = c.loop-e.invariant.1 in omega (arith, z, y, c.loop-e-test.true)

pub bounds-masks-e-in-loop-e : goal.bounds-masks-e-in-loop-e
bounds-masks-e-in-loop-e c = let z = c.loop-e.invariant.2.size in let y = c.loop-e.invariant.1 in omega (arith, z, y, c.loop-e-test.true)

pub loop-e-preserved : goal.loop-e-preserved
loop-e-preserved c =
    let l = c.loop-e in
    (omega arith, l.invariant.1, grew_more c.args.m c.args.x l.e c.args.masks.now l.masks c.has.result c.gained.result (omega (arith, c.loop-e-test.true)) l.invariant.1 c.has.ensures c.gained.ensures l.invariant.2)

pub shape_of-masks-then-m-lt4096 : goal.shape_of-masks-then-m-lt4096
shape_of-masks-then-m-lt4096 c = c.loop-e.invariant.2.size

pub returns-then-m-lt4096 : goal.returns-then-m-lt4096
returns-then-m-lt4096 c =
    let a = c.args in
    let f = c.loop-e in
    let e1 : f.e ≡ 12 = omega arith in
    let one = subst (λ (i : ℕ). Changed (grew_at a.m a.x a.masks.now) i a.masks.now f.masks) e1 f.invariant.2 in
    grew_all a.m a.x 12 a.masks.now f.masks c.if-m-lt4096.true one

pub loop-e-2-init : goal.loop-e-2-init
loop-e-2-init c = (omega arith, omega arith, c.loop-e.invariant.2.size ∙ c.requires, λ l s c. c)

pub bounds-masks-e-in-loop-e-2 : goal.bounds-masks-e-in-loop-e-2
bounds-masks-e-in-loop-e-2 c = let z = c.loop-e-2.invariant.2 in omega (arith, z, c.loop-e-2-test.true)

pub bounds-masks-e-in-loop-e-2-2 : goal.bounds-masks-e-in-loop-e-2-2
bounds-masks-e-in-loop-e-2-2 c = let z = c.loop-e-2.invariant.2 in omega (arith, z, c.loop-e-2-test.true)

pub loop-e-2-preserved : goal.loop-e-2-preserved
loop-e-2-preserved c =
    let a = c.args in
    let g = c.loop-e-2 in
    (omega arith, omega arith, length-set g.masks g.e _ ∙ g.invariant.2, λ l s q. grew_more a.m a.x g.e l g.masks c.has-in-loop-e-2.result c.gained-in-loop-e-2.result (omega (arith, c.loop-e-2-test.true)) s c.has-in-loop-e-2.ensures c.gained-in-loop-e-2.ensures (g.invariant.3 l s q))

pub shape_of-masks-then-m-lt16777216 : goal.shape_of-masks-then-m-lt16777216
shape_of-masks-then-m-lt16777216 c = c.loop-e-2.invariant.2 ∙ sym c.requires

pub returns-then-m-lt16777216 : goal.returns-then-m-lt16777216
returns-then-m-lt16777216 c =
    let a = c.args in
    let f = c.loop-e in
    let e1 : f.e ≡ 12 = omega arith in
    let one = subst (λ (i : ℕ). Changed (grew_at a.m a.x a.masks.now) i a.masks.now f.masks) e1 f.invariant.2 in
    let g = c.loop-e-2 in
    let e2 : g.e ≡ 24 = omega arith in
    let two = subst (λ (i : ℕ). Changed (grew_at a.m a.x a.masks.now) i a.masks.now g.masks) e2 (g.invariant.3 a.masks.now c.requires one) in
    grew_all a.m a.x 24 a.masks.now g.masks c.if-m-lt16777216.true two

pub loop-e-3-init : goal.loop-e-3-init
loop-e-3-init c = (omega arith, omega arith, c.loop-e-2.invariant.2, λ l s c. c)

pub bounds-masks-e-in-loop-e-3 : goal.bounds-masks-e-in-loop-e-3
bounds-masks-e-in-loop-e-3 c = let z = c.loop-e-3.invariant.2 in omega (arith, z, c.loop-e-3-test.true)

pub bounds-masks-e-in-loop-e-3-2 : goal.bounds-masks-e-in-loop-e-3-2
bounds-masks-e-in-loop-e-3-2 c = let z = c.loop-e-3.invariant.2 in omega (arith, z, c.loop-e-3-test.true)

pub loop-e-3-preserved : goal.loop-e-3-preserved
loop-e-3-preserved c =
    let a = c.args in
    let g = c.loop-e-3 in
    (omega arith, omega arith, length-set g.masks g.e _ ∙ g.invariant.2, λ l s q. grew_more a.m a.x g.e l g.masks c.has-in-loop-e-3.result c.gained-in-loop-e-3.result (omega (arith, c.loop-e-3-test.true)) s c.has-in-loop-e-3.ensures c.gained-in-loop-e-3.ensures (g.invariant.3 l s q))

pub shape_of-masks : goal.shape_of-masks
shape_of-masks c = c.loop-e-3.invariant.2 ∙ sym c.requires

pub returns : goal.returns
returns c =
    let a = c.args in
    let f = c.loop-e in
    let e1 : f.e ≡ 12 = omega arith in
    let one = subst (λ (i : ℕ). Changed (grew_at a.m a.x a.masks.now) i a.masks.now f.masks) e1 f.invariant.2 in
    let g = c.loop-e-2 in
    let e2 : g.e ≡ 24 = omega arith in
    let two = subst (λ (i : ℕ). Changed (grew_at a.m a.x a.masks.now) i a.masks.now g.masks) e2 (g.invariant.3 a.masks.now c.requires one) in
    let h = c.loop-e-3 in
    let e3 : h.e ≡ slots = omega arith in
    grew_all a.m a.x slots a.masks.now h.masks c.ranges.m.fits (subst (λ (i : ℕ). Changed (grew_at a.m a.x a.masks.now) i a.masks.now h.masks) e3 (h.invariant.3 a.masks.now c.requires two))

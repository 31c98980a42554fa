-- The laws of specs/Lone.antt. Assumes nothing.
--     there, lone_seconds         no second access is there
--     lone_at                     the access at a byte is the first, or none
--     lone_meets, lone_picked     two events meet by their first accesses; those that an event meets
use mathlib.Core.Path.{◌≡◌, refl, sym, ap, ◌∙◌}
use mathlib.Core.Bool.{Bool, true, false, cond, not}
use mathlib.Core.List.{List}
use Prim.Native.Nat.{ℕ, ◌+◌, ◌*◌, ◌/◌, ◌%◌, ◌<◌, ◌≤◌}
use native.Mathlib.Omega.{arith}
use borrow.Author.Tests.{ltb-true, leb-true, eq-eqb, eqb-true}
use lib.Dec.{eqb, ltb, leb}
use Rattle.basis.specs.Test.{◌and◌, ◌or◌, non}
use Rattle.basis.proofs.BoolLaws.{by_bool, false_of, and_both, and_fails, and_assoc, and_swap, amp_and, not_non, or_none, eqb_swap}
use Rattle.format.specs.declared.Shape.{Shape}
use Rattle.format.specs.Shape.{no_shape, covers, overlap}
use Rattle.sets.specs.Mask.{slots, mem, remove}
use Rattle.sets.specs.Tells.{Tells}
use Rattle.sets.proofs.MaskLaws.{mem_remove, ext_all}
use Rattle.cells.specs.Walk.{picked}
use Rattle.cells.proofs.WalkLaws.{mem_picked}
use Rattle.tables.specs.Tables.{accesses, shape_in, at_in}
use Rattle.tables.specs.Seconds.{NoSecond}
use Rattle.tables.proofs.TablesLaws.{slot_first, slot_second, at_hit, at_miss, overlap_left, overlap_right}
use Rattle.own.specs.Own.{meets_in, met_in}
use Rattle.own.specs.Lone.{Lone}

-- ---- a loop over all slots

-- an access that is there
abbrev pub there : Shape → Bool
there s = not (eqb s.width 0)

pub lone_seconds : (t : List ℕ) {r : Bool} → Tells r (NoSecond there t accesses) → Tells r (Lone t slots)
unfolding NoSecond Lone
lone_seconds t g =
    record {
      holds = λ p e l. eqb-true (shape_in t (2 * e + 1)).width 0 (not_none _ (g.holds p (2 * e + 1) (omega (arith, l)) (omega arith)));
      fails = λ p h. g.fails p (λ i l o. ap not (eq-eqb (shape_in t i).width 0 (ap (λ (k : ℕ). (shape_in t k).width) (half i o) ∙ h (i / 2) (omega (arith, l)))));
    }
  where
    half : (i : ℕ) → i % 2 ≡ 1 → i ≡ 2 * (i / 2) + 1
    half i o = omega (arith, o)

    not_none : (b : Bool) → not b ≡ false → b ≡ true
    not_none true e = refl
    not_none false e = sym e

-- ---- first accesses alone

-- what has no byte covers none
covers_empty : (s : Shape) (a : ℕ) → s.width ≡ 0 → covers s a ≡ false
unfolding covers
covers_empty s a h =
    false_of _ (λ q. let p = and_both (leb s.start a) (ltb a (s.start + s.width)) q in let l = ltb-true a (s.start + s.width) p.1 in let k = leb-true s.start a p.0 in absurd (omega (arith, k, l, h)))

module _ (t : List ℕ) (alone : Lone t slots) (e : ℕ) (he : e < slots) where
  second : (shape_in t (2 * e + 1)).width ≡ 0
  unfolding Lone
  second = alone e he

  pub lone_at : (a : ℕ) → at_in t e a ≡ cond (covers (shape_in t (2 * e)) a) (shape_in t (2 * e)) no_shape
  lone_at a = by_bool (covers (shape_in t (2 * e)) a) hit miss
    where
      hit : covers (shape_in t (2 * e)) a ≡ true → at_in t e a ≡ cond (covers (shape_in t (2 * e)) a) (shape_in t (2 * e)) no_shape
      hit h =
          let k = slot_first t e a h in
          at_hit t e a (ap (λ (i : ℕ). covers (shape_in t i) a) k ∙ h) ∙ ap (shape_in t) k ∙ sym (ap (λ (b : Bool). cond b (shape_in t (2 * e)) no_shape) h)

      miss : covers (shape_in t (2 * e)) a ≡ false → at_in t e a ≡ cond (covers (shape_in t (2 * e)) a) (shape_in t (2 * e)) no_shape
      miss h =
          let k = slot_second t e a h in
          at_miss t e a (ap (λ (i : ℕ). covers (shape_in t i) a) k ∙ covers_empty (shape_in t (2 * e + 1)) a second) ∙ sym (ap (λ (b : Bool). cond b (shape_in t (2 * e)) no_shape) h)

module _ (t : List ℕ) (alone : Lone t slots) (e : ℕ) (he : e < slots) where
  pub lone_meets : (d : ℕ) → d < slots → overlap (shape_in t (2 * e)) (shape_in t (2 * d)) ≡ meets_in t e d
  unfolding meets_in ◌or◌
  lone_meets d hd =
      sym ((λ i. (overlap (shape_in t (2 * e)) (shape_in t (2 * d)) or overlap_right (shape_in t (2 * e)) (shape_in t (2 * d + 1)) (second t alone d hd) i)
      or (overlap_left (shape_in t (2 * e + 1)) (shape_in t (2 * d)) (second t alone e he) i or overlap_left (shape_in t (2 * e + 1)) (shape_in t (2 * d + 1)) (second t alone e he) i))
      ∙ or_none _ ∙ or_none _)

  abbrev firsts : ℕ → Bool
  firsts d = overlap (shape_in t (2 * e)) (shape_in t (2 * d))

  pub lone_picked : (n : ℕ) → n ≤ slots → remove (picked n firsts) e ≡ picked n (met_in t e)
  unfolding met_in
  lone_picked n few =
      ext_all (remove (picked n firsts) e) (picked n (met_in t e))
      (λ d. mem_remove (picked n firsts) e d ∙ amp_and (mem (picked n firsts) d) (not (eqb d e))
      ∙ (λ i. mem_picked n firsts d i and (not_non (eqb d e) ∙ ap non (eqb_swap d e)) i)
      ∙ and_assoc (ltb d n) (firsts d) (non (eqb e d))
      ∙ by_bool (ltb d n)
      (λ h. ap (λ (b : Bool). ltb d n and b) (and_swap (firsts d) (non (eqb e d)) ∙ ap (λ (b : Bool). non (eqb e d) and b) (lone_meets d (let l = ltb-true d n h in omega (arith, l, few)))))
      (λ h. and_fails (ltb d n) _ h ∙ sym (and_fails (ltb d n) _ h))
      ∙ sym (mem_picked n (met_in t e) d))

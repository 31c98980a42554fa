-- The laws of specs/steps/Near.antt, and what they say of events with one access each. Assumes nothing.
--     top_below, top_moved     bit 31 of a difference that the machine wraps, and of a number moved up by 30
--     near_is, wants_is        the tests, as the code has them
--     near_clash               the two halves together are the clash
--     first_apart, first_near  a pair of events by their first accesses, where they have no others
use Rattle.std.proofs.Common.{◌≡◌, ℕ, ◌+◌, ◌*◌, ◌/◌, ◌%◌, ◌^◌, ◌<◌, Bool, true, false, not, ◌&&◌, ◌||◌, eqb, ltb, List, get_or, sym, refl, ap, ◌∙◌, ap₂, ⊎_elim, mod-eq_of_lt, arith, le-ltb, lt-ltb, eq-eqb, ne_eqb, eqb-true}
use native.Mathlib.Decide.{dec_lt}
use lib.Bits.{bit_and, bit_or}
use Rattle.basis.specs.Test.{◌and◌, ◌or◌, non}
use Rattle.basis.proofs.BoolLaws.{amp_and, bar_or, not_non, and_holds, and_fails, and_false, or_none, or_either, bar_left, bar_right, not_both_ways}
use Rattle.format.specs.declared.Shape.{Shape}
use Rattle.format.specs.Shape.{writes, overlap, both_sc}
use Rattle.sets.specs.Mask.{slots, mem}
use Rattle.sets.proofs.MaskLaws.{mem_and, mem_or}
use Rattle.tables.specs.Tables.{accesses, shape_in}
use Rattle.own.specs.Lone.{Lone}
use Rattle.settle.specs.Settle.{clashing, clash_in}
use Rattle.settle.specs.steps.Ahead.{free_in}
use Rattle.settle.specs.steps.Near.{nearing, wanting}
use Rattle.settle.proofs.SettleLaws.{clash_left, clash_right}

-- ---- one bit

-- r is x less y, as the machine wraps it
pub top_below : (x y r : ℕ) → x < 2 ^ 31 → y < 2 ^ 31 → r < 2 ^ 32 → (r + y) % 2 ^ 32 ≡ x → mem r 31 ≡ ltb x y
unfolding mem
top_below x y r xl yl rl is = go (dec_lt x y)
  where
    go : Dec (x < y) → eqb (r / 2 ^ 31 % 2) 1 ≡ ltb x y
    go (yes l) = eq-eqb (r / 2 ^ 31 % 2) 1 (omega (arith, l)) ∙ sym (lt-ltb x y l)
    go (no f) = ne_eqb (r / 2 ^ 31 % 2) 1 (λ h. omega (arith, f, h)) ∙ sym (le-ltb x y (omega (arith, f)))

pub top_moved : (k : ℕ) → mem (k * 2 ^ 30 % 2 ^ 32) 31 ≡ mem k 1
unfolding mem
top_moved k = let h : k * 2 ^ 30 % 2 ^ 32 / 2 ^ 31 % 2 ≡ k / 2 ^ 1 % 2 = omega arith in ap (λ (i : ℕ). eqb i 1) h

pub near_is : (a b : Shape) (x y : ℕ) → a.start < 256 → a.width < 256 → b.start < 256 → b.width < 256 → x < 2 ^ 32 → y < 2 ^ 32 → (x + (b.start + b.width)) % 2 ^ 32 ≡ a.start
    → (y + (a.start + a.width)) % 2 ^ 32 ≡ b.start → mem (bit_and (bit_and x y) (bit_or a.kind b.kind * 2 ^ 30 % 2 ^ 32)) 31 ≡ nearing a b
unfolding nearing
near_is a b x y sa wa sb wb xl yl is_x is_y =
    let k = bit_or a.kind b.kind in
    let p = top_below a.start (b.start + b.width) x (omega arith) (omega arith) xl is_x in
    let q = top_below b.start (a.start + a.width) y (omega arith) (omega arith) yl is_y in
    mem_and (bit_and x y) (k * 2 ^ 30 % 2 ^ 32) 31
    ∙ ap₂ (λ (u v : Bool). u && v) (mem_and x y 31 ∙ ap₂ (λ (u v : Bool). u && v) p q ∙ amp_and _ _) (top_moved k)
    ∙ amp_and _ _

-- ---- the two halves

pub wants_is : (a b : Shape) (p q r : Bool) → p ≡ writes a → q ≡ writes b → r ≡ both_sc a b → ((ltb 0 a.width && ltb 0 b.width) && ((p || q) && not r)) ≡ wanting a b
unfolding wanting
wants_is a b p q r is-p is-q is-r =
    ap₂ (λ (u v : Bool). u && v) (amp_and (ltb 0 a.width) (ltb 0 b.width))
    (ap₂ (λ (u v : Bool). u && v) (bar_or p q ∙ ap₂ (λ (u v : Bool). u or v) is-p is-q) (not_non r ∙ ap non is-r) ∙ amp_and (writes a or writes b) (non (both_sc a b)))
    ∙ amp_and _ _

halves : (p q u v k w s : Bool) → (w ≡ true → k ≡ true) → (((u and v) and k) and ((p and q) and (w and s))) ≡ ((p and q and u and v) and (w and s))
unfolding ◌and◌
halves true true true true true w s h = refl
halves true false true true true w s h = refl
halves false q true true true w s h = refl
halves true true true true false true s h = absurd (not_both_ways (h refl) refl)
halves true true true true false false s h = refl
halves true false true true false w s h = refl
halves false q true true false w s h = refl
halves true true true false k w s h = refl
halves true false true false k w s h = refl
halves false q true false k w s h = refl
halves true true false v k w s h = refl
halves true false false v k w s h = refl
halves false q false v k w s h = refl

-- what writes has bit 1
writes_bit : (a : Shape) → writes a ≡ true → mem a.kind 1 ≡ true
unfolding writes mem
writes_bit a h =
    ⊎_elim (λ e. ap (λ (k : ℕ). eqb (k / 2 ^ 1 % 2) 1) (eqb-true a.kind 2 e)) (λ e. ap (λ (k : ℕ). eqb (k / 2 ^ 1 % 2) 1) (eqb-true a.kind 3 e))
    (or_either (eqb a.kind 2) (eqb a.kind 3) h)

either_bit : (a b : Shape) → (writes a or writes b) ≡ true → mem (bit_or a.kind b.kind) 1 ≡ true
either_bit a b h =
    mem_or a.kind b.kind 1
    ∙ ⊎_elim (λ w. bar_left (mem a.kind 1) (mem b.kind 1) (writes_bit a w)) (λ w. bar_right (mem a.kind 1) (mem b.kind 1) (writes_bit b w)) (or_either (writes a) (writes b) h)

pub near_clash : (a b : Shape) → (nearing a b and wanting a b) ≡ clashing a b
unfolding nearing wanting clashing overlap
near_clash a b =
    halves (ltb 0 a.width) (ltb 0 b.width) (ltb a.start (b.start + b.width)) (ltb b.start (a.start + a.width)) (mem (bit_or a.kind b.kind) 1) (writes a or writes b) (non (both_sc a b)) (either_bit a b)

-- ---- events with one access each

lone_clash : (t : List ℕ) → Lone t slots → (e d : ℕ) → e < slots → d < slots → clashing (shape_in t (2 * e)) (shape_in t (2 * d)) ≡ clash_in t e d
unfolding Lone clash_in ◌or◌
lone_clash t alone e d he hd =
    sym ((λ i. (clashing (shape_in t (2 * e)) (shape_in t (2 * d)) or clash_right (shape_in t (2 * e)) (shape_in t (2 * d + 1)) (alone d hd) i)
    or (clash_left (shape_in t (2 * e + 1)) (shape_in t (2 * d)) (alone e he) i or clash_left (shape_in t (2 * e + 1)) (shape_in t (2 * d + 1)) (alone e he) i))
    ∙ or_none _ ∙ or_none _)

module _ (t succ : List ℕ) (alone : Lone t slots) (e d : ℕ) (he : e < slots) (hd : d < slots) (a b : Shape) (is_a : a ≡ shape_in t (2 * e % accesses))
    (is_b : b ≡ shape_in t (2 * d % accesses)) where
  both : (nearing a b and wanting a b) ≡ clash_in t e d
  both =
      near_clash a b
      ∙ ap₂ clashing (is_a ∙ ap (shape_in t) (mod-eq_of_lt (omega arith))) (is_b ∙ ap (shape_in t) (mod-eq_of_lt (omega arith)))
      ∙ lone_clash t alone e d he hd

  pub first_apart : nearing a b ≡ false → false ≡ free_in t succ e d
  unfolding free_in
  first_apart h =
      sym (ap (λ (x : Bool). non (mem (get_or succ d 0) e) and x) (sym both ∙ and_fails (nearing a b) (wanting a b) h) ∙ and_false (non (mem (get_or succ d 0) e)))

  pub first_near : nearing a b ≡ true → (r w : Bool) → r ≡ mem (get_or succ d 0) e → w ≡ wanting a b → (not r && w) ≡ free_in t succ e d
  unfolding free_in
  first_near h r w is-r is-w =
      amp_and (not r) w ∙ ap₂ (λ (x y : Bool). x and y) (not_non r ∙ ap non is-r) (is-w ∙ sym (and_holds (nearing a b) (wanting a b) h) ∙ both)

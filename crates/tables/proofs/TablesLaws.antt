-- The laws of specs/Tables.antt. Assumes nothing.
--     slot_first, slot_second, slot_below, slot_lt     the slot of the access at a byte
--     at_hit, at_miss                      the access at a byte
--     reader_slot, writer_slot, first_slot, second_slot     a row, a pair names events that have a place
--     agent_place                          an agent has a place
--     overlap_left, overlap_right, across_first, across_none, across_rest, across_all     the accesses of two events, tested one after another
--     row_at_lem                               the row that the code reads at a place
use mathlib.Core.Path.{◌≡◌, sym, ap, ◌∙◌}
use mathlib.Core.Bool.{Bool, true, false, cond, ◌&&◌, ◌||◌}
use mathlib.Core.List.{List}
use Prim.Native.Nat.{ℕ, ◌+◌, ◌*◌, ◌%◌, ◌<◌}
use native.Mathlib.Nat.{mod-eq_of_lt}
use native.Mathlib.Omega.{arith}
use borrow.Author.Tests.{eqb-true}
use lib.Dec.{ltb, eqb}
use Rattle.format.specs.declared.Shape.{Shape}
use Rattle.format.specs.declared.Row.{Row}
use Rattle.basis.specs.Test.{◌and◌, ◌or◌}
use Rattle.basis.proofs.BoolLaws.{or_holds, or_fails, and_false, bar_or, by_bool, and_parts}
use Rattle.format.specs.Shape.{no_shape, covers, overlap}
use Rattle.sets.specs.Mask.{slots}
use Rattle.tables.specs.Tables.{agent_room, agent_in, accesses, shape_in, slot_in, at_in, row_room, row_in, pair_in, across_in}

module _ (t : List ℕ) (e a : ℕ) where
  pub slot_first : covers (shape_in t (2 * e)) a ≡ true → slot_in t e a ≡ 2 * e
  unfolding slot_in
  slot_first h = ap (λ (b : Bool). cond b (2 * e) (2 * e + 1)) h

  pub slot_second : covers (shape_in t (2 * e)) a ≡ false → slot_in t e a ≡ 2 * e + 1
  unfolding slot_in
  slot_second h = ap (λ (b : Bool). cond b (2 * e) (2 * e + 1)) h

  pub slot_below : (n : ℕ) → e < n → slot_in t e a < 2 * n
  slot_below n l = by_bool (covers (shape_in t (2 * e)) a) (λ h. omega (arith, slot_first h)) (λ h. omega (arith, slot_second h))

  pub slot_lt : e < slots → slot_in t e a < accesses
  slot_lt l = by_bool (covers (shape_in t (2 * e)) a) (λ h. omega (arith, slot_first h)) (λ h. omega (arith, slot_second h))

  pub at_hit : covers (shape_in t (slot_in t e a)) a ≡ true → at_in t e a ≡ shape_in t (slot_in t e a)
  unfolding at_in
  at_hit h = ap (λ (b : Bool). cond b (shape_in t (slot_in t e a)) no_shape) h

  pub at_miss : covers (shape_in t (slot_in t e a)) a ≡ false → at_in t e a ≡ no_shape
  unfolding at_in
  at_miss h = ap (λ (b : Bool). cond b (shape_in t (slot_in t e a)) no_shape) h

pub reader_slot : (q : List ℕ) (j : ℕ) → (row_in q j).reader < slots
unfolding row_in
reader_slot q j = omega arith

pub writer_slot : (q : List ℕ) (j : ℕ) → (row_in q j).writer < slots
unfolding row_in
writer_slot q j = omega arith

pub row_at_lem : (q : List ℕ) (j : ℕ) → j < row_room → (r : Row) → r ≡ row_in q (j % row_room) → r ≡ row_in q j
row_at_lem q j h r p = p ∙ ap (row_in q) (mod-eq_of_lt h)

pub first_slot : (p : List ℕ) (j : ℕ) → (pair_in p j).first < slots
unfolding pair_in
first_slot p j = omega arith

pub second_slot : (p : List ℕ) (j : ℕ) → (pair_in p j).second < slots
unfolding pair_in
second_slot p j = omega arith

pub agent_place : (t : List ℕ) (e : ℕ) → agent_in t e < agent_room
unfolding agent_in
agent_place t e = omega arith

-- ---- the accesses of two events, where second accesses are rare

pub overlap_left : (a b : Shape) → a.width ≡ 0 → overlap a b ≡ false
unfolding overlap ◌and◌
overlap_left a b e = ap (λ (w : ℕ). ltb 0 w and ltb 0 b.width and ltb a.start (b.start + b.width) and ltb b.start (a.start + a.width)) e

pub overlap_right : (a b : Shape) → b.width ≡ 0 → overlap a b ≡ false
unfolding overlap ◌and◌
overlap_right a b e =
    ap (λ (w : ℕ). ltb 0 a.width and ltb 0 w and ltb a.start (b.start + b.width) and ltb b.start (a.start + a.width)) e ∙ and_false (ltb 0 a.width)

-- R tested of all four
module _ (R : Shape → Shape → Bool) (t : List ℕ) (e d : ℕ) (he : e < slots) (hd : d < slots) (a b c f : Shape) (is_a : a ≡ shape_in t (2 * e % accesses))
    (is_b : b ≡ shape_in t ((2 * e + 1) % accesses)) (is_c : c ≡ shape_in t (2 * d % accesses)) (is_f : f ≡ shape_in t ((2 * d + 1) % accesses)) where
  pub across_all : (p q u v : Bool) → p ≡ R a c → q ≡ R a f → u ≡ R b c → v ≡ R b f → ((p || q) || (u || v)) ≡ across_in R t e d
  across_all p q u v is-p is-q is-u is-v =
      bar_or (p || q) (u || v) ∙ (λ z. bar_or p q z or bar_or u v z)
      ∙ (λ z. ((is-p ∙ (λ m. R (at_a m) (at_c m))) z or (is-q ∙ (λ m. R (at_a m) (at_f m))) z) or ((is-u ∙ (λ m. R (at_b m) (at_c m))) z or (is-v ∙ (λ m. R (at_b m) (at_f m))) z))
    where
      at_a : a ≡ shape_in t (2 * e)
      at_a = is_a ∙ ap (shape_in t) (mod-eq_of_lt (omega arith))

      at_b : b ≡ shape_in t (2 * e + 1)
      at_b = is_b ∙ ap (shape_in t) (mod-eq_of_lt (omega arith))

      at_c : c ≡ shape_in t (2 * d)
      at_c = is_c ∙ ap (shape_in t) (mod-eq_of_lt (omega arith))

      at_f : f ≡ shape_in t (2 * d + 1)
      at_f = is_f ∙ ap (shape_in t) (mod-eq_of_lt (omega arith))

-- R tested of the first accesses a, c, then, where one of the second accesses b, f is there, of the others
module _ (R : Shape → Shape → Bool) (t : List ℕ) (e d : ℕ) (he : e < slots) (hd : d < slots) (a c : Shape) (is_a : a ≡ shape_in t (2 * e % accesses))
    (is_c : c ≡ shape_in t (2 * d % accesses)) (r : Bool) (is : r ≡ R a c) where
  at_a : a ≡ shape_in t (2 * e)
  at_a = is_a ∙ ap (shape_in t) (mod-eq_of_lt (omega arith))

  at_c : c ≡ shape_in t (2 * d)
  at_c = is_c ∙ ap (shape_in t) (mod-eq_of_lt (omega arith))

  first_two : r ≡ R (shape_in t (2 * e)) (shape_in t (2 * d))
  first_two = is ∙ (λ z. R (at_a z) (at_c z))

  pub across_first : r ≡ true → true ≡ across_in R t e d
  across_first h = sym (or_holds _ _ (or_holds _ _ (sym first_two ∙ h)))

  module _ (b f : Shape) (is_b : b ≡ shape_in t ((2 * e + 1) % accesses)) (is_f : f ≡ shape_in t ((2 * d + 1) % accesses)) (h : r ≡ false) where
    at_b : b ≡ shape_in t (2 * e + 1)
    at_b = is_b ∙ ap (shape_in t) (mod-eq_of_lt (omega arith))

    at_f : f ≡ shape_in t (2 * d + 1)
    at_f = is_f ∙ ap (shape_in t) (mod-eq_of_lt (omega arith))

    pub across_none : ((x y : Shape) → x.width ≡ 0 → R x y ≡ false) → ((x y : Shape) → y.width ≡ 0 → R x y ≡ false)
        → (eqb b.width 0 && eqb f.width 0) ≡ true → false ≡ across_in R t e d
    across_none left right w =
        let p = and_parts (eqb b.width 0) (eqb f.width 0) w in
        let wb = ap (λ (s : Shape). s.width) (sym at_b) ∙ eqb-true b.width 0 p.0 in
        let wf = ap (λ (s : Shape). s.width) (sym at_f) ∙ eqb-true f.width 0 p.1 in
        sym (or_fails _ _ (or_fails _ _ (sym first_two ∙ h) ∙ right (shape_in t (2 * e)) (shape_in t (2 * d + 1)) wf)
        ∙ or_fails _ _ (left (shape_in t (2 * e + 1)) (shape_in t (2 * d)) wb) ∙ left (shape_in t (2 * e + 1)) (shape_in t (2 * d + 1)) wb)

    pub across_rest : (p q u : Bool) → p ≡ R a f → q ≡ R b c → u ≡ R b f → (p || (q || u)) ≡ across_in R t e d
    across_rest p q u is-p is-q is-u =
        bar_or p (q || u) ∙ ap (λ (z : Bool). p or z) (bar_or q u)
        ∙ (λ z. (is-p ∙ (λ m. R (at_a m) (at_f m))) z or ((is-q ∙ (λ m. R (at_b m) (at_c m))) z or (is-u ∙ (λ m. R (at_b m) (at_f m))) z))
        ∙ ap (λ (z : Bool). z or (R (shape_in t (2 * e + 1)) (shape_in t (2 * d)) or R (shape_in t (2 * e + 1)) (shape_in t (2 * d + 1)))) (sym (or_fails _ _ (sym first_two ∙ h)))

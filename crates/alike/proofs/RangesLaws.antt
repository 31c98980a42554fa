-- The laws of specs/Ranges.antt. Assumes nothing.
--     writers_mem, writers_one     a member of writers_in
--     matched_length        no mask more
--     gains_mem             a mask that gains an event by a test
--     equals_mem            the sets of equal ranges, event by event
use mathlib.Core.Path.{◌≡◌, refl, sym, ap, ◌∙◌}
use mathlib.Core.Bool.{Bool, true, false, cond}
use mathlib.Core.Logic.{⊎_elim}
use mathlib.Core.List.{List}
use Prim.Native.Nat.{ℕ, zero, suc, ◌+◌, ◌*◌, ◌≤◌, ◌<◌}
use native.Mathlib.Omega.{arith}
use borrow.Author.Tests.{lt-ltb, le-ltb, ltb-true, ltb-false}
use lib.Dec.{eqb, ltb}
use lib.ListN.{length, get_or, replicate, length-replicate, get_or-replicate}
use Rattle.basis.specs.Test.{◌and◌, ◌or◌}
use Rattle.basis.proofs.BoolLaws.{and_fails, and_both, both_hold, or_holds, or_fails, or_none, or_second, or_either, or_assoc, bar_or, by_bool, bool_ext, eqb_swap, below_next}
use Rattle.format.specs.Shape.{writes, sc}
use Rattle.sets.specs.Mask.{slots, mem, Has, insert}
use Rattle.sets.proofs.MaskLaws.{mem_empty, mem_insert}
use Rattle.cells.specs.Walk.{up_to, only_of, over}
use Rattle.cells.proofs.WalkLaws.{mem_picked}
use Rattle.cells.proofs.CellsLaws.{placing_length, placing_at, placing_beyond}
use Rattle.tables.specs.Tables.{accesses, shape_in}
use Rattle.alike.specs.Ranges.{hits, sharing, sc_writes, writers_in, as_in, match, span_of, matched_in, side_in, equals_on, equals_in, matches}

module _ (t : List ℕ) (n b v : ℕ) where
  pub writers_mem : mem (writers_in t n b) v ≡ (ltb v n and sc_writes t (2 * v + b))
  unfolding writers_in
  writers_mem = mem_picked n (λ (d : ℕ). sc_writes t (2 * d + b)) v

  pub writers_one : Has (writers_in t n b) v → (v < n) × (sc_writes t (2 * v + b) ≡ true)
  writers_one h = let w = and_both (ltb v n) _ (sym writers_mem ∙ h) in (ltb-true v n w.0, w.1)

  pub matched_length : (l : List ℕ) → length (matched_in t n b v l) ≡ length l
  unfolding matched_in
  matched_length l = placing_length _ l (span_of n l)

-- a mask that gains v by a test
pub gains_mem : (c : Bool) (m v d : ℕ) → mem (cond c (insert m v) m) d ≡ (mem m d or (c and eqb d v))
unfolding ◌and◌ ◌or◌
gains_mem true m v d = mem_insert m v d ∙ bar_or (mem m d) (eqb d v)
gains_mem false m v d = sym (or_none (mem m d))

module _ (t : List ℕ) (n b : ℕ) (few : n ≤ slots) (k : ℕ) (inside : k < accesses) where
  matched_mem : (v d : ℕ) (l : List ℕ) → length l ≡ accesses → mem (get_or (matched_in t n b v l) k 0) d ≡ (mem (get_or l k 0) d or (as_in t n (2 * v + b) k and eqb d v))
  unfolding matched_in as_in ◌and◌
  matched_mem v d l long =
      by_bool (ltb k (span_of n l))
      (λ e. ap (λ (m : ℕ). mem m d) (placing_at (match (as_in t n (2 * v + b)) v l) l (span_of n l) k (ltb-true k _ e) (omega arith)) ∙ gains_mem (as_in t n (2 * v + b) k) (get_or l k 0) v d)
      (λ e.
      let z = ltb-false k _ e in
      ap (λ (m : ℕ). mem m d) (placing_beyond (match (as_in t n (2 * v + b)) v l) l (span_of n l) k z)
      ∙ sym (ap (λ (x : Bool). mem (get_or l k 0) d or (x and eqb d v)) (and_fails (ltb k (2 * n)) _ (le-ltb k (2 * n) (omega arith))) ∙ or_none (mem (get_or l k 0) d)))

  module _ (l : List ℕ) (long : length l ≡ accesses) where
    abbrev after : ℕ → List ℕ
    after j = up_to (only_of (writers_in t n b) (matched_in t n b)) j l

    after_length : (j : ℕ) → length (after j) ≡ accesses
    unfolding up_to
    after_length zero = long
    after_length (suc j) = go (mem (writers_in t n b) j) ∙ after_length j
      where
        go : (c : Bool) → length (cond c (matched_in t n b j (after j)) (after j)) ≡ length (after j)
        go true = matched_length t n b j (after j)
        go false = refl

    -- event d writes sc with the range of slot k
    abbrev gets : ℕ → Bool
    gets d = mem (writers_in t n b) d and as_in t n (2 * d + b) k

    one_more : (c : Bool) (j d : ℕ) (r : List ℕ) → length r ≡ accesses → mem (get_or (cond c (matched_in t n b j r) r) k 0) d ≡ (mem (get_or r k 0) d or ((c and as_in t n (2 * j + b) k) and eqb j d))
    unfolding ◌and◌ ◌or◌
    one_more true j d r h = matched_mem j d r h ∙ ap (λ (x : Bool). mem (get_or r k 0) d or (as_in t n (2 * j + b) k and x)) (eqb_swap d j)
    one_more false j d r h = sym (or_none (mem (get_or r k 0) d))

    after_mem : (d j : ℕ) → mem (get_or (after j) k 0) d ≡ (mem (get_or l k 0) d or (ltb d j and gets d))
    unfolding up_to ◌or◌
    after_mem d zero = sym (ap (λ (z : Bool). mem (get_or l k 0) d or z) (and_fails (ltb d 0) _ (le-ltb d 0 (omega arith))) ∙ or_none (mem (get_or l k 0) d))
    after_mem d (suc j) =
        one_more (mem (writers_in t n b) j) j d (after j) (after_length j)
        ∙ ap (λ (z : Bool). z or (gets j and eqb j d)) (after_mem d j)
        ∙ or_assoc (mem (get_or l k 0) d) (ltb d j and gets d) (gets j and eqb j d)
        ∙ ap (λ (z : Bool). mem (get_or l k 0) d or z) (below_next gets j d)

    side_length : length (side_in t n b l) ≡ accesses
    unfolding side_in over
    side_length = after_length slots

    side_mem : (d : ℕ) → mem (get_or (side_in t n b l) k 0) d ≡ (mem (get_or l k 0) d or (ltb d slots and gets d))
    unfolding side_in over
    side_mem d = after_mem d slots

-- the sets of equal ranges, event by event
module _ (t : List ℕ) (n : ℕ) (few : n ≤ slots) (k : ℕ) (v : ℕ) where
  abbrev side : ℕ → Bool
  side b = ltb v slots and (mem (writers_in t n b) v and as_in t n (2 * v + b) k)

  side_back : (b : ℕ) → side b ≡ true → (v < n) × (ltb k (2 * n) ≡ true) × (sc (shape_in t k) ≡ true) × (hits (shape_in t (2 * v + b)) (shape_in t k) ≡ true)
  unfolding sc_writes as_in hits
  side_back b h =
      let p = and_both (mem (writers_in t n b) v) _ (and_both (ltb v slots) _ h).1 in
      let w = writers_one t n b v p.0 in
      let q = and_both (ltb k (2 * n)) _ p.1 in
      let r = and_both (sc (shape_in t k)) _ q.1 in
      let u = and_both (sc (shape_in t (2 * v + b))) _ w.1 in
      (w.0, q.0, r.0, both_hold _ _ u.0 (both_hold _ _ u.1 r.1))

  side_forth : (b : ℕ) → v < n → ltb k (2 * n) ≡ true → sc (shape_in t k) ≡ true → hits (shape_in t (2 * v + b)) (shape_in t k) ≡ true → side b ≡ true
  unfolding sc_writes as_in hits
  side_forth b l h s g =
      let u = and_both (sc (shape_in t (2 * v + b))) _ g in
      let w = and_both (writes (shape_in t (2 * v + b))) _ u.1 in
      both_hold _ _ (lt-ltb v slots (omega arith))
      (both_hold _ _ (writers_mem t n b v ∙ both_hold _ _ (lt-ltb v n l) (both_hold _ _ u.0 w.0))
      (both_hold _ _ h (both_hold _ _ s w.1)))

  none_more : hits (shape_in t (2 * v + 0)) (shape_in t k) ≡ hits (shape_in t (2 * v)) (shape_in t k)
  none_more = let z : 2 * v + 0 ≡ 2 * v = omega arith in ap (λ (i : ℕ). hits (shape_in t i) (shape_in t k)) z

  sides : (side 0 or side 1) ≡ (ltb v n and matches t n k v)
  unfolding matches sharing
  sides =
      bool_ext _ _
      (λ h. ⊎_elim
      (λ g. let w = side_back 0 g in both_hold _ _ (lt-ltb v n w.0) (both_hold _ _ w.1 (both_hold _ _ w.2 (or_holds _ _ (sym none_more ∙ w.3)))))
      (λ g. let w = side_back 1 g in both_hold _ _ (lt-ltb v n w.0) (both_hold _ _ w.1 (both_hold _ _ w.2 (or_second _ _ w.3))))
      (or_either _ _ h))
      (λ h.
      let a = and_both (ltb v n) _ h in
      let b = and_both (ltb k (2 * n)) _ a.1 in
      let c = and_both (sc (shape_in t k)) _ b.1 in
      let l = ltb-true v n a.0 in
      ⊎_elim (λ g. or_holds _ _ (side_forth 0 l b.0 c.0 (none_more ∙ g))) (λ g. or_second _ _ (side_forth 1 l b.0 c.0 g)) (or_either _ _ c.1))

  pub equals_mem : k < accesses → mem (get_or (equals_in t n) k 0) v ≡ (ltb v n and matches t n k v)
  unfolding equals_in equals_on
  equals_mem h =
      let long = length-replicate {A = ℕ} accesses 0 in
      side_mem t n 1 few k h (side_in t n 0 (replicate accesses 0)) (side_length t n 0 few k h (replicate accesses 0) long) v
      ∙ ap (λ (z : Bool). z or side 1) (side_mem t n 0 few k h (replicate accesses 0) long v
      ∙ or_fails _ _ (ap (λ (m : ℕ). mem m v) (get_or-replicate accesses k 0 0 h) ∙ mem_empty v))
      ∙ sides

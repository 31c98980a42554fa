-- The laws of specs/Table.antt. Assumes nothing.
--     marked_marking marked_cleared            what is marked after a mark, and in a cleared table
--     marking_new marking_old marking_cases    the first as facts
--     length_marking drop_marking              a mark changes nothing else
--     bytes_few bytes_many bytes_mono place_within     how many bytes the sets of n events take
--     cleared_within cleared_rest cleared_again length_cleared    a cleared table
--     marks_marking marks_cleared              the number of marks
use mathlib.Core.Path.{◌≡◌, refl, sym, ap, ap₂, ◌∙◌}
use mathlib.Core.Bool.{Bool, true, false, ◌||◌, or-false}
use mathlib.Core.Logic.{◌⊎◌, inl, inr, ⊎_elim}
use mathlib.Core.List.{List, ◌++◌}
use Prim.Native.Nat.{ℕ, suc, ◌-◌, ◌*◌, ◌/◌, ◌%◌, ◌^◌, ◌≤◌, ◌<◌, min}
use native.Mathlib.Nat.{lt_of_lt_of_le, le_of_suc-le-suc, sub-add_cancel}
use native.Mathlib.Decide.{ℕ_discrete, dec_lt}
use native.Mathlib.Omega.{arith}
use borrow.Author.Tests.{eq-eqb, ne_eqb, eqb-true}
use lib.Dec.{eqb}
use lib.ListN.{length, get_or, set, drop, replicate, length-append, length-drop, length-set, length-replicate, get_or-replicate, drop_of_length-le, get_or-append}
use lib.Seq.{get_or-set_same, get_or-set_other, drop-set-lt, drop_at}
use lib.Pow.{pow_pos, pow-add, pow_mono}
use Rattle.basis.proofs.BoolLaws.{eqb_self, bar_cases, bar_left, bar_right}
use Rattle.sets.specs.Mask.{mem, insert}
use Rattle.sets.specs.Count.{count}
use Rattle.marks.specs.Table.{is_marked, marking, bytes_for, cleared}
use Rattle.sets.proofs.MaskLaws.{mem_insert, mem_empty}
use Rattle.sets.proofs.CountLaws.{count_more, count_none}

-- ---- marking

pub length_marking : (t : List ℕ) (x : ℕ) → length (marking t x) ≡ length t
unfolding marking
length_marking t x = length-set t (x / 8) (insert (get_or t (x / 8) 0) (x % 8))

-- what stands after the first n bytes is not touched by a set within them
pub drop_marking : (n : ℕ) (t : List ℕ) (x : ℕ) → x / 8 < n → drop n (marking t x) ≡ drop n t
unfolding marking
drop_marking n t x h = drop-set-lt n t (x / 8) (insert (get_or t (x / 8) 0) (x % 8)) h

eqb_place : (x y : ℕ) → x / 8 ≡ y / 8 → eqb (y % 8) (x % 8) ≡ eqb y x
eqb_place x y q = go (ℕ_discrete y x)
  where
    go : Dec (y ≡ x) → eqb (y % 8) (x % 8) ≡ eqb y x
    go (yes p) = eq-eqb (y % 8) (x % 8) (ap (λ (k : ℕ). k % 8) p) ∙ sym (eq-eqb y x p)
    go (no f) = ne_eqb (y % 8) (x % 8) (λ r. f (omega arith)) ∙ sym (ne_eqb y x f)

module _ (t : List ℕ) (x y : ℕ) (h : x / 8 < length t) (v : ℕ) (e : v ≡ insert (get_or t (x / 8) 0) (x % 8)) where
  marked_set : Dec (y / 8 ≡ x / 8) → mem (get_or (set t (x / 8) v) (y / 8) 0) (y % 8) ≡ (mem (get_or t (y / 8) 0) (y % 8) || eqb y x)
  marked_set (yes p) =
      ap (λ (k : ℕ). mem (get_or (set t (x / 8) v) k 0) (y % 8)) p ∙ ap (λ (k : ℕ). mem k (y % 8)) (get_or-set_same t (x / 8) v 0 h ∙ e)
      ∙ mem_insert (get_or t (x / 8) 0) (x % 8) (y % 8)
      ∙ ap₂ (λ (a b : Bool). a || b) (ap (λ (k : ℕ). mem (get_or t k 0) (y % 8)) (sym p)) (eqb_place x y (sym p))
  marked_set (no f) =
      ap (λ (k : ℕ). mem k (y % 8)) (get_or-set_other t (x / 8) (y / 8) v 0 f)
      ∙ sym (ap (λ (b : Bool). mem (get_or t (y / 8) 0) (y % 8) || b) (ne_eqb y x (λ e. f (ap (λ (k : ℕ). k / 8) e))) ∙ or-false (mem (get_or t (y / 8) 0) (y % 8)))

pub marked_marking : (t : List ℕ) (x y : ℕ) → x / 8 < length t → is_marked (marking t x) y ≡ (is_marked t y || eqb y x)
unfolding is_marked marking
marked_marking t x y h = marked_set t x y h (insert (get_or t (x / 8) 0) (x % 8)) refl (ℕ_discrete (y / 8) (x / 8))

-- the same as facts
module _ (t : List ℕ) (x : ℕ) (h : x / 8 < length t) where
  pub marking_new : is_marked (marking t x) x ≡ true
  marking_new = marked_marking t x x h ∙ bar_right (is_marked t x) (eqb x x) (eqb_self x)

  pub marking_old : (y : ℕ) → is_marked t y ≡ true → is_marked (marking t x) y ≡ true
  marking_old y g = marked_marking t x y h ∙ bar_left (is_marked t y) (eqb y x) g

  pub marking_cases : (y : ℕ) → is_marked (marking t x) y ≡ true → (is_marked t y ≡ true) ⊎ (y ≡ x)
  marking_cases y g = ⊎_elim inl (λ q. inr (eqb-true y x q)) (bar_cases (is_marked t y) (eqb y x) (sym (marked_marking t x y h) ∙ g))

-- ---- a cleared table

pub cleared_min : (n k : ℕ) (t : List ℕ) → k ≡ min n (length t) → replicate k 0 ++ drop k t ≡ cleared n t
unfolding cleared
cleared_min n k t e = ap (λ (x : ℕ). replicate x 0 ++ drop k t) e ∙ ap (λ (x : List ℕ). replicate (min n (length t)) 0 ++ x) (go (dec_lt n (length t)))
  where
    go : Dec (n < length t) → drop k t ≡ drop n t
    go (yes l) = let q : k ≡ n = omega arith in ap (λ (x : ℕ). drop x t) q
    go (no f) =
        let a : length t ≤ k = omega arith in
        let b : length t ≤ n = omega arith in
        drop_of_length-le t a ∙ sym (drop_of_length-le t b)

module _ (n : ℕ) (t : List ℕ) (fits : n ≤ length t) where
  pub cleared_within : cleared n t ≡ replicate n 0 ++ drop n t
  unfolding cleared
  cleared_within = let q : min n (length t) ≡ n = omega arith in ap (λ (k : ℕ). replicate k 0 ++ drop n t) q

  pub length_cleared : length (cleared n t) ≡ length t
  length_cleared = ap length cleared_within ∙ simp (length-append, length-replicate, length-drop) (omega arith)

  pub marked_cleared : (x : ℕ) → x / 8 < n → is_marked (cleared n t) x ≡ false
  unfolding is_marked
  marked_cleared x h =
      ap (λ (l : List ℕ). mem (get_or l (x / 8) 0) (x % 8)) cleared_within
      ∙ ap (λ (k : ℕ). mem k (x % 8)) (get_or-append (replicate n 0) (drop n t) 0 (x / 8) (rw length-replicate h) ∙ get_or-replicate n (x / 8) 0 0 h)
      ∙ mem_empty (x % 8)

  pub cleared_rest : drop n (cleared n t) ≡ drop n t
  cleared_rest = ap (drop n) cleared_within ∙ drop_at (replicate n 0) (drop n t) n (length-replicate n 0)

-- cleared, changed in those bytes alone, and cleared again
pub cleared_again : (n : ℕ) (t u : List ℕ) → n ≤ length t → length u ≡ length t → drop n u ≡ drop n (cleared n t) → cleared n u ≡ cleared n t
cleared_again n t u l e r =
    cleared_within n u (omega arith) ∙ ap (λ (x : List ℕ). replicate n 0 ++ x) (r ∙ cleared_rest n t l) ∙ sym (cleared_within n t l)

-- ---- how many bytes

few : (n : ℕ) → n < 3 → 2 ^ n ≤ 4
few n h = pow_mono (le_of_suc-le-suc h)

eights : (n : ℕ) → 3 ≤ n → 2 ^ n ≡ 2 ^ (n - 3) * 8
eights n h = ap (λ (k : ℕ). 2 ^ k) (sym (sub-add_cancel h)) ∙ pow-add 2 (n - 3) 3

pub bytes_few : (n : ℕ) → n < 3 → bytes_for n ≡ 1
bytes_few n h = omega (arith, few n h)

pub bytes_many : (n : ℕ) → 3 ≤ n → bytes_for n ≡ 2 ^ (n - 3)
bytes_many n h = omega (arith, eights n h, pow_pos (n - 3))

pub bytes_mono : (m n : ℕ) → m ≤ n → bytes_for m ≤ bytes_for n
bytes_mono m n h = let p : 2 ^ m ≤ 2 ^ n = pow_mono h in omega arith

-- the byte of a set of n events is within the bytes for n events
pub place_within : (n x : ℕ) → x < 2 ^ n → x / 8 < bytes_for n
place_within n x h = go (dec_lt n 3)
  where
    go : Dec (n < 3) → x / 8 < bytes_for n
    go (yes l) = omega (arith, few n l)
    go (no f) = let l : 3 ≤ n = omega arith in omega (arith, eights n l)

-- ---- the number of marks

-- a set of the n events that the table did not mark makes one marked set more
pub marks_marking : (n : ℕ) (t : List ℕ) (x : ℕ) → bytes_for n ≤ length t → x < 2 ^ n → is_marked t x ≡ false
    → count (is_marked (marking t x)) (2 ^ n) ≡ suc (count (is_marked t) (2 ^ n))
marks_marking n t x r l h =
    count_more (is_marked t) (is_marked (marking t x)) (2 ^ n) x l h (λ y k. marked_marking t x y (lt_of_lt_of_le (place_within n x l) r))

pub marks_cleared : (n : ℕ) (t : List ℕ) → bytes_for n ≤ length t → count (is_marked (cleared (bytes_for n) t)) (2 ^ n) ≡ 0
marks_cleared n t r = count_none (is_marked (cleared (bytes_for n) t)) (2 ^ n) (λ x l. marked_cleared (bytes_for n) t r x (place_within n x l))

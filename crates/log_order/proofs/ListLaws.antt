-- The laws of the list's tests (specs/Listed.antt), by crate orders' In, Precedes and Distinct. Assumes nothing.
--     stood_none, stood_next, ahead_none, ahead_next     place by place
--     stood_at, at_stood                                 a number that stood has a place
--     ahead_precedes, precedes_ahead                     what `ahead` tests
--     bad_range, good_range, good_once                   a number that is out of range; one that is not at fault
--     is_event, is_once, is_all                          numbers without a fault name each event once
--     has_length, has_numbers                            and back
use mathlib.Core.Path.{◌≡◌, refl, ap, ◌∙◌, subst}
use mathlib.Core.Bool.{true, false}
use mathlib.Core.Logic.{⊎_elim}
use mathlib.Core.List.{List, ◌∷◌}
use Prim.Native.Nat.{ℕ, ◌+◌, ◌≤◌, ◌<◌}
use native.Mathlib.Numerals.{add-one}
use native.Mathlib.Omega.{arith}
use native.Mathlib.Decide.{dec_lt}
use borrow.Author.Tests.{eq-eqb, eqb-true, lt-ltb, le-ltb}
use lib.Dec.{eqb, ltb}
use lib.ListN.{length, get_or}
use Rattle.basis.specs.Test.{◌and◌, ◌or◌, non, any, from}
use Rattle.basis.proofs.BoolLaws.{by_bool, not_both_ways, false_of, true_T, T_true, and_both, both_hold, or_holds, or_either, or_second, non_true, non_holds}
use Rattle.basis.proofs.ListLaws.{from_length, from_mem, from_elim}
use Rattle.basis.proofs.LoopLaws.{any_elim, any_intro, any_next}
use Rattle.orders.specs.Order.{In, Precedes, Distinct}
use Rattle.orders.proofs.PlaceLaws.{in_at, at_in_lem, Apart, precedes_at, at_precedes, distinct_at, at_distinct, distinct_le, upto_in, upto_below, upto_distinct}
use Rattle.log_order.specs.Listed.{stood, ahead_in, ahead, bad_at}

-- ---- place by place

pub stood_none : (l : List ℕ) (e : ℕ) → stood l 0 e ≡ false
unfolding stood any from
stood_none l e = refl

pub stood_next : (l : List ℕ) (j e : ℕ) → stood l (j + 1) e ≡ (stood l j e or eqb (get_or l j 0) e)
unfolding stood
stood_next l j e = ap (λ (i : ℕ). stood l i e) (add-one j) ∙ any_next (λ (k : ℕ). eqb (get_or l k 0) e) j

pub ahead_none : (l : List ℕ) (a b : ℕ) → ahead_in l 0 a b ≡ false
unfolding ahead_in any from
ahead_none l a b = refl

pub ahead_next : (l : List ℕ) (j a b : ℕ) → ahead_in l (j + 1) a b ≡ (ahead_in l j a b or (eqb (get_or l j 0) b and stood l j a))
unfolding ahead_in
ahead_next l j a b = ap (λ (i : ℕ). ahead_in l i a b) (add-one j) ∙ any_next (λ (k : ℕ). eqb (get_or l k 0) b and stood l k a) j

-- ---- what the tests say

pub stood_at : (l : List ℕ) (n e : ℕ) → stood l n e ≡ true → (k : ℕ) × (k < n) × (get_or l k 0 ≡ e)
unfolding stood
stood_at l n e h =
    let w = any_elim (λ (k : ℕ). eqb (get_or l k 0) e) (from 0 n) (true_T _ h) in
    let z = from_elim n 0 w.0 w.1 in
    (w.0, omega (arith, z.1), eqb-true (get_or l w.0 0) e (T_true _ w.2))

pub at_stood : (l : List ℕ) (n k : ℕ) → k < n → stood l n (get_or l k 0) ≡ true
unfolding stood
at_stood l n k h =
    T_true _ (any_intro (λ (i : ℕ). eqb (get_or l i 0) (get_or l k 0)) (from 0 n) k (from_mem n 0 k (omega arith) (omega arith)) (true_T _ (eq-eqb (get_or l k 0) (get_or l k 0) refl)))

ahead_at : (l : List ℕ) (n a b : ℕ) → ahead_in l n a b ≡ true → Apart a b l n
unfolding ahead_in
ahead_at l n a b h =
    let w = any_elim (λ (k : ℕ). eqb (get_or l k 0) b and stood l k a) (from 0 n) (true_T _ h) in
    let z = from_elim n 0 w.0 w.1 in
    let p = and_both (eqb (get_or l w.0 0) b) (stood l w.0 a) (T_true _ w.2) in
    let q = stood_at l w.0 a p.1 in
    record { i = q.0; j = w.0; rising = q.1; within = omega (arith, z.1); one = q.2; two = eqb-true (get_or l w.0 0) b p.0 }

at_ahead : (l : List ℕ) (n i j : ℕ) → i < j → j < n → ahead_in l n (get_or l i 0) (get_or l j 0) ≡ true
unfolding ahead_in
at_ahead l n i j h k =
    T_true _ (any_intro (λ (m : ℕ). eqb (get_or l m 0) (get_or l j 0) and stood l m (get_or l i 0)) (from 0 n) j (from_mem n 0 j (omega arith) (omega arith))
    (true_T _ (both_hold (eqb (get_or l j 0) (get_or l j 0)) (stood l j (get_or l i 0)) (eq-eqb (get_or l j 0) (get_or l j 0) refl) (at_stood l j i h))))

pub ahead_precedes : (l : List ℕ) (a b : ℕ) → ahead l a b ≡ true → Precedes a b l
ahead_precedes l a b h = at_precedes a b l (ahead_at l (length l) a b h)

pub precedes_ahead : (l : List ℕ) (a b : ℕ) → Precedes a b l → ahead l a b ≡ true
precedes_ahead l a b h =
    let w = precedes_at a b l h in
    subst (λ (x : ℕ). ahead l x b ≡ true) w.one (subst (λ (y : ℕ). ahead l (get_or l w.i 0) y ≡ true) w.two (at_ahead l (length l) w.i w.j w.rising w.within))

-- ---- numbers

pub bad_range : (m : ℕ) (l : List ℕ) (j : ℕ) → m ≤ get_or l j 0 → bad_at m l j ≡ true
unfolding bad_at
bad_range m l j h = or_holds (non (ltb (get_or l j 0) m)) (stood l j (get_or l j 0)) (non_holds (ltb (get_or l j 0) m) (le-ltb (get_or l j 0) m h))

pub bad_again : (m : ℕ) (l : List ℕ) (j : ℕ) → stood l j (get_or l j 0) ≡ true → bad_at m l j ≡ true
unfolding bad_at
bad_again m l j h = or_second (non (ltb (get_or l j 0) m)) (stood l j (get_or l j 0)) h

pub good_range : (m : ℕ) (l : List ℕ) (i : ℕ) → bad_at m l i ≡ false → get_or l i 0 < m
good_range m l i h = go (dec_lt (get_or l i 0) m)
  where
    go : Dec (get_or l i 0 < m) → get_or l i 0 < m
    go (yes k) = k
    go (no k) = absurd (not_both_ways (bad_range m l i (omega (arith, k))) h)

pub good_once : (m : ℕ) (l : List ℕ) (i : ℕ) → bad_at m l i ≡ false → stood l i (get_or l i 0) ≡ false
good_once m l i h = false_of (stood l i (get_or l i 0)) (λ k. not_both_ways (bad_again m l i k) h)

module _ (m : ℕ) (l : List ℕ) (long : length l ≡ m) (numbers : (i : ℕ) → i < length l → bad_at m l i ≡ false) where
  pub is_event : (e : ℕ) → In e l → e < m
  is_event e h = let w = in_at e l h in let k = good_range m l w.0 (numbers w.0 w.1) in omega (arith, w.2, k)

  pub is_once : Distinct l
  is_once = at_distinct l (λ i j h k e. not_both_ways (subst (λ (x : ℕ). stood l j x ≡ true) e (at_stood l j i h)) (good_once m l j (numbers j k)))

  pub is_all : (e : ℕ) → e < m → In e l
  is_all e h =
      by_bool (stood l (length l) e)
      (λ p. let w = stood_at l (length l) e p in subst (λ (x : ℕ). In x l) w.2 (at_in_lem l w.0 w.1))
      (λ p.
      let n = from_length 0 m in
      let d = distinct_le (e ∷ l) (from 0 m) (λ k. let w = in_at e l k in not_both_ways (subst (λ (x : ℕ). stood l (length l) x ≡ true) w.2 (at_stood l (length l) w.0 w.1)) p, is_once)
      (λ x k. ⊎_elim (λ z. upto_in m x (omega (arith, z, h))) (λ z. upto_in m x (is_event x z)) k) in
      absurd (omega (arith, n, long, d)))

-- and back
module _ (m : ℕ) (l : List ℕ) (events : (e : ℕ) → In e l → e < m) (once : Distinct l) where
  pub has_length : ((e : ℕ) → e < m → In e l) → length l ≡ m
  has_length all =
      let n = from_length 0 m in
      let a = distinct_le l (from 0 m) once (λ x h. upto_in m x (events x h)) in
      let b = distinct_le (from 0 m) l (upto_distinct m) (λ x h. all x (upto_below m x h)) in
      omega arith

  pub has_numbers : (i : ℕ) → i < length l → bad_at m l i ≡ false
  unfolding bad_at
  has_numbers i h =
      false_of (non (ltb (get_or l i 0) m) or stood l i (get_or l i 0))
      (λ p. ⊎_elim
      (λ a. let k = events (get_or l i 0) (at_in_lem l i h) in not_both_ways (lt-ltb (get_or l i 0) m k) (non_true (ltb (get_or l i 0) m) a))
      (λ a. let w = stood_at l i (get_or l i 0) a in distinct_at l w.0 i once w.1 h w.2)
      (or_either (non (ltb (get_or l i 0) m)) (stood l i (get_or l i 0)) p))

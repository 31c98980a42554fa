-- Lists of numbers by their places: In, Precedes and Distinct of specs/Order.antt. Assumes nothing.
--     in_at, at_in_lem                    a number of the list has a place
--     Apart, precedes_at, at_precedes     two places, the one before the other
--     precedes_left, either_way       the earlier of two stands in the list; of two numbers one stands before the other
--     distinct_at, at_distinct        different places have different numbers
--     distinct_apart, distinct_loop   what stands before what, each number once
--     in_left, in_right, precedes_more, precedes_over, in_front     lists put together
--     distinct_le                     a list of different numbers is no longer than a list that has them all
--     upto_in, upto_below, upto_distinct     the numbers below m, as a list
use mathlib.Core.Path.{◌≡◌, refl, sym, ap, ◌∙◌, subst}
use mathlib.Core.Logic.{inl, inr}
use mathlib.Core.List.{List, [], ◌∷◌, ◌++◌}
use Prim.Native.Nat.{ℕ, zero, suc, ◌<◌, ◌≤◌}
use native.Mathlib.Nat.{zero-add}
use native.Mathlib.Omega.{arith}
use native.Mathlib.Decide.{dec_lt}
use lib.ListN.{length, get_or}
use Rattle.basis.specs.Test.{from}
use Rattle.basis.proofs.ListLaws.{from_length, from_at}
use Rattle.orders.specs.Order.{In, Precedes, Distinct}
use Rattle.orders.proofs.OrderLaws.{precedes_in}

pub in_at : (x : ℕ) (l : List ℕ) → In x l → (i : ℕ) × (i < length l) × (get_or l i 0 ≡ x)
in_at x [] h = absurd h
in_at x (y ∷ l) (inl p) = (0, omega arith, sym p)
in_at x (y ∷ l) (inr h) = let w = in_at x l h in (suc w.0, omega (arith, w.1), w.2)

pub at_in_lem : (l : List ℕ) (i : ℕ) → i < length l → In (get_or l i 0) l
at_in_lem [] i h = absurd (omega arith)
at_in_lem (y ∷ l) zero h = inl refl
at_in_lem (y ∷ l) (suc i) h = inr (at_in_lem l i (omega arith))

-- a stands at one place, b at a later one below n
pub record Apart (a b : ℕ) (l : List ℕ) (n : ℕ) : Type 0 where
  pub i : ℕ
  pub j : ℕ
  pub rising : i < j
  pub within : j < n
  pub one : get_or l i 0 ≡ a
  pub two : get_or l j 0 ≡ b

pub precedes_at : (a b : ℕ) (l : List ℕ) → Precedes a b l → Apart a b l (length l)
precedes_at a b [] h = absurd h
precedes_at a b (x ∷ l) (inl p) =
    let w = in_at b l p.1 in record { i = 0; j = suc w.0; rising = omega arith; within = omega (arith, w.1); one = sym p.0; two = w.2 }
precedes_at a b (x ∷ l) (inr h) =
    let w = precedes_at a b l h in
    record { i = suc w.i; j = suc w.j; rising = let k = w.rising in omega arith; within = let k = w.within in omega arith; one = w.one; two = w.two }

at_precedes_go : (l : List ℕ) (i j : ℕ) → i < j → j < length l → Precedes (get_or l i 0) (get_or l j 0) l
at_precedes_go [] i j h k = absurd (omega arith)
at_precedes_go (x ∷ l) i zero h k = absurd (omega arith)
at_precedes_go (x ∷ l) zero (suc j) h k = inl (refl, at_in_lem l j (omega arith))
at_precedes_go (x ∷ l) (suc i) (suc j) h k = inr (at_precedes_go l i j (omega arith) (omega arith))

pub at_precedes : (a b : ℕ) (l : List ℕ) → Apart a b l (length l) → Precedes a b l
at_precedes a b l w =
    subst (λ (x : ℕ). Precedes x b l) w.one (subst (λ (y : ℕ). Precedes (get_or l w.i 0) y l) w.two (at_precedes_go l w.i w.j w.rising w.within))

pub distinct_at : (l : List ℕ) (i j : ℕ) → Distinct l → i < j → j < length l → get_or l i 0 ≡ get_or l j 0 → ⊥
distinct_at [] i j d h k e = omega arith
distinct_at (x ∷ l) i zero d h k e = omega arith
distinct_at (x ∷ l) zero (suc j) d h k e = d.0 (subst (λ (y : ℕ). In y l) (sym e) (at_in_lem l j (omega arith)))
distinct_at (x ∷ l) (suc i) (suc j) d h k e = distinct_at l i j d.1 (omega arith) (omega arith) e

pub at_distinct : (l : List ℕ) → ((i j : ℕ) → i < j → j < length l → get_or l i 0 ≡ get_or l j 0 → ⊥) → Distinct l
at_distinct [] f = tt
at_distinct (x ∷ l) f = (
  λ h. let w = in_at x l h in f 0 (suc w.0) (omega arith) (omega (arith, w.1)) (sym w.2),
  at_distinct l (λ i j h k e. f (suc i) (suc j) (omega arith) (omega arith) e),
)

-- the earlier of two stands in the list
pub precedes_left : (a b : ℕ) (l : List ℕ) → Precedes a b l → In a l
precedes_left a b [] h = h
precedes_left a b (x ∷ l) (inl p) = inl p.0
precedes_left a b (x ∷ l) (inr h) = inr (precedes_left a b l h)

-- of two numbers of the list that are not the same, one stands before the other
pub either_way : (l : List ℕ) (a b : ℕ) → In a l → In b l → (a ≡ b → ⊥) → (Precedes a b l → ⊥) → Precedes b a l
either_way l a b h k d n = go (in_at a l h) (in_at b l k)
  where
    go : (i : ℕ) × (i < length l) × (get_or l i 0 ≡ a) → (j : ℕ) × (j < length l) × (get_or l j 0 ≡ b) → Precedes b a l
    go v w = by (dec_lt v.0 w.0) (dec_lt w.0 v.0)
      where
        by : Dec (v.0 < w.0) → Dec (w.0 < v.0) → Precedes b a l
        by (yes p) q = absurd (n (at_precedes a b l (record { i = v.0; j = w.0; rising = p; within = w.1; one = v.2; two = w.2 })))
        by (no p) (yes q) = at_precedes b a l (record { i = w.0; j = v.0; rising = q; within = v.1; one = w.2; two = v.2 })
        by (no p) (no q) = absurd (let e : v.0 ≡ w.0 = omega (arith, p, q) in d (sym v.2 ∙ ap (λ (x : ℕ). get_or l x 0) e ∙ w.2))

-- ---- each number once

pub distinct_apart : (a : ℕ) (l : List ℕ) → Distinct l → Precedes a a l → ⊥
distinct_apart a [] d h = h
distinct_apart a (c ∷ l) d (inl h) = d.0 (subst (λ (i : ℕ). In i l) h.0 h.1)
distinct_apart a (c ∷ l) d (inr h) = distinct_apart a l d.1 h

-- not each before the other
pub distinct_loop : (a b : ℕ) (l : List ℕ) → Distinct l → Precedes a b l → Precedes b a l → ⊥
distinct_loop a b [] d p q = p
distinct_loop a b (c ∷ l) d (inl p) (inl q) = d.0 (subst (λ (i : ℕ). In i l) p.0 q.1)
distinct_loop a b (c ∷ l) d (inl p) (inr q) = d.0 (subst (λ (i : ℕ). In i l) p.0 (precedes_in b a l q))
distinct_loop a b (c ∷ l) d (inr p) (inl q) = d.0 (subst (λ (i : ℕ). In i l) q.0 (precedes_in a b l p))
distinct_loop a b (c ∷ l) d (inr p) (inr q) = distinct_loop a b l d.1 p q

pub in_left : (a : ℕ) (l k : List ℕ) → In a l → In a (l ++ k)
in_left a [] k h = absurd h
in_left a (c ∷ l) k (inl h) = inl h
in_left a (c ∷ l) k (inr h) = inr (in_left a l k h)

pub in_right : (a : ℕ) (l k : List ℕ) → In a k → In a (l ++ k)
in_right a [] k h = h
in_right a (c ∷ l) k h = inr (in_right a l k h)

pub precedes_more : (a b : ℕ) (l k : List ℕ) → Precedes a b l → Precedes a b (l ++ k)
precedes_more a b [] k h = absurd h
precedes_more a b (c ∷ l) k (inl h) = inl (h.0, in_left b l k h.1)
precedes_more a b (c ∷ l) k (inr h) = inr (precedes_more a b l k h)

pub precedes_over : (a b : ℕ) (l k : List ℕ) → In a l → In b k → Precedes a b (l ++ k)
precedes_over a b [] k h g = absurd h
precedes_over a b (c ∷ l) k (inl h) g = inl (h, in_right b l k g)
precedes_over a b (c ∷ l) k (inr h) g = inr (precedes_over a b l k h g)

-- what stands before e stands in front of e's one place
pub in_front : (a e : ℕ) (l k : List ℕ) → Distinct (l ++ e ∷ k) → Precedes a e (l ++ e ∷ k) → In a l
in_front a e [] k d (inl h) = absurd (d.0 h.1)
in_front a e [] k d (inr h) = absurd (d.0 (precedes_in a e k h))
in_front a e (c ∷ l) k d (inl h) = inl h.0
in_front a e (c ∷ l) k d (inr h) = inr (in_front a e l k d.1 h)

-- ---- how long a list is

-- the list without a place of x
without : (x : ℕ) (l : List ℕ) → In x l → List ℕ
without x [] h = []
without x (y ∷ l) (inl p) = l
without x (y ∷ l) (inr h) = y ∷ without x l h

without_length : (x : ℕ) (l : List ℕ) (h : In x l) → suc (length (without x l h)) ≡ length l
unfolding without
without_length x [] h = absurd h
without_length x (y ∷ l) (inl p) = refl
without_length x (y ∷ l) (inr h) = ap suc (without_length x l h)

without_in : (x z : ℕ) (l : List ℕ) (h : In x l) → (z ≡ x → ⊥) → In z l → In z (without x l h)
unfolding without
without_in x z [] h f g = g
without_in x z (y ∷ l) (inl p) f (inl q) = absurd (f (q ∙ sym p))
without_in x z (y ∷ l) (inl p) f (inr q) = q
without_in x z (y ∷ l) (inr h) f (inl q) = inl q
without_in x z (y ∷ l) (inr h) f (inr q) = inr (without_in x z l h f q)

pub distinct_le : (a b : List ℕ) → Distinct a → ((x : ℕ) → In x a → In x b) → length a ≤ length b
distinct_le [] b d h = omega arith
distinct_le (x ∷ a) b d h =
    let k = h x (inl refl) in
    let i = distinct_le a (without x b k) d.1 (λ z q. without_in x z b k (λ e. d.0 (subst (λ (y : ℕ). In y a) e q)) (h z (inr q))) in
    let j = without_length x b k in
    omega arith

-- ---- the numbers below m

pub upto_in : (m x : ℕ) → x < m → In x (from 0 m)
upto_in m x h = let n = from_length 0 m in subst (λ (y : ℕ). In y (from 0 m)) (from_at 0 m x 0 h ∙ zero-add x) (at_in_lem (from 0 m) x (omega arith))

pub upto_below : (m x : ℕ) → In x (from 0 m) → x < m
upto_below m x h =
    let w = in_at x (from 0 m) h in
    let n = from_length 0 m in
    let k : w.0 < m = omega (arith, w.1) in
    let e = from_at 0 m w.0 0 k in
    omega (arith, w.2, k, e)

pub upto_distinct : (m : ℕ) → Distinct (from 0 m)
upto_distinct m =
    at_distinct (from 0 m)
    (λ i j h k e. let n = from_length 0 m in let p = from_at 0 m i 0 (omega arith) in let q = from_at 0 m j 0 (omega arith) in omega arith)

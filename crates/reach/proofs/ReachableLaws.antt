-- The laws of specs/Reachable.antt: counts of sets. Assumes nothing.
--     counted_unique    there is one number of reachable sets
--     counted_pos       it is at least 1
--     counted_most      it is at most 2 ^ n, where n events are no inits
--     exceeds_over      more than the limit are more than the limit
--     count_unique      two answers to one count agree
use Prim.Native.Nat.{ℕ, zero, suc, ◌+◌, ◌-◌, ◌^◌, ◌<◌, ◌≤◌}
use mathlib.Core.Path.{◌≡◌, refl, sym, ap, subst}
use mathlib.Core.Logic.{inl, inr}
use mathlib.Core.List.{List, [], ◌∷◌, ◌++◌}
use native.Mathlib.Omega.{arith}
use lib.Pow.{pow_pos, pow_mono}
use lib.ListN.{length}
use Rattle.basis.specs.Test.{from}
use Rattle.sets.specs.Mask.{full, above}
use Rattle.sets.proofs.MaskLaws.{mem_full, insert_lt, insert_old, above_lt, above_inj}
use Rattle.std.specs.Prelude.{Option, Some, None}
use Rattle.orders.specs.Problem.{Problem}
use Rattle.orders.specs.Order.{In, Distinct}
use Rattle.reach.specs.Reachable.{Reached, start, place, Counted, Exceeds, CountIs}
use Rattle.orders.proofs.FirstLaws.{Tri, below, same, tri}
use Rattle.orders.proofs.PlaceLaws.{distinct_le}
use Rattle.orders.proofs.InitsLaws.{from_length}
use Rattle.orders.proofs.TrailLaws.{Full}

-- ---- there is one number

pub counted_unique : {P : Problem} {s₀ b c : ℕ} → Counted P s₀ b → Counted P s₀ c → b ≡ c
counted_unique f g =
    let i = distinct_le f.sets g.sets f.once (λ x h. g.all x (f.reached x h)) in
    let j = distinct_le g.sets f.sets g.once (λ x h. f.all x (g.reached x h)) in
    let n = f.number in
    let o = g.number in
    omega arith

pub counted_pos : {P : Problem} {s₀ c : ℕ} → Counted P s₀ c → 0 < c
counted_pos {P} {s₀} {c} f = go f.sets f.number (f.all s₀ start)
  where
    go : (l : List ℕ) → length l ≡ c → In s₀ l → 0 < c
    go [] h i = absurd i
    go (x ∷ l) h i = omega (arith, h)

pub exceeds_over : {P : Problem} {s₀ limit c : ℕ} → Exceeds P s₀ limit → Counted P s₀ c → limit < c
exceeds_over x f =
    let i = distinct_le x.sets f.sets x.once (λ s h. f.all s (x.reached s h)) in
    let n = f.number in
    let o = x.over in
    omega arith

pub count_unique : (P : Problem) (s₀ limit : ℕ) (p q : Option ℕ) → CountIs P s₀ limit p → CountIs P s₀ limit q → p ≡ q
count_unique P s₀ limit (Some b) (Some c) f g = ap Some (counted_unique f.0 g.0)
count_unique P s₀ limit (Some b) None f g = absurd (let h = exceeds_over g f.0 in let l = f.1 in omega arith)
count_unique P s₀ limit None (Some c) f g = absurd (let h = exceeds_over f g.0 in let l = g.1 in omega arith)
count_unique P s₀ limit None None f g = refl

-- ---- at most 2 ^ n: a reachable set has the inits, and is known by the others

module _ (P : Problem) (k : ℕ) (inits : k ≤ P.events) where
  reached_full : {s : ℕ} → Reached P (full k) s → Full k s
  reached_full start d l = mem_full k d l
  reached_full (place {s = s} {e = e} r h) d l = insert_old s e d (reached_full r d l)

  reached_lt : {s : ℕ} → full k < 2 ^ P.events → Reached P (full k) s → s < 2 ^ P.events
  reached_lt z start = z
  reached_lt z (place {s = s} {e = e} r h) = insert_lt P.events s e (reached_lt z r) h.event

  -- the sets by their members from k up
  shifted : List ℕ → List ℕ
  shifted [] = []
  shifted (s ∷ l) = above s k ∷ shifted l

  shifted_length : (l : List ℕ) → length (shifted l) ≡ length l
  unfolding shifted
  shifted_length [] = refl
  shifted_length (s ∷ l) = ap suc (shifted_length l)

  shifted_in : (l : List ℕ) (x : ℕ) → In x (shifted l) → (s : ℕ) × In s l × (x ≡ above s k)
  unfolding shifted
  shifted_in [] x h = absurd h
  shifted_in (s ∷ l) x (inl p) = (s, inl refl, p)
  shifted_in (s ∷ l) x (inr h) = let w = shifted_in l x h in (w.0, inr w.1, w.2)

  shifted_once : (l : List ℕ) → ((s : ℕ) → In s l → Full k s) → Distinct l → Distinct (shifted l)
  unfolding shifted
  shifted_once [] f d = tt
  shifted_once (s ∷ l) f d = (
    (λ h. let w = shifted_in l (above s k) h in d.0 (subst (λ (x : ℕ). In x l) (sym (above_inj k s w.0 (f s (inl refl)) (f w.0 (inr w.1)) w.2)) w.1)),
    shifted_once l (λ t h. f t (inr h)) d.1,
  )

from_in : (n c x : ℕ) → n ≤ x → x < n + c → In x (from n c ++ [])
unfolding from
from_in n zero x h l = absurd (omega arith)
from_in n (suc c) x h l = go (tri n x) (from_in (suc n) c x)
  where
    go : Tri n x → (suc n ≤ x → x < suc n + c → In x (from (suc n) c ++ [])) → In x (n ∷ (from (suc n) c ++ []))
    go (below q) ih = inr (ih q (omega arith))
    go (same q) ih = inl (sym q)
    go (Tri.above q) ih = absurd (omega arith)

-- 02 §9: "The number is at most 2^n."
pub counted_most : {P : Problem} {k c : ℕ} → k ≤ P.events → Counted P (full k) c → c ≤ 2 ^ (P.events - k)
counted_most {P} {k} {c} h f =
    let z : full k < 2 ^ P.events = let p = pow_pos k in let q : 2 ^ k ≤ 2 ^ P.events = pow_mono h in omega arith in
    let i = distinct_le (shifted P k h f.sets) (from 0 (2 ^ (P.events - k)) ++ [])
    (shifted_once P k h f.sets (λ s m. reached_full P k h (f.reached s m)) f.once)
    (λ x m. let w = shifted_in P k h f.sets x m in from_in 0 (2 ^ (P.events - k)) x (omega arith) (let l = above_lt k P.events w.0 h (reached_lt P k h z (f.reached w.0 w.1)) in let e = w.2 in omega arith)) in
    let j = shifted_length P k h f.sets in
    let n = f.number in
    let o = from_length 0 (2 ^ (P.events - k)) [] in
    omega arith

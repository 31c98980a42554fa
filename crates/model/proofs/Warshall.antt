-- Warshall's closure, over any way to hold the relation: R k is what is known after k passes. Assumes nothing.
--     start      one step is known after any number of passes
--     closed     after all passes, what is known is transitive
--     sound      what is known lies in every transitive relation that holds the steps
use mathlib.Core.Path.{◌≡◌, sym, subst}
use mathlib.Core.Logic.{◌⊎◌, inl, inr}
use mathlib.Core.Bool.{Bool}
use Prim.Native.Nat.{ℕ, zero, suc, ◌≤◌, ◌<◌}
use native.Mathlib.Omega.{arith}
use native.Mathlib.Nat.{eq-or-lt_of_le}
use lib.Dec.{T}
use Rattle.basis.specs.Test.{◌and◌, ◌or◌}
use Rattle.basis.proofs.BoolLaws.{and_elim, and_intro, or_cases, or_left, or_right}

module _ (n : ℕ) (f : ℕ → ℕ → Bool) (R : ℕ → ℕ → ℕ → Bool)
    (base : (a b : ℕ) → a < n → b < n → R 0 a b ≡ f a b)
    (next : (k a b : ℕ) → k < n → a < n → b < n → R (suc k) a b ≡ (R k a b or R k a k and R k k b)) where
  cases : (k a b : ℕ) → k < n → a < n → b < n → T (R (suc k) a b) → T (R k a b) ⊎ (T (R k a k) × T (R k k b))
  cases k a b h i j t = on (or_cases _ _ (subst (λ (c : Bool). T c) (next k a b h i j) t))
    where
      on : T (R k a b) ⊎ T (R k a k and R k k b) → T (R k a b) ⊎ (T (R k a k) × T (R k k b))
      on (inl p) = inl p
      on (inr p) = inr (and_elim _ _ p)

  grow : (k a b : ℕ) → k < n → a < n → b < n → T (R k a b) → T (R (suc k) a b)
  grow k a b h i j t = subst (λ (c : Bool). T c) (sym (next k a b h i j)) (or_left _ _ t)

  via : (k a b : ℕ) → k < n → a < n → b < n → T (R k a k) → T (R k k b) → T (R (suc k) a b)
  via k a b h i j s t = subst (λ (c : Bool). T c) (sym (next k a b h i j)) (or_right _ _ (and_intro _ _ s t))

  -- closed under what lies below k
  trans : (k a b c : ℕ) → k ≤ n → a < n → b < n → c < k → T (R k a c) → T (R k c b) → T (R k a b)
  trans zero a b c h i j l p q = absurd (omega arith)
  trans (suc k) a b c h i j l p q = on (eq-or-lt_of_le l) (cases k a c h i (omega arith) p) (cases k c b h (omega arith) j q)
      (λ a' b' i' j' l'. trans k a' b' c (omega arith) i' j' l')
    where
      into : c ≡ k → T (R k a c) ⊎ (T (R k a k) × T (R k k c)) → T (R k a k)
      into e (inl s) = subst (λ (d : ℕ). T (R k a d)) e s
      into e (inr s) = s.0

      out : c ≡ k → T (R k c b) ⊎ (T (R k c k) × T (R k k b)) → T (R k k b)
      out e (inl t) = subst (λ (d : ℕ). T (R k d b)) e t
      out e (inr t) = t.1

      on : (suc c ≡ suc k) ⊎ (suc c < suc k) → T (R k a c) ⊎ (T (R k a k) × T (R k k c)) → T (R k c b) ⊎ (T (R k c k) × T (R k k b))
          → ((a' b' : ℕ) → a' < n → b' < n → c < k → T (R k a' c) → T (R k c b') → T (R k a' b')) → T (R (suc k) a b)
      on (inl e) s t ih = let e' : c ≡ k = omega arith in via k a b h i j (into e' s) (out e' t)
      on (inr l') (inl s) (inl t) ih = grow k a b h i j (ih a b i j (omega arith) s t)
      on (inr l') (inl s) (inr t) ih = via k a b h i j (ih a k i h (omega arith) s t.0) t.1
      on (inr l') (inr s) (inl t) ih = via k a b h i j s.0 (ih k b h j (omega arith) s.1 t)
      on (inr l') (inr s) (inr t) ih = via k a b h i j s.0 t.1

  pub start : (k a b : ℕ) → k ≤ n → a < n → b < n → T (f a b) → T (R k a b)
  start zero a b h i j t = subst (λ (c : Bool). T c) (sym (base a b i j)) t
  start (suc k) a b h i j t = grow k a b h i j (start k a b (omega arith) i j t)

  pub closed : (a b c : ℕ) → a < n → b < n → c < n → T (R n a c) → T (R n c b) → T (R n a b)
  closed a b c i j l p q = trans n a b c (omega arith) i j l p q

  pub sound : (P : ℕ → ℕ → Type 0) → ((a b : ℕ) → T (f a b) → P a b) → ((a b c : ℕ) → P a b → P b c → P a c) → (k a b : ℕ) → k ≤ n → a < n → b < n → T (R k a b) → P a b
  sound P s j zero a b h i l t = s a b (subst (λ (c : Bool). T c) (base a b i l) t)
  sound P s j (suc k) a b h i l t = on (cases k a b h i l t) (λ a' b' i' l'. sound P s j k a' b' (omega arith) i' l')
    where
      on : T (R k a b) ⊎ (T (R k a k) × T (R k k b)) → ((a' b' : ℕ) → a' < n → b' < n → T (R k a' b') → P a' b') → P a b
      on (inl p) ih = ih a b i l p
      on (inr p) ih = j a k b (ih a k i h p.0) (ih k b h l p.1)

-- The laws of specs/First.antt. Assumes nothing.
--     tri             the three ways in which two numbers can stand
--     first_unique    there is one first list
--     first_map       the lists that pass are the same, and so is their first
use Prim.Native.Nat.{ℕ, ◌<◌}
use mathlib.Core.Path.{◌≡◌, refl}
use mathlib.Core.Logic.{inl, inr}
use mathlib.Core.List.{List, [], ◌∷◌}
use native.Mathlib.Omega.{arith}
use native.Mathlib.Decide.{dec_lt}
use Rattle.orders.specs.First.{Lex, FirstOf}

-- the three ways in which two numbers can stand
pub data Tri (a b : ℕ) : Type 0 where
  below : a < b → Tri a b
  same : a ≡ b → Tri a b
  above : b < a → Tri a b

pub tri : (a b : ℕ) → Tri a b
tri a b = elim (dec_lt a b) [ yes h ↦ below h | no h ↦ elim (dec_lt b a) [ yes g ↦ above g | no g ↦ same (omega (arith, h, g)) ] ]

-- ---- the first is one

pub lex_same : (k l : List ℕ) → Lex k l → Lex l k → k ≡ l
lex_same [] [] a b = refl
lex_same [] (y ∷ l) a b = absurd b
lex_same (x ∷ k) [] a b = absurd a
lex_same (x ∷ k) (y ∷ l) (inl a) (inl b) = absurd (omega (arith, a, b))
lex_same (x ∷ k) (y ∷ l) (inl a) (inr b) = absurd (omega (arith, a, b.0))
lex_same (x ∷ k) (y ∷ l) (inr a) (inl b) = absurd (omega (arith, a.0, b))
lex_same (x ∷ k) (y ∷ l) (inr a) (inr b) = let h : k ≡ l = lex_same k l a.1 b.1 in cc a.0

pub first_unique : (Q : List ℕ → Type 0) (k l : List ℕ) → FirstOf Q k → FirstOf Q l → k ≡ l
first_unique Q k l f g = lex_same k l (f.least l g.is) (g.least k f.is)

-- the lists that pass are the same, and so is their first
pub first_map : (Q R : List ℕ → Type 0) → ((k : List ℕ) → Q k → R k) → ((k : List ℕ) → R k → Q k) → (l : List ℕ) → FirstOf Q l → FirstOf R l
first_map Q R f g l h = record { is = f l h.is; least = λ k r. h.least k (g k r) }

-- The laws of specs/steps/Noticed.antt. Assumes nothing.
--     or_nothing                             two numbers joined are 0 where both are
--     marked_none, marked_more, marked_tells     a loop that joins what it finds: it begins; a turn; the test at its end
use Rattle.std.proofs.Common.{◌≡◌, ℕ, ◌+◌, ◌≤◌, not, eqb, refl, ◌∙◌, subst, ap₂, arith, eqb-true}
use native.Mathlib.Decide.{ℕ_discrete}
use borrow.Author.Tests.{eqb-false, not-true, not-false}
use lib.Bits.{bit_and, bit_or, or_add_and, and_le_l, and_le_r, or_zero_l}
use Rattle.sets.specs.Tells.{Tells}
use Rattle.torn.specs.steps.Noticed.{Marks, Among}

pub or_nothing : (a b : ℕ) → bit_or a b ≡ 0 → (a ≡ 0) × (b ≡ 0)
or_nothing a b e = go (bit_or a b) (bit_and a b) e (or_add_and a b) (and_le_l a b) (and_le_r a b)
  where
    go : (o n : ℕ) → o ≡ 0 → o + n ≡ a + b → n ≤ a → n ≤ b → (a ≡ 0) × (b ≡ 0)
    go o n p q r s = (omega arith, omega arith)

pub marked_none : (P : ℕ → Type 0) → Marks 0 (Among 0 P)
marked_none P = record { none = λ z a. (let h = a.inside in omega arith); some = λ f. absurd (f refl) }

module _ (P : ℕ → Type 0) (k c x : ℕ) (old : Marks c (Among k P)) (new : Marks x (P k)) where
  pub marked_more : Marks (bit_or c x) (Among (k + 1) P)
  marked_more = record { none = none; some = λ f. some f (ℕ_discrete c 0) }
    where
      none : bit_or c x ≡ 0 → Among (k + 1) P → ⊥
      none e a = let z = or_nothing c x e in go z.0 z.1 (ℕ_discrete a.at k)
        where
          go : c ≡ 0 → x ≡ 0 → Dec (a.at ≡ k) → ⊥
          go p q (yes h) = new.none q (subst P h a.holds)
          go p q (no h) = old.none p (record { at = a.at; inside = let l = a.inside in omega (arith, h); holds = a.holds })

      some : (bit_or c x ≡ 0 → ⊥) → Dec (c ≡ 0) → Among (k + 1) P
      some f (yes e) = record { at = k; inside = omega arith; holds = new.some (λ q. f (ap₂ bit_or e q ∙ or_zero_l 0)) }
      some f (no e) = let a = old.some e in record { at = a.at; inside = let l = a.inside in omega arith; holds = a.holds }

pub marked_tells : {A : Type 0} (c : ℕ) → Marks c A → Tells (not (eqb c 0)) A
marked_tells c m =
    record {
      holds = λ h. m.some (eqb-false c 0 (not-true (eqb c 0) h));
      fails = λ h. m.none (eqb-true c 0 (not-false (eqb c 0) h));
    }

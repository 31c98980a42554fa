-- The laws of specs/Seconds.antt: a loop over all slots that looks for a second access that passes a test. Assumes nothing.
--     Looked, looked_none, looked_more, looked_all     of the first k slots it is known whether there is one
use mathlib.Core.Path.{◌≡◌, refl, sym, ap, ◌∙◌}
use mathlib.Core.Bool.{Bool, true, false, not, ◌&&◌, ◌||◌}
use mathlib.Core.Logic.{⊎_elim}
use mathlib.Core.List.{List}
use Prim.Native.Nat.{ℕ, ◌+◌, ◌%◌, ◌<◌}
use native.Mathlib.Omega.{arith}
use native.Mathlib.Decide.{ℕ_discrete}
use borrow.Author.Tests.{eq-eqb, eqb-true}
use lib.Dec.{eqb}
use Rattle.basis.proofs.BoolLaws.{false_of, not_both_ways, and_parts, bar_cases, bar_right}
use Rattle.format.specs.declared.Shape.{Shape}
use Rattle.sets.specs.Tells.{Tells}
use Rattle.tables.specs.Tables.{accesses, shape_in}
use Rattle.tables.specs.Seconds.{NoSecond}

pub record Looked (f : Shape → Bool) (t : List ℕ) (k : ℕ) (c : Bool) : Type 0 where
  pub none : c ≡ false → NoSecond f t k
  pub some : c ≡ true → NoSecond f t accesses → ⊥

module _ (f : Shape → Bool) (t : List ℕ) where
  pub looked_none : Looked f t 0 false
  unfolding NoSecond
  looked_none = record { none = λ e i h. absurd (omega (arith, h)); some = λ e. absurd (not_both_ways e refl) }

  pub looked_more : (k : ℕ) (c x : Bool) → k < accesses → x ≡ f (shape_in t k) → Looked f t k c → Looked f t (k + 1) (c || (eqb (k % 2) 1 && x))
  unfolding NoSecond
  looked_more k c x h is g =
      record {
        none = λ e i l o. go e i l o (ℕ_discrete i k);
        some = λ e s. ⊎_elim (λ q. g.some q s) (λ q. let p = and_parts (eqb (k % 2) 1) x q in not_both_ways (sym is ∙ p.1) (s k h (eqb-true (k % 2) 1 p.0))) (bar_cases c (eqb (k % 2) 1 && x) e);
      }
    where
      go : (c || (eqb (k % 2) 1 && x)) ≡ false → (i : ℕ) → i < k + 1 → i % 2 ≡ 1 → Dec (i ≡ k) → f (shape_in t i) ≡ false
      go e i l o (yes z) =
          ap (λ (d : ℕ). f (shape_in t d)) z
          ∙ false_of _ (λ q. absurd (not_both_ways (bar_right c (eqb (k % 2) 1 && x) ((λ j. eq-eqb (k % 2) 1 (ap (λ (d : ℕ). d % 2) (sym z) ∙ o) j && (is ∙ q) j))) e))
      go e i l o (no z) = g.none (false_of c (λ q. absurd (not_both_ways (ap (λ (b : Bool). b || (eqb (k % 2) 1 && x)) q) e))) i (omega (arith, l, z)) o

  pub looked_all : (c : Bool) → Looked f t accesses c → Tells (not c) (NoSecond f t accesses)
  looked_all true g = record { holds = λ e. absurd (not_both_ways e refl); fails = λ e. g.some refl }
  looked_all false g = record { holds = λ e. g.none refl; fails = λ e. absurd (not_both_ways refl e) }

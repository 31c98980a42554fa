-- The laws of a turn of `next`: which events are left to be tried. Over any test of an event and any mark. Assumes nothing.
--     Untried    each event from `from` on, below m, that passes is marked, or is left; none that is left is in s
--     untried_start, untried_lowest, untried_hit, untried_next, untried_taken, untried_end     a loop over those left, the lowest first
use mathlib.Core.Path.{◌≡◌, sym, ap, ◌∙◌, subst}
use mathlib.Core.Bool.{Bool, true, false}
use mathlib.Core.Logic.{◌⊎◌, inl, inr, ⊎_elim}
use Prim.Native.Nat.{ℕ, ◌^◌, ◌<◌, ◌≤◌, min}
use native.Mathlib.Omega.{arith}
use Rattle.basis.proofs.BoolLaws.{not_both_ways, false_of}
use Rattle.sets.specs.Members.{Taken}
use Rattle.sets.specs.Mask.{slots, mem, Has, remove, Lowest, Rest}
use Rattle.sets.proofs.MaskLaws.{lt_of_members, mem_empty, mem_lt, remove_le, remove_old, remove_cases}

module _ (s m from : ℕ) (Q : ℕ → Type 0) (seen : ℕ → Bool) where
  pub record Untried (left : ℕ) : Type 0 where
    pub width : left < 2 ^ slots
    pub only : (d : ℕ) → Has left d → (from ≤ d) × (d < m) × (mem s d ≡ false)
    pub tried : (d : ℕ) → from ≤ d → d < m → d < slots → Q d → (seen d ≡ true) ⊎ Has left d

module _ {s m from : ℕ} {Q : ℕ → Type 0} {seen : ℕ → Bool} where
  pub untried_start : {c : ℕ} → ((d : ℕ) → Q d → Has s d → ⊥) → Rest s from (min m slots) c → Untried s m from Q seen c
  untried_start {c} fresh u =
      record {
        width = lt_of_members slots c (λ d h. let l = (u.only d h).1 in omega (arith, l));
        only = λ d h. let x = u.only d h in let l = x.1 in (x.0, omega (arith, l), x.2);
        tried = λ d h l k q. inr (u.all d h (omega arith) (false_of (mem s d) (fresh d q)));
      }

  module _ {left : ℕ} (u : Untried s m from Q seen left) where
    pub untried_end : left ≡ 0 → (d : ℕ) → from ≤ d → d < m → d < slots → Q d → seen d ≡ true
    untried_end z d a b l q = ⊎_elim (λ g. g) (λ g. absurd (not_both_ways g (ap (λ (i : ℕ). mem i d) z ∙ mem_empty d))) (u.tried d a b l q)

    module _ {e : ℕ} (low : Lowest left e) (some : left ≡ 0 → ⊥) where
      pub untried_lowest : Has left e × (e < m) × (e < slots) × (from ≤ e) × (mem s e ≡ false)
      untried_lowest = let h = low.member (omega (arith, some)) in let w = u.only e h in (h, w.1, mem_lt slots left e u.width h, w.0, w.2)

      pub untried_hit : (d : ℕ) → from ≤ d → d < e → d < slots → Q d → seen d ≡ true
      untried_hit d a l k q =
          let w = untried_lowest in ⊎_elim (λ g. g) (λ g. absurd (not_both_ways g (low.least d l))) (u.tried d a (omega (arith, w.1)) k q)

      pub untried_next : (Q e → seen e ≡ true) → Untried s m from Q seen (remove left e)
      untried_next pass =
          record {
            width = let z = remove_le left e in let y = u.width in omega arith;
            only = λ d h. u.only d (remove_old left e d h);
            tried = λ d a b l q. ⊎_elim (λ g. inl g) (λ g. ⊎_elim (λ p. inl (subst (λ (i : ℕ). seen i ≡ true) (sym p) (pass (subst Q p q)))) (λ p. inr p) (remove_cases left e d g)) (u.tried d a b l q);
          }

    -- a turn of a `for` over those left
    pub untried_taken : {e t : ℕ} → Taken left e t → (Q e → seen e ≡ true) → Untried s m from Q seen t
    untried_taken k pass = subst (Untried s m from Q seen) (sym k.rest) (untried_next k.low k.some pass)

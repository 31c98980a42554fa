-- The events behind another, as a mask that loses one event a turn (`Rest`, crate sets). Assumes nothing.
--     behind_all, behind_next    all events to begin with, and one turn
--     except_is, behind_cut      those of them that are not in a row
use Rattle.std.proofs.Common.{◌≡◌, ℕ, ◌+◌, ◌-◌, ◌%◌, ◌^◌, ◌<◌, ◌≤◌, Bool, true, false, not, eqb, sym, ap, ◌∙◌, subst, ⊎_elim, mod-eq_of_lt, arith}
use native.Mathlib.Decide.{ℕ_discrete}
use lib.Bits.{bit_and}
use Rattle.basis.specs.Test.{◌and◌, non}
use Rattle.basis.proofs.BoolLaws.{amp_and, not_non, and_parts, and_both, and_holds, non_holds, non_fails, false_of, not_both_ways, eqb_self}
use Rattle.sets.specs.Mask.{slots, mem, Has, remove, full, Rest}
use Rattle.sets.proofs.MaskLaws.{mem_diff, mem_full, full_has, mem_empty, remove_old, remove_cases, mem_remove}
use Rattle.settle.specs.steps.Ahead.{Except}

pub behind_all : (n : ℕ) → Rest 0 0 n (full n)
behind_all n = record { only = λ d h. (omega arith, full_has n d h, mem_empty d); all = λ d l k h. mem_full n d k }

pub behind_next : {n e b r : ℕ} → e < slots → Rest 0 e n b → r ≡ remove b (e % slots) → Rest 0 (e + 1) n r
behind_next {n} {e} {b} {r} l h is = subst (Rest 0 (e + 1) n) (sym (is ∙ ap (remove b) (mod-eq_of_lt l))) record { only = only; all = all }
  where
    only : (d : ℕ) → Has (remove b e) d → (e + 1 ≤ d) × (d < n) × (mem 0 d ≡ false)
    only d g = let w = h.only d (remove_old b e d g) in (go (ℕ_discrete d e) w.0, w.1, w.2)
      where
        go : Dec (d ≡ e) → e ≤ d → e + 1 ≤ d
        go (no f) k = omega (arith, f, k)
        go (yes q) k = absurd (not_both_ways (and_parts (mem b d) _ (sym (mem_remove b e d) ∙ g)).1 (ap not (subst (λ (x : ℕ). eqb d x ≡ true) q (eqb_self d))))

    all : (d : ℕ) → e + 1 ≤ d → d < n → mem 0 d ≡ false → Has (remove b e) d
    all d k m z = ⊎_elim (λ q. absurd (omega (arith, q))) (λ g. g) (remove_cases b e d (h.all d (omega arith) m z))

pub except_is : (s row : ℕ) → s < 2 ^ slots → row < 2 ^ slots → Except s row (bit_and s (2 ^ slots - 1 - row))
except_is s row l k d = mem_diff slots s row d l k ∙ amp_and (mem s d) (not (mem row d)) ∙ ap (λ (b : Bool). mem s d and b) (not_non (mem row d))

pub behind_cut : {row from n b r : ℕ} → Rest 0 from n b → Except b row r → Rest row from n r
behind_cut {row} {from} {n} {b} {r} h x = record {
  only = λ d g.
      let w = and_both (mem b d) (non (mem row d)) (sym (x d) ∙ g) in
      let v = h.only d w.0 in
      (v.0, v.1, false_of (mem row d) (λ k. not_both_ways w.1 (non_fails (mem row d) k)));
  all = λ d l k g. x d ∙ and_holds (mem b d) (non (mem row d)) (h.all d l k (mem_empty d)) ∙ non_holds (mem row d) g;
}

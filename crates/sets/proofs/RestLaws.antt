-- The laws of `Rest`, in specs/Mask.antt. Assumes nothing.
--     rest_is        the mask that the code makes
--     rest_unique    two such sets are equal
use mathlib.Core.Path.{◌≡◌, sym, ap, ◌∙◌}
use mathlib.Core.Bool.{Bool, true, false, not, ◌&&◌}
use Prim.Native.Nat.{ℕ, ◌-◌, ◌^◌, ◌<◌, ◌≤◌, min}
use native.Mathlib.Omega.{arith}
use native.Mathlib.Decide.{dec_lt}
use lib.Bits.{bit_and}
use Rattle.basis.proofs.BoolLaws.{bool_ext, not_both_ways, false_of, and_parts}
use Rattle.sets.specs.Mask.{slots, mem, Has, full, Rest}
use Rattle.sets.proofs.MaskLaws.{ext_all, mem_diff, mem_full, full_has, lt_of_members}

module _ (s from n : ℕ) (few : n ≤ slots) (fits : s < 2 ^ slots) where
  abbrev low : ℕ
  low = full (min from slots)

  abbrev high : ℕ
  high = bit_and (full n) (2 ^ slots - 1 - low)

  abbrev rest : ℕ
  rest = bit_and high (2 ^ slots - 1 - s)

  full_fits : (k : ℕ) → k ≤ slots → full k < 2 ^ slots
  full_fits k h = lt_of_members slots (full k) (λ e g. let z = full_has k e g in omega arith)

  in_low : (d : ℕ) → mem low d ≡ false → d < slots → from ≤ d
  in_low d h l = go (dec_lt d from)
    where
      go : Dec (d < from) → from ≤ d
      go (no k) = omega (arith, k)
      go (yes k) = absurd (not_both_ways (mem_full (min from slots) d (omega arith)) h)

  mem_high : (d : ℕ) → mem high d ≡ (mem (full n) d && not (mem low d))
  mem_high d = mem_diff slots (full n) low d (full_fits n few) (full_fits (min from slots) (omega arith))

  not_of : (b : Bool) → not b ≡ true → b ≡ false
  not_of b h = false_of b (λ g. not_both_ways h (ap not g))

  both : (a b : Bool) → a ≡ true → b ≡ false → (a && not b) ≡ true
  both a b p q = ap (λ (z : Bool). z && not b) p ∙ ap not q

  high_parts : (d : ℕ) → Has high d → (d < n) × (mem low d ≡ false)
  high_parts d h = let w = and_parts (mem (full n) d) (not (mem low d)) (sym (mem_high d) ∙ h) in (full_has n d w.0, not_of (mem low d) w.1)

  high_fits : high < 2 ^ slots
  high_fits = lt_of_members slots high (λ e g. let z = (high_parts e g).0 in omega (arith, z))

  pub rest_is : Rest s from n rest
  rest_is = record { only = only; all = all }
    where
      only : (d : ℕ) → Has rest d → (from ≤ d) × (d < n) × (mem s d ≡ false)
      only d h =
          let w = and_parts (mem high d) (not (mem s d)) (sym (mem_diff slots high s d high_fits fits) ∙ h) in
          let z = high_parts d w.0 in
          (in_low d z.1 (let l = z.0 in omega (arith, l)), z.0, not_of (mem s d) w.1)

      all : (d : ℕ) → from ≤ d → d < n → mem s d ≡ false → Has rest d
      all d h l g =
          mem_diff slots high s d high_fits fits
          ∙ both (mem high d) (mem s d)
          (mem_high d ∙ both (mem (full n) d) (mem low d) (mem_full n d l) (false_of _ (λ k. let z = full_has (min from slots) d k in absurd (omega arith)))) g

pub rest_unique : (s from n r q : ℕ) → Rest s from n r → Rest s from n q → r ≡ q
rest_unique s from n r q a b = ext_all r q (λ d. bool_ext (mem r d) (mem q d) (go a b d) (go b a d))
  where
    go : {r q : ℕ} → Rest s from n r → Rest s from n q → (d : ℕ) → Has r d → Has q d
    go x y d h = let w = x.only d h in y.all d w.0 w.1 w.2

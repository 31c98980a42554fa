-- Which of the writers that have bars with an event are placed. Assumes nothing.
--     left_start left_lowest left_next left_taken left_end    those of them that are placed, one after the other
use Prim.Native.Nat.{ℕ, ◌^◌, ◌<◌}
use mathlib.Core.Path.{◌≡◌, sym, ap, ap₂, subst, ◌∙◌}
use mathlib.Core.Bool.{Bool, ◌&&◌}
use mathlib.Core.Logic.{◌⊎◌, inl, inr, ⊎_elim}
use mathlib.Core.List.{List}
use native.Mathlib.Omega.{arith}
use lib.Bits.{bit_and, and_le_l}
use Rattle.basis.proofs.BoolLaws.{not_both_ways, and_parts}
use Rattle.sets.specs.Members.{Taken}
use Rattle.sets.specs.Mask.{slots, mem, Has, Within, remove, Lowest}
use Rattle.sets.proofs.MaskLaws.{mem_lt, mem_and, mem_empty, remove_le, remove_old, remove_cases}
use Rattle.gather.specs.Writers.{bar_at}
use Rattle.placing.specs.Placing.{Unbarred}

-- ---- the writers of v's bars that are placed, and of which nothing is known yet

pub record Left (bars : List ℕ) (writers s v left : ℕ) : Type 0 where
  pub width : left < 2 ^ slots
  pub of : (w : ℕ) → Has left w → Has writers w × Has s w
  pub done : (w : ℕ) → Has writers w → Has s w → Has left w ⊎ Within (bar_at bars v w) s

pub left_start : (bars : List ℕ) (writers s v : ℕ) → writers < 2 ^ slots → Left bars writers s v (bit_and writers s)
left_start bars writers s v l =
    record {
      width = let q = and_le_l writers s in omega arith;
      of = λ w h. and_parts (mem writers w) (mem s w) (sym (mem_and writers s w) ∙ h);
      done = λ w a b. inl (mem_and writers s w ∙ ap₂ (λ (x y : Bool). x && y) a b);
    }

module _ {bars : List ℕ} {writers s v left : ℕ} (have : Left bars writers s v left) where
  pub left_lowest : {w : ℕ} → Lowest left w → (left ≡ 0 → ⊥) → Has left w × (w < slots)
  left_lowest {w} low f = let h = low.member (omega (arith, f)) in (h, mem_lt slots left w have.width h)

  pub left_next : (w : ℕ) → Within (bar_at bars v w) s → Left bars writers s v (remove left w)
  left_next w i =
      record {
        width = let q = remove_le left w in let l = have.width in omega arith;
        of = λ d h. have.of d (remove_old left w d h);
        done = λ d a b. ⊎_elim (λ h. ⊎_elim (λ p. inr (subst (λ (x : ℕ). Within (bar_at bars v x) s) (sym p) i)) inl (remove_cases left w d h)) inr (have.done d a b);
      }

  -- a turn of a `for` over them
  pub left_taken : {w t : ℕ} → Taken left w t → Within (bar_at bars v w) s → Left bars writers s v t
  left_taken {w} k i = subst (Left bars writers s v) (sym k.rest) (left_next w i)

  pub left_end : left ≡ 0 → Unbarred bars writers s v
  left_end z w b h = ⊎_elim (λ g. absurd (not_both_ways g (ap (λ (x : ℕ). mem x w) z ∙ mem_empty w))) (λ i. i) (have.done w b h)

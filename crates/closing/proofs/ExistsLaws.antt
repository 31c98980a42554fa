-- Every table of rows has a closure (specs/Closure.antt): the pivots 0, 1, .. are done one after another, over lists and with no code.
-- Assumes nothing.
--     rewritten_all    rows rewritten, as many as are wanted
--     Upto             what holds of a table r once the pivots below k are done
--     closed_exists    the closure of the first n rows, for every n up to their number
use mathlib.Core.Path.{◌≡◌, refl, ap, ◌∙◌, subst}
use mathlib.Core.Bool.{Bool, false, ◌&&◌, not, and-false}
use mathlib.Core.List.{List}
use Prim.Native.Nat.{ℕ, zero, suc, ◌+◌, ◌≤◌, ◌<◌}
use native.Mathlib.Nat.{not-suc-le-zero}
use native.Mathlib.Numerals.{add-one}
use native.Mathlib.Omega.{arith}
use lib.ListN.{length, set, drop}
use Rattle.basis.proofs.BoolLaws.{not_both_ways, false_of, eqb_self}
use Rattle.basis.proofs.ListLaws.{up_more}
use Rattle.sets.specs.Mask.{mem, remove, full}
use Rattle.sets.proofs.MaskLaws.{mem_full, mem_empty, mem_remove, remove_old}
use Rattle.closing.specs.Closure.{Closed}
use Rattle.closing.specs.Closure.Reach.{step}
use Rattle.closing.specs.steps.Sweep.{succ_of, pivot}
use Rattle.closing.proofs.SweepLaws.{Rewritten, rewritten_none, rewritten_more}
use Rattle.closing.proofs.ClosureLaws.{Grown, grown_pivot, grown_same, stage_all}

pub rewritten_all : (g : ℕ → ℕ) (n : ℕ) (r₀ : List ℕ) → n ≤ length r₀ → (i : ℕ) → i ≤ n → (r : List ℕ) × Rewritten g n i r₀ r
rewritten_all g n r₀ b zero l = (r₀, rewritten_none g n r₀)
rewritten_all g n r₀ b (suc i) l =
    let w = rewritten_all g n r₀ b i (omega arith) in
    let z = w.1.size in
    (set w.0 i (g i), subst (λ (x : ℕ). Rewritten g n x r₀ (set w.0 i (g i))) (add-one i) (rewritten_more (g i) l (omega arith) refl w.1))

-- `left` has the pivots that are not done: none below k
record Upto (n k left : ℕ) (r₀ r : List ℕ) : Type 0 where
  size : length r ≡ length r₀
  gone : (p : ℕ) → p < k → mem left p ≡ false
  grown : Grown n left r₀ (succ_of r)
  rest : drop n r ≡ drop n r₀

upto_none : (n : ℕ) (r₀ : List ℕ) → Upto n 0 (full n) r₀ r₀
upto_none n r₀ = record {
  size = refl;
  gone = λ p l. absurd (not-suc-le-zero l);
  grown = record { keeps = λ e d l h. h; sound = λ e d l h. step h; via = λ p l o. absurd (not_both_ways (mem_full n p l) o) };
  rest = refl;
}

upto_more : {n k left : ℕ} {r₀ r r' : List ℕ} → k < n → Upto n k left r₀ r → Rewritten (pivot k (succ_of r)) n n r r' → Upto n (k + 1) (remove left k) r₀ r'
upto_more {n} {k} {left} l u w = record {
  size = w.size ∙ u.size;
  gone = up_more (λ p h. false_of (mem (remove left k) p) (λ t. not_both_ways (remove_old left k p t) (u.gone p h)))
      (mem_remove left k k ∙ ap (λ (b : Bool). mem left k && not b) (eqb_self k) ∙ and-false (mem left k));
  grown = grown_same w.done (grown_pivot k l u.grown);
  rest = w.rest ∙ u.rest;
}

upto : (n : ℕ) (r₀ : List ℕ) → n ≤ length r₀ → (k : ℕ) → k ≤ n → (left : ℕ) × (r : List ℕ) × Upto n k left r₀ r
upto n r₀ b zero l = (full n, r₀, upto_none n r₀)
upto n r₀ b (suc k) l =
    let u = upto n r₀ b k (omega arith) in
    let z = u.2.size in
    let w = rewritten_all (pivot k (succ_of u.1)) n u.1 (omega arith) n (omega arith) in
    (remove u.0 k, w.0, subst (λ (x : ℕ). Upto n x (remove u.0 k) r₀ w.0) (add-one k) (upto_more l u.2 w.1))

-- with every pivot done, none is left
upto_all : {n left : ℕ} {r₀ r : List ℕ} → Upto n n left r₀ r → Closed n r₀ r
upto_all u = stage_all record {
  size = u.size;
  below = λ p h. absurd (not_both_ways h (mem_empty p));
  grown = record { keeps = u.grown.keeps; sound = u.grown.sound; via = λ p l o. u.grown.via p l (u.gone p l) };
  rest = u.rest;
}

pub closed_exists : (n : ℕ) (rows : List ℕ) → n ≤ length rows → (rows' : List ℕ) × Closed n rows rows'
closed_exists n rows b = let u = upto n rows b n (omega arith) in (u.1, upto_all u.2)

-- `find` gives the first: what is named is the lowest. Assumes nothing.
--     itself_lowest, between_lowest, torn_lowest, pair_lowest     the event of 22, the row and V of 24, (R, W, V) of 25, the unsettled pair
use mathlib.Core.Path.{◌≡◌, ap}
use mathlib.Core.Logic.{◌⊎◌, inl, inr}
use mathlib.Core.Bool.{Bool}
use mathlib.Core.List.{Memᴰ}
use mathlib.Core.Option.{some}
use Prim.Native.Nat.{ℕ, ◌≤◌, ◌<◌}
use native.Mathlib.Omega.{arith}
use lib.Dec.{T}
use lib.ListN.{length}
use Rattle.basis.specs.Test.{find, across}
use Rattle.basis.proofs.ListLaws.{across_mem}
use Rattle.basis.proofs.FindLaws.{Sorted, Then, find_least, sorted_from, sorted_across}
use Rattle.format.specs.declared.Row.{Row}
use Rattle.format.specs.Execution.{Execution}
use Rattle.model.specs.Events.{numbers}
use Rattle.model.specs.Rules.{breaks22, breaks24, breaks25}
use Rattle.model.specs.Unsettled.{unsettled, unsettled_pair}
use Rattle.model.proofs.EventsLaws.{number_mem}
use Rattle.model.proofs.RulesLaws.{test24, test25, triples}
use Rattle.model.proofs.UnsettledLaws.{unsettled_inside}

-- ---- what is named

module _ (x : Execution) (hb : ℕ → ℕ → Bool) where
  sorted_numbers : Sorted (λ a b. a < b) (numbers x)
  unfolding numbers
  sorted_numbers = sorted_from (length x.events) 0

  -- 01: "For 22 the lowest event"
  pub itself_lowest : (e : ℕ) → find (breaks22 hb) (numbers x) ≡ some e
      → T (breaks22 hb e) × ((d : ℕ) → d < length x.events → T (breaks22 hb d) → (d ≡ e) ⊎ (e < d))
  itself_lowest e h =
      let w = find_least (λ a b. a < b) (breaks22 hb) (numbers x) e sorted_numbers h in (w.0, λ d k t. w.1 d (number_mem x d k) t)

  -- 01: "for 25 the lowest (R, W, V)"
  pub torn_lowest : (r w v : ℕ) → find (test25 x) (triples x) ≡ some (r, (w, v))
      → T (breaks25 x r w v) × ((p : ℕ × (ℕ × ℕ)) → Memᴰ p (triples x) → T (test25 x p) → (p ≡ (r, (w, v))) ⊎ Then (λ a b. a < b) (Then (λ a b. a < b) (λ a b. a < b)) (r, (w, v)) p)
  torn_lowest r w v h =
      find_least (Then (λ a b. a < b) (Then (λ a b. a < b) (λ a b. a < b))) (test25 x) (triples x) (r, (w, v))
      (sorted_across (λ a b. a < b) (Then (λ a b. a < b) (λ a b. a < b)) (numbers x) (across (numbers x) (numbers x)) sorted_numbers
      (sorted_across (λ a b. a < b) (λ a b. a < b) (numbers x) (numbers x) sorted_numbers sorted_numbers)) h

  -- 01: "Rows are taken in order; then the lowest V"
  pub between_lowest : (Earlier : Row → Row → Type 0) → Sorted Earlier x.rows → (r : Row) (v : ℕ) → find (test24 x hb) (across x.rows (numbers x)) ≡ some (r, v)
      → T (breaks24 x hb r v) × ((p : Row × ℕ) → Memᴰ p (across x.rows (numbers x)) → T (test24 x hb p) → (p ≡ (r, v)) ⊎ Then Earlier (λ a b. a < b) (r, v) p)
  between_lowest Earlier s r v h =
      find_least (Then Earlier (λ a b. a < b)) (test24 x hb) (across x.rows (numbers x)) (r, v) (sorted_across Earlier (λ a b. a < b) x.rows (numbers x) s sorted_numbers) h

  -- 01: "Otherwise the lowest pair is named."
  pub pair_lowest : (e d : ℕ) → unsettled_pair x hb ≡ some (e, d)
      → T (unsettled x hb e d) × ((e' d' : ℕ) → T (unsettled x hb e' d') → (e ≤ e') × (e' ≡ e → d ≤ d'))
  unfolding unsettled_pair
  pair_lowest e d h =
      let w = find_least (Then (λ a b. a < b) (λ a b. a < b)) (λ (p : ℕ × ℕ). unsettled x hb p.0 p.1) (across (numbers x) (numbers x)) (e, d)
      (sorted_across (λ a b. a < b) (λ a b. a < b) (numbers x) (numbers x) sorted_numbers sorted_numbers) h in (
        w.0,
        λ e' d' t. let i = unsettled_inside x hb e' d' t in
            lowest e' d' (w.1 (e', d') (across_mem (numbers x) (numbers x) e' d' (number_mem x e' i.0) (number_mem x d' i.1)) t),
      )
    where
      lowest : (e' d' : ℕ) → (◌≡◌ {A = ℕ × ℕ} (e', d') (e, d)) ⊎ Then (λ a b. a < b) (λ a b. a < b) (e, d) (e', d') → (e ≤ e') × (e' ≡ e → d ≤ d')
      lowest e' d' (inl q) =
          let a : e' ≡ e = ap (λ (p : ℕ × ℕ). p.0) q in let b : d' ≡ d = ap (λ (p : ℕ × ℕ). p.1) q in (omega arith, λ k. omega arith)
      lowest e' d' (inr (inl k)) = (omega arith, λ q. omega (arith, q, k))
      lowest e' d' (inr (inr k)) = (omega (arith, k.0), λ q. omega (arith, k.1))

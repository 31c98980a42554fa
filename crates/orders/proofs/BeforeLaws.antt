-- Without bars, happens-before leaves an order: of the events left, one has none of the others before it, and is placed next. Assumes nothing.
--     earliest         in a list with an entry, one before which no entry is
--     before_leaves    some order meets the problem without bars
use mathlib.Core.Path.{refl, subst}
use mathlib.Core.Logic.{◌⊎◌, inl, inr, ⊎_elim}
use mathlib.Core.Bool.{Bool}
use mathlib.Core.List.Memᴰ
use mathlib.Core.List.{List, [], ◌∷◌, ◌++◌, Memᴰ}
use Prim.Native.Nat.{ℕ, zero, suc, ◌≤◌, ◌<◌}
use native.Mathlib.Omega.{arith}
use native.Mathlib.Nat.{zero-add}
use lib.Dec.{T}
use lib.ListN.{length}
use Rattle.basis.specs.Test.{from}
use Rattle.basis.proofs.BoolLaws.{decide}
use Rattle.basis.proofs.ListLaws.{from_length}
use Rattle.orders.specs.Problem.{Problem}
use Rattle.orders.specs.Order.{Meets}
use Rattle.orders.specs.Step.{With, Below, Runs}
use Rattle.orders.specs.Inits.{Begins}
use Rattle.orders.specs.Posed.{posed}
use Rattle.orders.proofs.InitsLaws.{runs_whole}
use Rattle.orders.proofs.Search.{without}
use Rattle.orders.proofs.SearchLaws.{Split, split_start, split_more, split_end, without_shorter}

module _ (hb : ℕ → ℕ → Bool) (irrefl : (a : ℕ) → T (hb a a) → ⊥) (trans : (a b c : ℕ) → T (hb a b) → T (hb b c) → T (hb a c)) where
  -- an entry of the list, with none of the list before it
  abbrev Earliest : List ℕ → Type 0
  Earliest l = (c : ℕ) × Memᴰ c l × ((a : ℕ) → Memᴰ a l → T (hb a c) → ⊥)

  earliest : (x : ℕ) (l : List ℕ) → Earliest (x ∷ l)
  earliest x [] = (x, Memᴰ.head refl, λ a m t. ⊎_elim (λ q. irrefl x (subst (λ (i : ℕ). T (hb i x)) q t)) Memᴰ.not-nil (Memᴰ.cases_cons m))
  earliest x (y ∷ l) = let w = earliest y l in by w (decide (hb x w.0))
    where
      by : (w : Earliest (y ∷ l)) → T (hb x w.0) ⊎ (T (hb x w.0) → ⊥) → Earliest (x ∷ y ∷ l)
      by w (inl h) = (
        x,
        Memᴰ.head refl,
        λ a m t. ⊎_elim (λ q. irrefl x (subst (λ (i : ℕ). T (hb i x)) q t)) (λ i. w.2 a i (trans a x w.0 t h)) (Memᴰ.cases_cons m),
      )
      by w (inr h) = (w.0, Memᴰ.tail w.1, λ a m t. ⊎_elim (λ q. h (subst (λ (i : ℕ). T (hb i w.0)) q t)) (λ i. w.2 a i t) (Memᴰ.cases_cons m))

module _ (n : ℕ) (hb : ℕ → ℕ → Bool) (inside : (a b : ℕ) → T (hb a b) → (a < n) × (b < n)) (irrefl : (a : ℕ) → T (hb a a) → ⊥)
    (trans : (a b c : ℕ) → T (hb a b) → T (hb b c) → T (hb a c)) where
  abbrev P : Problem
  P = posed n hb []

  leaves : (k : ℕ) (S : ℕ → Type 0) (rest : List ℕ) → length rest ≤ k → Split n S rest → (o : List ℕ) × Runs P S o
  leaves zero S [] h s = ([], split_end s)
  leaves zero S (x ∷ l) h s = absurd (omega arith)
  leaves (suc k) S [] h s = ([], split_end s)
  leaves (suc k) S (x ∷ l) h s =
      let w = earliest hb irrefl trans x l in
      let c = w.0 in
      let o = leaves k (With S c) (without c (x ∷ l)) (omega (arith, without_shorter c (x ∷ l) w.1)) (split_more n S (x ∷ l) c s) in (
        c ∷ o.0,
        (
          record {
            event = s.event c w.1;
            fresh = s.fresh c w.1;
            after = λ a b. ⊎_elim (λ p. p) (λ m. absurd (w.2 a m b)) (s.cover a (inside a c b).0);
            clear = λ r v b. absurd (Memᴰ.not-nil b);
          },
          o.1,
        ),
      )

  none_first : Begins P 0
  none_first = record {
    inits = omega arith;
    before_event = λ a b t. (inside a b t).1;
    bar_event = λ r w v b. absurd (Memᴰ.not-nil b);
    bar_apart = λ r w v b. absurd (Memᴰ.not-nil b);
    first = λ a b h. absurd (omega arith);
    no_bar = λ r w v h. absurd (omega arith);
    early = λ r w v h. absurd (omega arith);
  }

  pub before_leaves : (o : List ℕ) × Meets (posed n hb []) o
  before_leaves = let w = leaves n (Below 0) (from 0 n) (omega (arith, from_length 0 n)) (split_start 0 n n (zero-add n)) in (from 0 0 ++ w.0, runs_whole P 0 none_first w.0 w.1)

-- The laws of specs/Unsettled.antt. Assumes nothing.
--     unsettled_inside              both are events
--     orderly_none, none_orderly    orderly exactly where no pair is found
--     settles                       what orderly says of two events with a byte in common, one of them writing there
use mathlib.Core.Path.{◌≡◌}
use mathlib.Core.Logic.{◌⊎◌, inl, inr}
use mathlib.Core.Bool.{Bool}
use mathlib.Core.Option.{none}
use Prim.Native.Nat.{ℕ, ◌<◌}
use native.Mathlib.Omega.{arith}
use native.Mathlib.Decide.{dec_lt}
use lib.Dec.{T, lt→ltb}
use lib.ListN.{length}
use Rattle.basis.specs.Test.{◌or◌, across}
use Rattle.basis.proofs.BoolLaws.{decide, and_elim, and_intro, non_intro, or_sym}
use Rattle.basis.proofs.ListLaws.{across_mem}
use Rattle.basis.proofs.FindLaws.{find_none, none_find}
use Rattle.format.specs.Shape.{writes, covers, both_sc}
use Rattle.format.specs.Event.{shape_at}
use Rattle.format.specs.Execution.{Execution, event}
use Rattle.format.proofs.ShapeLaws.{both_cover, both_sym}
use Rattle.format.proofs.ExecutionLaws.{access_inside}
use Rattle.model.specs.Events.{numbers}
use Rattle.model.specs.Unsettled.{clash, unsettled, unsettled_pair, Orderly}
use Rattle.model.proofs.EventsLaws.{two_elim, two_at, number_mem}

module _ (x : Execution) (hb : ℕ → ℕ → Bool) where
  pub unsettled_inside : (e d : ℕ) → T (unsettled x hb e d) → (e < length x.events) × (d < length x.events)
  unfolding unsettled
  unsettled_inside e d t =
      let w = two_elim clash (event x e) (event x d) (and_elim _ _ (and_elim _ _ (and_elim _ _ t).1).1).1 in
      (access_inside x e w.0 w.1, access_inside x d w.2 w.3)

  pub none_orderly : unsettled_pair x hb ≡ none → Orderly x hb
  unfolding unsettled_pair
  none_orderly h e d t =
      let w = unsettled_inside e d t in
      find_none (λ (p : ℕ × ℕ). unsettled x hb p.0 p.1) (across (numbers x) (numbers x)) h (e, d)
      (across_mem _ _ e d (number_mem x e w.0) (number_mem x d w.1)) t

  pub orderly_none : Orderly x hb → unsettled_pair x hb ≡ none
  unfolding unsettled_pair
  orderly_none h = none_find (λ (p : ℕ × ℕ). unsettled x hb p.0 p.1) (across (numbers x) (numbers x)) (λ p m t. h p.0 p.1 t)

  module _ (orderly : Orderly x hb) where
    -- e < d
    settles_up : (e d n : ℕ) → e < d → T (covers (shape_at (event x e) n) n) → T (covers (shape_at (event x d) n) n)
        → T (writes (shape_at (event x e) n) or writes (shape_at (event x d) n)) → T (hb e d) ⊎ (T (hb d e) ⊎ T (both_sc (shape_at (event x e) n) (shape_at (event x d) n)))
    unfolding unsettled clash
    settles_up e d n lt s t w = go (decide (hb e d)) (decide (hb d e)) (decide (both_sc (shape_at (event x e) n) (shape_at (event x d) n)))
      where
        go : T (hb e d) ⊎ (T (hb e d) → ⊥) → T (hb d e) ⊎ (T (hb d e) → ⊥)
            → T (both_sc (shape_at (event x e) n) (shape_at (event x d) n)) ⊎ (T (both_sc (shape_at (event x e) n) (shape_at (event x d) n)) → ⊥)
            → T (hb e d) ⊎ (T (hb d e) ⊎ T (both_sc (shape_at (event x e) n) (shape_at (event x d) n)))
        go (inl p) q r = inl p
        go (inr p) (inl q) r = inr (inl q)
        go (inr p) (inr q) (inl r) = inr (inr r)
        go (inr p) (inr q) (inr r) = absurd (orderly e d
            (and_intro _ _ (lt→ltb e d lt) (and_intro _ _ (non_intro _ p) (and_intro _ _ (non_intro _ q)
            (two_at clash (event x e) (event x d) n s t (and_intro _ _ (both_cover _ _ n s t) (and_intro _ _ w (non_intro _ r))))))))

    -- one happens before the other, or both are sc with equal ranges
    pub settles : (e d n : ℕ) → (e ≡ d → ⊥) → T (covers (shape_at (event x e) n) n) → T (covers (shape_at (event x d) n) n)
        → T (writes (shape_at (event x e) n) or writes (shape_at (event x d) n)) → T (hb e d) ⊎ (T (hb d e) ⊎ T (both_sc (shape_at (event x e) n) (shape_at (event x d) n)))
    settles e d n ne s t w = go (dec_lt e d)
      where
        turn : T (hb d e) ⊎ (T (hb e d) ⊎ T (both_sc (shape_at (event x d) n) (shape_at (event x e) n)))
            → T (hb e d) ⊎ (T (hb d e) ⊎ T (both_sc (shape_at (event x e) n) (shape_at (event x d) n)))
        turn (inl p) = inr (inl p)
        turn (inr (inl p)) = inl p
        turn (inr (inr p)) = inr (inr (both_sym _ _ p))

        go : Dec (e < d) → T (hb e d) ⊎ (T (hb d e) ⊎ T (both_sc (shape_at (event x e) n) (shape_at (event x d) n)))
        go (yes h) = settles_up e d n h s t w
        go (no h) = turn (settles_up d e n (omega arith) t s (or_sym _ _ w))

-- The orders that meet the rules, and the inits: what lets a search begin behind them. Assumes nothing.
--     inits_others                                     every event is an init or another
--     meets_length                                     an order that meets the rules has as many entries as there are events
--     begins                                           `Begins (problem x hb) (inits x.events)`: what `ordered_first`, `ordered_none` ask for
use mathlib.Core.Path.{◌≡◌, sym, ◌∙◌, subst}
use mathlib.Core.Logic.{◌⊎◌, inl, inr}
use mathlib.Core.Bool.{Bool}
use mathlib.Core.List.{List, Memᴰ}
use Prim.Native.Nat.{ℕ, ◌+◌, ◌<◌}
use native.Mathlib.Omega.{arith}
use lib.Dec.{T}
use lib.ListN.{length}
use Rattle.basis.specs.Test.{◌or◌}
use Rattle.basis.proofs.BoolLaws.{and_elim, or_cases}
use Rattle.basis.proofs.LoopLaws.{number_both}
use Rattle.format.specs.declared.Row.{Row}
use Rattle.format.specs.Event.{is_init}
use Rattle.format.specs.Execution.{Execution, event, inits, others}
use Rattle.format.proofs.ShapeLaws.{both_elim}
use Rattle.orders.specs.Inits.{Begins}
use Rattle.orders.specs.Order.{Meets}
use Rattle.orders.specs.Step.{Below}
use Rattle.orders.proofs.OrderLaws.{None, meets_runs}
use Rattle.orders.proofs.StepLaws.{same_runs}
use Rattle.orders.proofs.TrailLaws.{runs_length}
use Rattle.model.specs.Events.{at_row}
use Rattle.model.specs.Happens.{row_syncs, Tests}
use Rattle.model.specs.Bar.{bar_a, bar_b, bar_c}
use Rattle.model.specs.Order.{problem}
use Rattle.model.proofs.Sound.{Sound}
use Rattle.model.proofs.HappensLaws.{happens_inside, init_earliest, init_not_sc, reader_inside}
use Rattle.model.proofs.BarLaws.{RowBars, row_bars_lem, bar_elim}

-- ---- inits first

pub inits_others : (x : Execution) → inits x.events + others x.events ≡ length x.events
unfolding inits others
inits_others x = number_both is_init x.events

module _ (x : Execution) (hb : ℕ → ℕ → Bool) (so : Sound x) (tests : Tests x hb) where
  -- a bar whose W is an init comes from (c), where W happens before V
  init_writer : (r : Row) (v : ℕ) → Memᴰ r x.rows → T (is_init (event x r.writer)) → RowBars x hb r v → T (hb r.writer v)
  unfolding at_row bar_a bar_b bar_c row_syncs
  init_writer r v m h b = first (or_cases _ _ b.reason)
    where
      rest : T (bar_b x hb r v) ⊎ T (bar_c x hb r v) → T (hb r.writer v)
      rest (inl t) = absurd (init_not_sc x so r.writer r.address h (so.row_writes r m) (and_elim _ _ (and_elim _ _ (and_elim _ _ t).1).1).0)
      rest (inr t) = (and_elim _ _ (and_elim _ _ t).1).0

      first : T (bar_a x r v) ⊎ T (bar_b x hb r v or bar_c x hb r v) → T (hb r.writer v)
      first (inl t) = absurd (init_not_sc x so r.writer r.address h (so.row_writes r m) (both_elim _ _ (and_elim _ _ t).0).left)
      first (inr t) = rest (or_cases _ _ t)

  pub begins : Begins (problem x hb) (inits x.events)
  unfolding at_row
  begins = record {
    inits = omega (arith, inits_others x);
    before_event = λ a b t. (happens_inside x so ((tests a b).0 t)).1;
    bar_event = λ r w v t. let k = bar_elim x hb r w v t in subst (λ (i : ℕ). i < length x.events) k.2 (reader_inside x so k.0 k.1);
    bar_apart = λ r w v t e. let k = bar_elim x hb r w v t in (row_bars_lem x hb k.0 v k.4).not_reader (sym (k.2 ∙ e));
    first = λ a b h t. init_earliest x so (so.init_low b h) ((tests a b).0 t);
    no_bar = λ r w v h t. let k = bar_elim x hb r w v t in let b = row_bars_lem x hb k.0 v k.4 in
        init_not_sc x so v k.0.address (so.init_low v h) b.writes b.sc;
    early = λ r w v h t. let k = bar_elim x hb r w v t in subst (λ (i : ℕ). T (hb i v)) k.3
        (init_writer k.0 v k.1 (subst (λ (i : ℕ). T (is_init (event x i))) (sym k.3) (so.init_low w h)) (row_bars_lem x hb k.0 v k.4));
  }

  pub meets_length : (o : List ℕ) → Meets (problem x hb) o → length o ≡ length x.events
  meets_length o m =
      let r = same_runs (problem x hb) o None (Below 0) (λ d. ((λ z. absurd z), (λ h. omega (arith, h)))) (meets_runs (problem x hb) begins o m) in
      omega (arith, runs_length (problem x hb) 0 (omega arith) o r)

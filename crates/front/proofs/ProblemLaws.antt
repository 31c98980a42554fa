-- The placement problem of the tables is the model's: what has to come before what, the bars, and that the inits may stand first. Assumes nothing.
--     held_before      what has to come before what
--     held_problem     the bars
--     held_begins      the inits may stand first
use mathlib.Core.Path.{◌≡◌, refl, sym, ◌∙◌, subst}
use mathlib.Core.Logic.{◌↔◌}
use mathlib.Core.List.{List}
use Prim.Native.Nat.{ℕ, ◌*◌, ◌<◌, min}
use native.Mathlib.Omega.{arith}
use lib.Dec.{T}
use lib.ListN.{length, replicate}
use Rattle.basis.proofs.BoolLaws.{true_T, T_true}
use Rattle.format.specs.Event.{writes_at}
use Rattle.format.specs.Execution.{Execution, inits}
use Rattle.format.proofs.EventLaws.{writes_at_nobody}
use Rattle.format.proofs.ExecutionLaws.{event_inside}
use Rattle.sets.specs.Mask.{slots}
use Rattle.orders.specs.Problem.{Problem}
use Rattle.orders.specs.Inits.{Begins}
use Rattle.orders.specs.Tables.{tabled}
use Rattle.orders.proofs.InitsLaws.{begins_same}
use Rattle.model.specs.Order.{problem}
use Rattle.model.proofs.Sound.{Sound}
use Rattle.model.proofs.HappensLaws.{happens_inside, writer_inside}
use Rattle.model.proofs.BarLaws.{bar_elim, row_bars_lem}
use Rattle.model.proofs.OrderLaws.{begins}
use Rattle.tables.specs.Tables.{row_room}
use Rattle.bars.specs.Bars.{filled_in}
use Rattle.front.specs.Tabled.{hb_of, Held}
use Rattle.front.proofs.SheetLaws.{held_bars}

module _ {x : Execution} {n m : ℕ} {t q succ pred : List ℕ} (h : Held x n m t q succ pred) (so : Sound x) where
  abbrev P : Problem
  P = tabled n pred (filled_in t (min n slots) succ pred q (min m row_room) (replicate (slots * slots) 0))

  abbrev Q : Problem
  Q = problem x (hb_of succ)

  count : length x.events ≡ n
  count = h.tabled.count

  pub held_before : (a b : ℕ) → P.Before a b ↔ Q.Before a b
  held_before a b = (
    (λ w. true_T _ (sym (h.turned a b) ∙ w.1)),
    (λ t. (rw count at (happens_inside x so ((h.tests a b).0 t)).1, h.turned a b ∙ T_true _ t)),
  )

  pub held_problem : (r w v : ℕ) → P.Bar r w v ↔ Q.Bar r w v
  held_problem r w v = (
    (λ b. let z = h.tabled.few in let i = b.0 in let j = b.1 in true_T _ (sym (held_bars h so refl r w v (omega arith) (omega arith)) ∙ b.2)),
    (λ t.
        let b = bar_elim x (hb_of succ) r w v t in
        let z = h.tabled.few in
        let i : w < n = rw count at (subst (λ (j : ℕ). j < length x.events) b.3 (writer_inside x so b.0 b.1)) in
        let j : v < n = rw count at (event_inside x (λ e. T (writes_at e b.0.address)) (λ y. subst T (writes_at_nobody b.0.address) y) v (row_bars_lem x (hb_of succ) b.0 v b.4).writes) in
        (j, i, held_bars h so refl r w v (omega arith) (omega arith) ∙ T_true _ t)),
  )

  pub held_begins : {k : ℕ} → k ≡ inits x.events → Begins P k
  held_begins {k} e =
      begins_same P Q k (sym count) held_before held_problem (subst (λ (i : ℕ). Begins Q i) (sym e) (begins x (hb_of succ) so h.tests))

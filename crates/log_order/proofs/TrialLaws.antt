-- Two trials that agree on their events and rows name the same faults. Assumes nothing.
--     fault_same     so what is said of a list over the tables is what is said of it over an execution
use mathlib.Core.Path.{◌≡◌, ap, ap₂}
use mathlib.Core.Bool.{Bool}
use mathlib.Core.List.{List, Memᴰ}
use mathlib.Core.Option.{Option}
use Prim.Native.Nat.{ℕ, ◌<◌}
use native.Mathlib.Omega.{arith}
use lib.ListN.{length, get_or}
use Rattle.basis.specs.Test.{◌and◌, ◌else◌, mapped, across, from}
use Rattle.basis.proofs.ListLaws.{from_elim, across_left, across_right}
use Rattle.basis.proofs.LoopLaws.{any_same}
use Rattle.basis.proofs.FindLaws.{find_same}
use Rattle.format.specs.declared.Row.{Row}
use Rattle.log_order.specs.declared.Fault.{Fault}
use Rattle.log_order.specs.declared.Fault.TheVariants.{TooEarly, Barred}
use Rattle.log_order.specs.Listed.{ahead, Trial, early_at, barred_at, length_fault, number_fault, early_fault, bar_fault, list_fault}

-- with other tests, which agree
module _ (c : Trial) (before : ℕ → ℕ → Bool) (bars : Row → ℕ → Bool) (same-before : (a b : ℕ) → c.before a b ≡ before a b)
    (same-bars : (r : Row) (v : ℕ) → Memᴰ r c.rows → v < c.events → c.bars r v ≡ bars r v) (l : List ℕ) where
  abbrev D : Trial
  D = record { events = c.events; before = before; rows = c.rows; bars = bars }

  early_same : (i : ℕ) → early_at c l i ≡ early_at D l i
  unfolding early_at
  early_same i = any_same _ _ (from 0 c.events) (λ d m. ap (λ (b : Bool). b and ahead l (get_or l i 0) d) (same-before d (get_or l i 0)))

  barred_same : (p : Row × ℕ) → Memᴰ p (across c.rows (from 0 c.events)) → barred_at c l p ≡ barred_at D l p
  unfolding barred_at
  barred_same p m =
      let z = from_elim c.events 0 p.1 (across_right c.rows (from 0 c.events) p m) in
      ap (λ (b : Bool). ahead l p.0.writer p.1 and ahead l p.1 p.0.reader and b)
      (same-bars p.0 p.1 (across_left c.rows (from 0 c.events) p m) (omega (arith, z.1)))

  pub fault_same : list_fault c l ≡ list_fault D l
  unfolding list_fault length_fault number_fault early_fault bar_fault
  fault_same =
      ap₂ (λ (a b : Option Fault). length_fault c l else number_fault c l else a else b)
      (ap (mapped (λ (i : ℕ). TooEarly i)) (find_same (early_at c l) (early_at D l) (from 0 (length l)) (λ i m. early_same i)))
      (ap (mapped (λ (p : Row × ℕ). Barred p.0.reader p.0.writer p.1 p.0.address)) (find_same (barred_at c l) (barred_at D l) (across c.rows (from 0 c.events)) barred_same))

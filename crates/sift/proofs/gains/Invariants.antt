-- `sift::gains` meets its contract: the first e masks are done. The measure is what is left. Assumes nothing.
use mathlib.Core.Path.{◌≡◌}
use Prim.Native.Nat.{ℕ, ◌-◌, ◌%◌, ◌≤◌}
use lib.Dec.{eqb}
use lib.ListN.{length, get_or}
use Rattle.sets.specs.Mask.{slots}
use Rattle.cells.specs.Cells.{placing}
use Rattle.alike.specs.Ranges.{match}
use Rattle.sift.proofs.gains.Given as goal

abbrev pub invariant-loop-e : goal.invariant-loop-e
invariant-loop-e l = (l.e ≤ slots) × (length l.eq ≡ slots) × (l.eq ≡ placing (match (λ (i : ℕ). eqb (get_or l.by i 0) l.x) (l.v % slots) l.initial.eq) l.e l.initial.eq)

abbrev pub decreases-loop-e : goal.decreases-loop-e
decreases-loop-e l = slots - l.e

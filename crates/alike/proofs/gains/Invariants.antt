-- `alike::gains` meets its contract: the first k masks are done. The measure is what is left. Assumes nothing.
use mathlib.Core.Path.{◌≡◌}
use Prim.Native.Nat.{ℕ, ◌-◌, ◌%◌, ◌≤◌}
use lib.Dec.{eqb}
use lib.ListN.{length, get_or}
use Rattle.sets.specs.Mask.{slots}
use Rattle.tables.specs.Tables.{accesses}
use Rattle.cells.specs.Cells.{placing}
use Rattle.alike.specs.Ranges.{match}
use Rattle.alike.proofs.gains.Given as goal

abbrev pub invariant-loop-k : goal.invariant-loop-k
invariant-loop-k l = (l.k ≤ l.m) × (l.m ≤ accesses) × (l.m ≤ length l.initial.eq) × (l.eq ≡ placing (match (λ (i : ℕ). eqb (get_or l.keys i 0) l.x) (l.v % slots) l.initial.eq) l.k l.initial.eq)

abbrev pub decreases-loop-k : goal.decreases-loop-k
decreases-loop-k l = l.m - l.k

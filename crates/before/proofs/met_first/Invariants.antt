-- `before::met_first` meets its contract: s has the events below d whose first access shares a byte with e's. The measure is what is left.
-- Assumes nothing.
use mathlib.Core.Path.{◌≡◌}
use mathlib.Core.Bool.{Bool}
use mathlib.Core.List.{List}
use Prim.Native.Nat.{ℕ, ◌*◌, ◌-◌, ◌≤◌}
use Rattle.format.specs.Shape.{overlap}
use Rattle.cells.specs.Walk.{picked}
use Rattle.tables.specs.Tables.{shape_in}
use Rattle.before.proofs.met_first.Given as goal

-- the first accesses of two events share a byte
abbrev pub firsts : List ℕ → ℕ → ℕ → Bool
firsts t e d = overlap (shape_in t (2 * e)) (shape_in t (2 * d))

abbrev pub invariant-loop-d : goal.invariant-loop-d
invariant-loop-d l = (l.d ≤ l.n) × (l.s ≡ picked l.d (firsts l.t l.e))

abbrev pub decreases-loop-d : goal.decreases-loop-d
decreases-loop-d l = l.n - l.d

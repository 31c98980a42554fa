-- `own::laters` meets its contract: the first e masks of both tables are there. The measure is what is left. Assumes nothing.
use mathlib.Core.Path.{◌≡◌}
use Prim.Native.Nat.{◌-◌, ◌≤◌, min}
use Rattle.sets.specs.Mask.{slots}
use Rattle.cells.specs.Cells.{placing}
use Rattle.own.specs.Own.{later_of, earlier_of}
use Rattle.own.proofs.laters.Given as goal

abbrev pub invariant-loop-e : goal.invariant-loop-e
invariant-loop-e l =
    (l.e ≤ l.m) × (l.m ≤ slots) × (l.later ≡ placing (later_of l.t (min l.n slots)) l.e l.initial.later) × (l.earlier ≡ placing (earlier_of l.t (min l.n slots)) l.e l.initial.earlier)

abbrev pub decreases-loop-e : goal.decreases-loop-e
decreases-loop-e l = l.m - l.e

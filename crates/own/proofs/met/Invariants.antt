-- `own::met` meets its contract: s has what passes below d. The measure is what is left. Assumes nothing.
use mathlib.Core.Path.{◌≡◌}
use Prim.Native.Nat.{◌-◌, ◌%◌, ◌≤◌}
use Rattle.sets.specs.Mask.{slots}
use Rattle.cells.specs.Walk.{picked}
use Rattle.own.specs.Own.{met_in}
use Rattle.own.proofs.met.Given as goal

abbrev pub invariant-loop-d : goal.invariant-loop-d
invariant-loop-d l = (l.d ≤ l.m) × (l.m ≤ slots) × (l.s ≡ picked l.d (met_in l.t (l.e % slots)))

abbrev pub decreases-loop-d : goal.decreases-loop-d
decreases-loop-d l = l.m - l.d

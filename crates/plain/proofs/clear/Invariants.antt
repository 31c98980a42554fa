-- `plain::clear` meets its contract: the first i places are zero, and the rest is as it was. The measure is what is left. Assumes nothing.
use mathlib.Core.Path.{◌≡◌}
use mathlib.Core.List.{◌++◌}
use Prim.Native.Nat.{◌-◌, ◌≤◌}
use lib.ListN.{length, drop, replicate}
use Rattle.sets.specs.Mask.{slots}
use Rattle.plain.proofs.clear.Given as goal

abbrev pub invariant-loop-i : goal.invariant-loop-i
invariant-loop-i l = (l.i ≤ slots) × (length l.at ≡ slots) × (l.at ≡ replicate l.i 0 ++ drop l.i l.initial.at)

abbrev pub decreases-loop-i : goal.decreases-loop-i
decreases-loop-i l = slots - l.i

-- `before::merge` meets its contract: the first d masks are done. The measure is what is left. Assumes nothing.
use mathlib.Core.Path.{◌≡◌}
use Prim.Native.Nat.{◌-◌, ◌≤◌}
use lib.ListN.{length}
use Rattle.sets.specs.Mask.{slots}
use Rattle.before.proofs.LinkedLaws.{Changed, merged_at}
use Rattle.before.proofs.merge.Given as goal

abbrev pub invariant-loop-d : goal.invariant-loop-d
invariant-loop-d l = (l.d ≤ slots) × (length l.initial.masks ≡ slots) × Changed (merged_at l.initial.masks l.others) l.d l.initial.masks l.masks

abbrev pub decreases-loop-d : goal.decreases-loop-d
decreases-loop-d l = slots - l.d

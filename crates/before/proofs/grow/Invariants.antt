-- `before::grow` meets its contract: the first e masks are done; the second and the third loop go on from what the one before left (`Going`). The
-- measure is what is left. Assumes nothing.
use mathlib.Core.Path.{◌≡◌}
use Prim.Native.Nat.{◌-◌, ◌≤◌}
use lib.ListN.{length}
use Rattle.sets.specs.Mask.{slots}
use Rattle.before.proofs.LinkedLaws.{Changed, grew_at, Going}
use Rattle.before.proofs.grow.Given as goal

abbrev pub invariant-loop-e : goal.invariant-loop-e
invariant-loop-e l = (l.e ≤ 12) × (length l.initial.masks ≡ slots) × Changed (grew_at l.m l.x l.initial.masks) l.e l.initial.masks l.masks

abbrev pub decreases-loop-e : goal.decreases-loop-e
decreases-loop-e l = 12 - l.e

abbrev pub invariant-loop-e-2 : goal.invariant-loop-e-2
invariant-loop-e-2 l = (12 ≤ l.e) × (l.e ≤ 24) × (length l.masks ≡ slots) × Going l.m l.x 12 l.initial.masks l.e l.masks

abbrev pub decreases-loop-e-2 : goal.decreases-loop-e-2
decreases-loop-e-2 l = 24 - l.e

abbrev pub invariant-loop-e-3 : goal.invariant-loop-e-3
invariant-loop-e-3 l = (24 ≤ l.e) × (l.e ≤ slots) × (length l.masks ≡ slots) × Going l.m l.x 24 l.initial.masks l.e l.masks

abbrev pub decreases-loop-e-3 : goal.decreases-loop-e-3
decreases-loop-e-3 l = slots - l.e

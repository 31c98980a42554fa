-- `closing::close` meets its contract: every pivot is done but those that are left (`Stage`). The measure is `left`, which gets smaller as a
-- number. Assumes nothing.
use Prim.Native.Nat.{◌≤◌}
use lib.ListN.{length}
use Rattle.sets.specs.Mask.{slots}
use Rattle.closing.proofs.ClosureLaws.{Stage}
use Rattle.closing.proofs.close.Given as goal

abbrev pub invariant-loop-left : goal.invariant-loop-left
invariant-loop-left l = (l.m ≤ slots) × (l.m ≤ length l.initial.rows) × Stage l.m l.left l.initial.rows l.rows

abbrev pub decreases-loop-left : goal.decreases-loop-left
decreases-loop-left l = l.left

-- `before::beyond` meets its contract: the first events have been looked at. The measure is what is left. Assumes nothing.
use Prim.Native.Nat.{◌-◌, ◌≤◌}
use Rattle.sets.specs.Mask.{slots}
use Rattle.before.specs.steps.Linked.{Beyond}
use Rattle.before.proofs.beyond.Given as goal

abbrev pub invariant-loop-k : goal.invariant-loop-k
invariant-loop-k l = (l.k ≤ 12) × Beyond l.k l.succ l.x l.d

abbrev pub decreases-loop-k : goal.decreases-loop-k
decreases-loop-k l = 12 - l.k

abbrev pub invariant-loop-k-2 : goal.invariant-loop-k-2
invariant-loop-k-2 l = (l.k ≤ 24) × Beyond l.k l.succ l.x l.d

abbrev pub decreases-loop-k-2 : goal.decreases-loop-k-2
decreases-loop-k-2 l = 24 - l.k

abbrev pub invariant-loop-e : goal.invariant-loop-e
invariant-loop-e l = (l.e ≤ slots) × Beyond l.e l.succ l.x l.d

abbrev pub decreases-loop-e : goal.decreases-loop-e
decreases-loop-e l = slots - l.e

-- `sift::note` meets its contract: the first e events are done. The measure is what is left. Assumes nothing.
use Prim.Native.Nat.{◌-◌, ◌≤◌}
use Rattle.sets.specs.Mask.{slots}
use Rattle.sift.specs.steps.Noted.{NotedIn}
use Rattle.sift.proofs.note.Given as goal

abbrev pub invariant-loop-e : goal.invariant-loop-e
invariant-loop-e l = (l.e ≤ l.m) × (l.m ≤ slots) × NotedIn l.t l.e l.initial.by l.by l.far l.sc l.writers l.seconds

abbrev pub decreases-loop-e : goal.decreases-loop-e
decreases-loop-e l = l.m - l.e

-- `before::add_pairs` meets its contract: the first j pairs have been looked at. The measure is what is left. Assumes nothing.
use Prim.Native.Nat.{◌-◌, ◌≤◌}
use Rattle.tables.specs.Tables.{pair_room}
use Rattle.before.specs.Before.{pair_steps_in}
use Rattle.before.specs.steps.Linked.{Linking}
use Rattle.before.proofs.add_pairs.Given as goal

abbrev pub invariant-loop-j : goal.invariant-loop-j
invariant-loop-j l = (l.j ≤ l.m) × (l.m ≤ pair_room) × Linking l.n (pair_steps_in l.p l.j) l.initial.succ l.initial.cols l.succ l.cols

abbrev pub decreases-loop-j : goal.decreases-loop-j
decreases-loop-j l = l.m - l.j

-- `force::cyclic` meets its contract. The measure is what is left. Assumes nothing.
use Rattle.std.proofs.Common.{◌-◌, ◌≤◌}
use Rattle.force.proofs.cyclic.Given as goal

abbrev pub invariant-loop-v : goal.invariant-loop-v
invariant-loop-v l = l.k ≤ l.v

abbrev pub decreases-loop-v : goal.decreases-loop-v
decreases-loop-v l = l.m - l.v

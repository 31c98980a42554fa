-- `force::press_all` meets its contract: bar by bar, and closed. The measure is what is left. Assumes nothing.
use Rattle.std.proofs.Common.{◌-◌, ◌≤◌}
use Rattle.orders.specs.Tables.{tabled}
use Rattle.force.specs.Forced.{Forced}
use Rattle.force.proofs.press_all.Given as goal

abbrev pub invariant-loop-v : goal.invariant-loop-v
invariant-loop-v l = (l.k ≤ l.v) × Forced (tabled l.m l.before l.bars) l.k l.before l.f

abbrev pub decreases-loop-v : goal.decreases-loop-v
decreases-loop-v l = l.m - l.v

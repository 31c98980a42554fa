-- `force::press_list` meets its contract: entry by entry. The measure is what is left. Assumes nothing.
use Rattle.std.proofs.Common.{◌-◌}
use Rattle.orders.specs.Tables.{tabled}
use Rattle.orders.specs.Listed.{listed_bars}
use Rattle.force.specs.Forced.{Forced}
use Rattle.force.proofs.press_list.Given as goal

abbrev pub invariant-loop-i : goal.invariant-loop-i
invariant-loop-i l = Forced (tabled l.m l.before (listed_bars l.between l.readers l.writers l.n)) l.k l.before l.f

abbrev pub decreases-loop-i : goal.decreases-loop-i
decreases-loop-i l = l.n - l.i

-- `force::press_list_on` meets its contract: what is in the masks stays forced. Assumes nothing.
use Rattle.orders.specs.Tables.{tabled}
use Rattle.orders.specs.Listed.{listed_bars}
use Rattle.force.specs.Forced.{Forced}
use Rattle.force.proofs.press_list_on.Given as goal

abbrev pub invariant-loop : goal.invariant-loop
invariant-loop l = Forced (tabled l.m l.before (listed_bars l.between l.readers l.writers l.n)) l.k l.before l.f

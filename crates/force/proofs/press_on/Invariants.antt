-- `force::press_on` meets its contract: what is in the masks stays forced. Assumes nothing.
use Rattle.orders.specs.Tables.{tabled}
use Rattle.force.specs.Forced.{Forced}
use Rattle.force.proofs.press_on.Given as goal

abbrev pub invariant-loop : goal.invariant-loop
invariant-loop l = Forced (tabled l.m l.before l.bars) l.k l.before l.f

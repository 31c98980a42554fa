-- `force::press_event` meets its contract: what is left is a part of the writers. Assumes nothing.
use Rattle.sets.specs.Mask.{Within}
use Rattle.orders.specs.Tables.{tabled}
use Rattle.force.specs.Forced.{Forced}
use Rattle.force.proofs.press_event.Given as goal

abbrev pub invariant-loop-w : goal.invariant-loop-w
invariant-loop-w l = Within l.w-iterator.left l.writers × Forced (tabled l.m l.before l.bars) l.k l.before l.f

-- `plain::inits` meets its contract. The invariant: the whole answer is the answer from this place on, behind a head or an event, the table holds the events so far, and
-- none of them lies at `high` or behind. The measure is what is left of the sheet. Assumes nothing.
use Prim.Native.Nat.{◌-◌}
use lib.ListN.{length}
use Rattle.entries.specs.Entries.{events_in}
use Rattle.spot.specs.Between.{behind}
use Rattle.plain.specs.steps.Growing.{Growing, Clear}
use Rattle.plain.proofs.inits.Given as goal

abbrev pub invariant-loop-p : goal.invariant-loop-p
invariant-loop-p l = Growing l.s l.h l.initial.n l.initial.n l.initial.p l.initial.at l.initial.t l.n l.n l.k l.last l.p l.at l.t × Clear (events_in l.s (behind l.h l.n l.n l.p) l.at) l.high

abbrev pub decreases-loop-p : goal.decreases-loop-p
decreases-loop-p l = length l.s - l.p

-- `sheet::reader::fields` meets its contract. The invariant: the whole answer is the answer from this place on, and the tables hold the events and rows so far. The measure is
-- what is left of the sheet. Assumes nothing.
use Prim.Native.Nat.{◌-◌}
use lib.ListN.{length}
use Rattle.entries.specs.Entries.{events_in}
use Rattle.spot.specs.Between.{Turn, Tallied, Carried}
use Rattle.sheet.proofs.reader.fields.Given as goal

abbrev pub invariant-loop-p : goal.invariant-loop-p
invariant-loop-p l = Turn l.s l.p l.last l.x l.at × Tallied (events_in l.s l.x l.at) l.k × Carried l.s l.initial.x l.initial.at l.initial.t l.initial.q l.x l.at l.t l.q

abbrev pub decreases-loop-p : goal.decreases-loop-p
decreases-loop-p l = length l.s - l.p

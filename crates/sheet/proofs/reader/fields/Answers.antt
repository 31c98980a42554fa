-- `sheet::reader::fields` meets its contract. The invariant: the whole answer is the answer from this place on, and the tables hold the events and rows so far. The measure is
-- what is left of the sheet. Assumes nothing.
use Rattle.std.proofs.Common.{refl, arith}
use Rattle.faults.specs.Number.{number_of}
use Rattle.faults.proofs.NumberLaws.{number_some}
use Rattle.spot.proofs.TallyLaws.{tally_room, tally_next}
use Rattle.spot.proofs.BetweenLaws.{turn_through, turn_fault, turn_ready, turn_reach, turn_next}
use Rattle.spot.proofs.TabledLaws.{tabled_sizes}
use Rattle.sheet.proofs.reader.fields.Goals as goal

pub loop-p-init : goal.loop-p-init
loop-p-init c = let h = c.fields-spot.ensures.fit c.requires in (h.stands.turn, h.stands.tallied, λ t₀ q₀ g. g)

pub shape_of-q-in-Err : goal.shape_of-q-in-Err
shape_of-q-in-Err c = (tabled_sizes _ _ _ _ _ _ _ (c.loop-p.invariant.2 c.args.t.now c.args.q.now (c.fields-spot.ensures.fit c.requires).tabled)).1

pub returns-in-Err : goal.returns-in-Err
returns-in-Err c = rw c.at_field.ensures (turn_fault c.args.s.now c.loop-p.p c.loop-p.last c.loop-p.x c.loop-p.at c.loop-p.invariant.0 (number_of c.in-Err.fault) c.loop-p-test.true c.in-Err.ensures (number_some c.in-Err.fault))

pub overflow_cast-next : goal.overflow_cast-next
overflow_cast-next c = let r = turn_reach c.args.s.now c.loop-p.p c.loop-p.last c.loop-p.x c.loop-p.at c.loop-p.invariant.0 0 c.in_default.ensures refl in let e = c.next_at-next.ensures in omega arith

pub tally_after-k-requires : goal.tally_after-k-requires
tally_after-k-requires c = tally_room c.args.s.now c.loop-p.p c.loop-p.last c.loop-p.x c.loop-p.at c.loop-p.invariant.0.between c.loop-p.k c.loop-p.invariant.1

pub after-x-requires : goal.after-x-requires
after-x-requires c = turn_ready c.args.s.now c.loop-p.p c.loop-p.last c.loop-p.x c.loop-p.at c.loop-p.invariant.0 0 c.in_default.ensures refl

pub loop-p-preserved : goal.loop-p-preserved
loop-p-preserved c = (
  rw (c.byte-last.ensures, c.next_at-next.ensures) (turn_next c.args.s.now c.loop-p.p c.loop-p.last c.loop-p.x c.loop-p.at c.loop-p.invariant.0 c.after-x.result _ 0 c.loop-p-test.true c.in_default.ensures refl c.after-x.ensures.0),
  tally_next c.args.s.now c.loop-p.p c.loop-p.last c.loop-p.x c.loop-p.at (turn_ready c.args.s.now c.loop-p.p c.loop-p.last c.loop-p.x c.loop-p.at c.loop-p.invariant.0 0 c.in_default.ensures refl) c.after-x.result _ c.after-x.ensures.0 c.loop-p.k c.loop-p.invariant.1 c.tally_after-k.result c.tally_after-k.ensures.0 c.tally_after-k.ensures.1,
  λ t₀ q₀ g. c.after-x.ensures.1 t₀ q₀ (c.loop-p.invariant.2 t₀ q₀ g),
)

pub shape_of-q : goal.shape_of-q
shape_of-q c = (tabled_sizes _ _ _ _ _ _ _ (c.loop-p.invariant.2 c.args.t.now c.args.q.now (c.fields-spot.ensures.fit c.requires).tabled)).1

pub returns : goal.returns
returns c = record {
  through = turn_through c.args.s.now c.loop-p.p c.loop-p.last c.loop-p.x c.loop-p.at c.loop-p.invariant.0 c.loop-p-test.false;
  tallied = c.loop-p.invariant.1;
  tabled = c.loop-p.invariant.2 c.args.t.now c.args.q.now (c.fields-spot.ensures.fit c.requires).tabled;
}

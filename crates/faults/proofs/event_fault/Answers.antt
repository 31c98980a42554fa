-- `faults::event_fault` meets its contract, test by test. Assumes nothing.
use Rattle.basis.specs.Test.{non}
use Rattle.parse.specs.Parse.{event_fault_by}
use borrow.Author.Tests.{eq-eqb, le-ltb, lt-ltb, ne_eqb}
use Rattle.faults.proofs.event_fault.Goals as goal

pub returns-then-short : goal.returns-then-short
unfolding event_fault_by non
returns-then-short c = simp (simp c.event_bytes-least.ensures at (lt-ltb _ _ c.if-short.true))

pub returns-then-not-fits : goal.returns-then-not-fits
unfolding event_fault_by non
returns-then-not-fits c = simp (simp c.event_bytes-least.ensures at (le-ltb _ _ c.if-short.false), simp (c.event_fits-fits.ensures, c.byte-agent.ensures, c.shape_of-a.ensures) at c.if-not-fits.true)

pub returns-then-not-exact : goal.returns-then-not-exact
unfolding event_fault_by non
returns-then-not-exact c = simp (simp c.event_bytes-least.ensures at (le-ltb _ _ c.if-short.false), simp (c.event_fits-fits.ensures, c.byte-agent.ensures, c.shape_of-a.ensures) at c.if-not-fits.false, simp (c.event_bytes-least.ensures, c.data_bytes.ensures, c.shape_of-a.ensures) at (ne_eqb _ _ c.if-not-exact.true))

pub returns-then-not-room : goal.returns-then-not-room
unfolding event_fault_by non
returns-then-not-room c = simp (simp c.event_bytes-least.ensures at (le-ltb _ _ c.if-short.false), simp (c.event_fits-fits.ensures, c.byte-agent.ensures, c.shape_of-a.ensures) at c.if-not-fits.false, simp (c.event_bytes-least.ensures, c.data_bytes.ensures, c.shape_of-a.ensures) at (eq-eqb _ _ c.if-not-exact.false), simp (c.room_for-room.ensures, c.others.ensures, c.byte-agent.ensures) at c.if-not-room.true)

pub returns : goal.returns
unfolding event_fault_by non
returns c = simp (simp c.event_bytes-least.ensures at (le-ltb _ _ c.if-short.false), simp (c.event_fits-fits.ensures, c.byte-agent.ensures, c.shape_of-a.ensures) at c.if-not-fits.false, simp (c.event_bytes-least.ensures, c.data_bytes.ensures, c.shape_of-a.ensures) at (eq-eqb _ _ c.if-not-exact.false), simp (c.room_for-room.ensures, c.others.ensures, c.byte-agent.ensures) at c.if-not-room.false)

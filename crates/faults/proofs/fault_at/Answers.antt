-- `faults::fault_at` meets its contract, test by test. Assumes nothing.
use Rattle.basis.specs.Test.{non}
use Rattle.parse.specs.Parse.{fault_by}
use borrow.Author.Tests.{le-ltb, lt-ltb}
use Rattle.faults.proofs.fault_at.Goals as goal

pub returns-then-stub : goal.returns-then-stub
unfolding fault_by non
returns-then-stub c = simp (lt-ltb _ _ c.if-stub.true)

pub returns-then-not-here : goal.returns-then-not-here
unfolding fault_by non
returns-then-not-here c = simp ((le-ltb _ _ c.if-stub.false), simp (c.allowed-here.ensures, c.byte-tag.ensures) at c.if-not-here.true)

pub returns-then-over : goal.returns-then-over
unfolding fault_by non
returns-then-over c = simp ((le-ltb _ _ c.if-stub.false), simp (c.allowed-here.ensures, c.byte-tag.ensures) at c.if-not-here.false, simp c.length_at.ensures at (lt-ltb _ _ c.if-over.true))

pub returns : goal.returns
unfolding fault_by non
returns c = simp ((le-ltb _ _ c.if-stub.false), simp (c.allowed-here.ensures, c.byte-tag.ensures) at c.if-not-here.false, simp c.length_at.ensures at (le-ltb _ _ c.if-over.false), c.value_fault.ensures, c.value_at.ensures, c.byte-tag.ensures)

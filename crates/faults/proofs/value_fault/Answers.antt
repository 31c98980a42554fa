-- `faults::value_fault` meets its contract, tag by tag. Assumes nothing.
use borrow.Author.Tests.{ne_eqb}
use Rattle.parse.specs.Parse.{value_fault_by}
use Rattle.faults.proofs.value_fault.Goals as goal

pub returns-in-1 : goal.returns-in-1
unfolding value_fault_by
returns-in-1 c = simp (c.in-1.is, c.head_fault.ensures)

pub returns-in-2 : goal.returns-in-2
unfolding value_fault_by
returns-in-2 c = simp (c.in-2.is, c.event_fault.ensures)

pub returns-in-3 : goal.returns-in-3
unfolding value_fault_by
returns-in-3 c = simp (c.in-3.is, c.row_fault.ensures)

pub returns-in-4 : goal.returns-in-4
unfolding value_fault_by
returns-in-4 c = simp (c.in-4.is, c.pair_fault.ensures)

pub returns-in_default : goal.returns-in_default
unfolding value_fault_by
returns-in_default c = simp (ne_eqb _ _ c.in_default.in_default-own.rest.0.0.0.1, ne_eqb _ _ c.in_default.in_default-own.rest.0.0.1, ne_eqb _ _ c.in_default.in_default-own.rest.0.1, ne_eqb _ _ c.in_default.in_default-own.rest.1)

-- `faults::allowed` meets its contract, tag by tag. Assumes nothing.
use borrow.Author.Tests.{ne_eqb}
use Rattle.parse.specs.Parse.{allowed}
use Rattle.faults.proofs.allowed.Goals as goal

pub returns-in-1 : goal.returns-in-1
unfolding allowed
returns-in-1 c = simp c.in-1.is

pub returns-in-2 : goal.returns-in-2
unfolding allowed
returns-in-2 c = simp (c.in-2.is, c.within.ensures)

pub returns-in-3 : goal.returns-in-3
unfolding allowed
returns-in-3 c = simp (c.in-3.is, c.within-in-3.ensures)

pub returns-in-4 : goal.returns-in-4
unfolding allowed
returns-in-4 c = simp (c.in-4.is, c.within-in-4.ensures)

pub returns-in_default : goal.returns-in_default
unfolding allowed
returns-in_default c = simp (ne_eqb _ _ c.in_default.in_default-own.rest.0.0.0.1, ne_eqb _ _ c.in_default.in_default-own.rest.0.0.1, ne_eqb _ _ c.in_default.in_default-own.rest.0.1, ne_eqb _ _ c.in_default.in_default-own.rest.1)

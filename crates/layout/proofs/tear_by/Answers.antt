-- `layout::tear_by` meets its contract, edition by edition. Assumes nothing.
use borrow.Author.Tests.{ne_eqb}
use Rattle.format.specs.Layout.{tear_by}
use Rattle.layout.proofs.tear_by.Goals as goal

pub returns-in-2 : goal.returns-in-2
unfolding tear_by
returns-in-2 c = simp c.in-2.is

pub returns-in_default : goal.returns-in_default
unfolding tear_by
returns-in_default c = simp (ne_eqb _ _ c.in_default.in_default-own.rest.1, c.tear_of.ensures)

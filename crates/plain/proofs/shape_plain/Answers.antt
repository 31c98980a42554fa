-- `plain::shape_plain` meets its contract, edition by edition. Assumes nothing.
use borrow.Author.Tests.{ne_eqb}
use Rattle.format.specs.Layout.{tear_by}
use Rattle.plain.proofs.shape_plain.Goals as goal

pub tear_plain-requires : goal.tear_plain-requires
tear_plain-requires c = rw c.shape_here-a.ensures c.requires.1

pub returns-in-2 : goal.returns-in-2
returns-in-2 c = simp (c.in-2.is, c.shape_here-a.ensures)

pub returns-in_default : goal.returns-in_default
unfolding tear_by
returns-in_default c = simp (ne_eqb _ _ c.in_default.in_default-own.rest.1, c.tear_plain.ensures, c.shape_here-a.ensures)

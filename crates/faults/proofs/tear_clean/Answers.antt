-- `faults::tear_clean` meets its contract, edition by edition. Assumes nothing.
use borrow.Author.Tests.{ne_eqb}
use Rattle.faults.specs.Faults.{tear_test}
use Rattle.faults.proofs.tear_clean.Goals as goal

pub returns-in-2 : goal.returns-in-2
unfolding tear_test
returns-in-2 c = simp (c.in-2.is, c.tear_fits.ensures, c.shape_at.ensures)

pub returns-in_default : goal.returns-in_default
unfolding tear_test
returns-in_default c = simp (ne_eqb _ _ c.in_default.in_default-own.rest.1)

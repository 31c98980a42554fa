-- `faults::row_fault` meets its contract, test by test. Assumes nothing.
use Rattle.basis.specs.Test.{non}
use Rattle.parse.specs.Parse.{row_fault}
use borrow.Author.Tests.{eq-eqb, ne_eqb}
use Rattle.faults.proofs.row_fault.Goals as goal

pub returns-then-not-long : goal.returns-then-not-long
unfolding row_fault non
returns-then-not-long c = simp (simp c.row_bytes.ensures at (ne_eqb _ _ c.if-not-long.true))

pub returns-then-not-fits : goal.returns-then-not-fits
unfolding row_fault non
returns-then-not-fits c = simp (simp c.row_bytes.ensures at (eq-eqb _ _ c.if-not-long.false), simp (c.row_fits-fits.ensures, c.row_of.ensures) at c.if-not-fits.true)

pub returns : goal.returns
unfolding row_fault non
returns c = simp (simp c.row_bytes.ensures at (eq-eqb _ _ c.if-not-long.false), simp (c.row_fits-fits.ensures, c.row_of.ensures) at c.if-not-fits.false)

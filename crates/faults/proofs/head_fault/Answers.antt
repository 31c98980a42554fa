-- `faults::head_fault` meets its contract, test by test. Assumes nothing.
use Rattle.basis.specs.Test.{non}
use Rattle.parse.specs.Parse.{head_fault}
use borrow.Author.Tests.{eq-eqb, ne_eqb}
use Rattle.faults.proofs.head_fault.Goals as goal

pub returns-then-not-long : goal.returns-then-not-long
unfolding head_fault non
returns-then-not-long c = simp (simp (c.head_bytes.ensures, c.byte-edition.ensures) at (ne_eqb _ _ c.if-not-long.true))

pub returns-then-not-fits : goal.returns-then-not-fits
unfolding head_fault non
returns-then-not-fits c = simp (simp (c.head_bytes.ensures, c.byte-edition.ensures) at (eq-eqb _ _ c.if-not-long.false), simp (c.head_fits-fits.ensures, c.head_of.ensures, c.byte-edition.ensures) at c.if-not-fits.true)

pub returns : goal.returns
unfolding head_fault non
returns c = simp (simp (c.head_bytes.ensures, c.byte-edition.ensures) at (eq-eqb _ _ c.if-not-long.false), simp (c.head_fits-fits.ensures, c.head_of.ensures, c.byte-edition.ensures) at c.if-not-fits.false)

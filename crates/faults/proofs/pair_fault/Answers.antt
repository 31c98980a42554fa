-- `faults::pair_fault` meets its contract, test by test. Assumes nothing.
use Rattle.basis.specs.Test.{non}
use Rattle.parse.specs.Parse.{pair_fault}
use Rattle.entries.proofs.EntriesLaws.{pairs_count}
use borrow.Author.Tests.{eq-eqb, le-ltb, lt-ltb, ne_eqb}
use Rattle.faults.proofs.pair_fault.Goals as goal

pub returns-then-not-long : goal.returns-then-not-long
unfolding pair_fault non
returns-then-not-long c = simp (ne_eqb _ _ c.if-not-long.true)

pub returns-then-not-fits : goal.returns-then-not-fits
unfolding pair_fault non
returns-then-not-fits c = simp ((eq-eqb _ _ c.if-not-long.false), simp (c.pair_fits-fits.ensures, c.pair_of.ensures) at c.if-not-fits.true)

pub returns-then-not-room : goal.returns-then-not-room
unfolding pair_fault non
returns-then-not-room c = simp ((eq-eqb _ _ c.if-not-long.false), simp (c.pair_fits-fits.ensures, c.pair_of.ensures) at c.if-not-fits.false, pairs_count, (le-ltb _ _ c.if-not-room.true))

pub returns : goal.returns
unfolding pair_fault non
returns c = simp ((eq-eqb _ _ c.if-not-long.false), simp (c.pair_fits-fits.ensures, c.pair_of.ensures) at c.if-not-fits.false, pairs_count, (lt-ltb _ _ c.if-not-room.false))

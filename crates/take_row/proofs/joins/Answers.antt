-- `take_row::joins` meets its contract, test by test. Assumes nothing.
use mathlib.Core.Path.{refl}
use Rattle.basis.specs.Test.{◌and◌, non}
use Rattle.take_row.specs.Taken.{join_test}
use Rattle.take_row.proofs.joins.Goals as goal

pub returns : goal.returns
unfolding join_test ◌and◌ non
returns c = rw (c.covers.ensures, c.reads.ensures, c.covers-2.ensures, c.writes.ensures) refl

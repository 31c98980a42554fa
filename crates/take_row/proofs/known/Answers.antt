-- `take_row::known` meets its contract, test by test. Assumes nothing.
use mathlib.Core.Path.{refl}
use Rattle.basis.specs.Test.{◌and◌}
use Rattle.take_row.specs.Taken.{known_test}
use Rattle.take_row.proofs.known.Goals as goal

pub returns : goal.returns
unfolding known_test ◌and◌
returns c = rw (c.byte.ensures, c.length_at.ensures, c.row_bytes.ensures) refl

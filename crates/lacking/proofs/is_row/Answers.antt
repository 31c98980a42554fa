-- `lacking::is_row` meets its contract by computation. Assumes nothing.
use mathlib.Core.Path.{refl}
use Rattle.basis.specs.Test.{◌and◌}
use Rattle.parse.specs.Parse.{is_row}
use Rattle.lacking.proofs.is_row.Goals as goal

pub returns : goal.returns
unfolding is_row ◌and◌
returns c = refl

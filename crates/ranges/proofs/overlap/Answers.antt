-- `ranges::overlap` meets its contract by computation. Assumes nothing.
use mathlib.Core.Path.{refl}
use Rattle.basis.specs.Test.{◌and◌}
use Rattle.format.specs.Shape.{overlap}
use Rattle.ranges.proofs.overlap.Goals as goal

pub returns : goal.returns
unfolding overlap ◌and◌
returns c = refl

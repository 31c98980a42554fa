-- `ranges::covers` meets its contract by computation. Assumes nothing.
use mathlib.Core.Path.{refl}
use Rattle.basis.specs.Test.{◌and◌}
use Rattle.format.specs.Shape.{covers}
use Rattle.ranges.proofs.covers.Goals as goal

pub returns : goal.returns
unfolding covers ◌and◌
returns c = refl

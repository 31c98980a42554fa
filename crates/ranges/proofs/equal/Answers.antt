-- `ranges::equal` meets its contract by computation. Assumes nothing.
use mathlib.Core.Path.{refl}
use Rattle.basis.specs.Test.{◌and◌}
use Rattle.format.specs.Shape.{equal}
use Rattle.ranges.proofs.equal.Goals as goal

pub returns : goal.returns
unfolding equal ◌and◌
returns c = refl

-- `access::writes` meets its contract by computation. Assumes nothing.
use mathlib.Core.Path.{refl}
use Rattle.basis.specs.Test.{◌or◌}
use Rattle.format.specs.Shape.{writes}
use Rattle.access.proofs.writes.Goals as goal

pub returns : goal.returns
unfolding writes ◌or◌
returns c = refl

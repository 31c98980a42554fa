-- `access::reads` meets its contract by computation. Assumes nothing.
use mathlib.Core.Path.{refl}
use Rattle.basis.specs.Test.{◌or◌}
use Rattle.format.specs.Shape.{reads}
use Rattle.access.proofs.reads.Goals as goal

pub returns : goal.returns
unfolding reads ◌or◌
returns c = refl

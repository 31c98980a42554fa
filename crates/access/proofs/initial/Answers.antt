-- `access::initial` meets its contract by computation. Assumes nothing.
use mathlib.Core.Path.{refl}
use Rattle.format.specs.Shape.{initial}
use Rattle.access.proofs.initial.Goals as goal

pub returns : goal.returns
unfolding initial
returns c = refl

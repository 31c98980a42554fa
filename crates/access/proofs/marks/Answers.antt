-- `access::marks` meets its contract by computation. Assumes nothing.
use mathlib.Core.Path.{refl}
use Rattle.format.specs.Shape.{marks}
use Rattle.access.proofs.marks.Goals as goal

pub returns : goal.returns
unfolding marks
returns c = refl

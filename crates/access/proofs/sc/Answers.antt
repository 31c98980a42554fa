-- `access::sc` meets its contract by computation. Assumes nothing.
use mathlib.Core.Path.{refl}
use Rattle.format.specs.Shape.{sc}
use Rattle.access.proofs.sc.Goals as goal

pub returns : goal.returns
unfolding sc
returns c = refl

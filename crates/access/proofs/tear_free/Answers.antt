-- `access::tear_free` meets its contract by computation. Assumes nothing.
use mathlib.Core.Path.{refl}
use Rattle.format.specs.Shape.{tear_free}
use Rattle.access.proofs.tear_free.Goals as goal

pub returns : goal.returns
unfolding tear_free
returns c = refl

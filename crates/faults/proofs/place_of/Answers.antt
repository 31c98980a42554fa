-- `faults::place_of` meets its contract by computation. Assumes nothing.
use mathlib.Core.Path.{refl}
use Rattle.parse.specs.Parse.{place_of}
use Rattle.faults.proofs.place_of.Goals as goal

pub returns : goal.returns
unfolding place_of
returns c = refl

-- The words of specs/Examples.antt, computed. Assumes nothing.
use mathlib.Core.Path.{refl}
use Rattle.answer.specs.Examples.{Right}

pub right : Right
right = refl

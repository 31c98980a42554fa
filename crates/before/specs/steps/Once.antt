-- That no event has a second access is a fact with one proof at most, so that it may be a ghost field. Assumes nothing.
use Rattle.std.specs.Prelude.{List, ℕ}
use denote.Struct.Props as logic
use Rattle.own.specs.Lone.{Lone}

pub lone_prop : (t : List ℕ) (n : ℕ) → IsProp (Lone t n)
unfolding Lone
lone_prop t n = Prim.hlevel logic.props

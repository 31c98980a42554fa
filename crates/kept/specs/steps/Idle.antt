-- Bars that cannot matter, by what has to come before what: what the code looks at before it searches. Laws: proofs/IdleLaws.antt. Assumes nothing.
--     Idle k before i     of the bar i: R has to come before V, or V before W, which is no init
--     is_idle k before i   the test of it
use Rattle.std.specs.Prelude.{ℕ, ◌≤◌, Bool, ◌&&◌, ◌||◌, ◌⊎◌, List, leb, get_or}
use Rattle.sets.specs.Mask.{mem, Has}
use Rattle.kept.specs.steps.Numbers.{reader_of, writer_of, between_of}

abbrev pub Idle : ℕ → List ℕ → ℕ → Type 0
Idle k before i = Has (get_or before (between_of i) 0) (reader_of i) ⊎ ((k ≤ writer_of i) × Has (get_or before (writer_of i) 0) (between_of i))

unfoldable pub is_idle : ℕ → List ℕ → ℕ → Bool
is_idle k before i = mem (get_or before (between_of i) 0) (reader_of i) || (leb k (writer_of i) && mem (get_or before (writer_of i) 0) (between_of i))

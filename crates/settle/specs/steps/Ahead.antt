-- An open pair (`open_in`, specs/Settle.antt) in two halves, as a loop over a mask asks them. Laws: proofs/SettleLaws.antt.
--     Except s row r         r has those of s that the row does not have
--     ahead_in row e d        d is above e, and not in the row of e            free_in t succ e d     e is not in the row of d, and they clash
-- Assumes nothing.
use Rattle.std.specs.Prelude.{◌≡◌, ℕ, Bool, List, nat_lt, slice_index}
use Rattle.basis.specs.Test.{◌and◌, non}
use Rattle.sets.specs.Mask.{mem}
use Rattle.settle.specs.Settle.{clash_in}

abbrev pub Except : ℕ → ℕ → ℕ → Type 0
Except s row r = (d : ℕ) → mem r d ≡ (mem s d and non (mem row d))

unfoldable pub ahead_in : ℕ → ℕ → ℕ → Bool
ahead_in row e d = nat_lt e d and non (mem row d)

unfoldable pub free_in : List ℕ → List ℕ → ℕ → ℕ → Bool
free_in t succ e d = non (mem (slice_index succ d) e) and clash_in t e d

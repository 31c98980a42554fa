-- An entry more of a list (specs/Listed.antt). No public contract cites this file. Laws: proofs/ListedLaws.antt. Assumes nothing.
--     Entering n b r again z ..     the row r with the set b at n, where there is room, and z entries then
use Rattle.std.specs.Prelude.{◌≡◌, Bool, cond, List, ℕ, ◌+◌, ◌<◌, eqb, set}
use Rattle.basis.specs.Test.{◌and◌, non}
use Rattle.format.specs.declared.Row.{Row}
use Rattle.bars.specs.Listed.{list_room}

pub record Entering (n b : ℕ) (r : Row) (again : Bool) (z : ℕ) (between readers writers between' readers' writers' : List ℕ) : Type 0 where
  pub room : n < list_room → (z ≡ n + cond (non (eqb b 0) and non again) 1 0) × (between' ≡ set between n b) × (readers' ≡ set readers n r.reader) × (writers' ≡ set writers n r.writer)
  pub full : (n < list_room → ⊥) → (z ≡ n) × (between' ≡ between) × (readers' ≡ readers) × (writers' ≡ writers)

-- Second accesses. Laws: proofs/SecondsLaws.antt.
--     NoSecond f t k     no second access in the first k slots passes the test f
-- Assumes nothing.
use Rattle.std.specs.Prelude.{◌≡◌, Bool, false, List, ℕ, ◌%◌, ◌<◌}
use Rattle.format.specs.declared.Shape.{Shape}
use Rattle.tables.specs.Tables.{shape_in}

unfoldable pub NoSecond : (Shape → Bool) → List ℕ → ℕ → Type 0
NoSecond f t k = (i : ℕ) → i < k → i % 2 ≡ 1 → f (shape_in t i) ≡ false

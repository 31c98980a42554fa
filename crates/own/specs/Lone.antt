-- Events with one access each. Laws: proofs/LoneLaws.antt.
--     Lone t n     no event below n has a second access
-- Assumes nothing.
use Rattle.std.specs.Prelude.{◌≡◌, List, ℕ, ◌+◌, ◌*◌, ◌<◌}
use Rattle.tables.specs.Tables.{shape_in}

unfoldable pub Lone : List ℕ → ℕ → Type 0
Lone t n = (e : ℕ) → e < n → (shape_in t (2 * e + 1)).width ≡ 0

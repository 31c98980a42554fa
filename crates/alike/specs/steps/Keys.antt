-- A number for the range of each sc access, so that two ranges are compared at once: what `key` and the private steps of crate alike promise. Laws: proofs/KeysLaws.antt.
--     key_of a            equal ranges of sc accesses have equal numbers, others have not; 0 for an access that is not sc
--     Keyed a r          r is it, and the width is a byte's
--     Narrow t m         the widths in the first m slots are a byte's
--     KeysIn t m ..      the keys of the first m slots
-- Assumes nothing.
use Rattle.std.specs.Prelude.{◌≡◌, cond, List, ℕ, ◌+◌, ◌*◌, ◌<◌}
use Rattle.format.specs.declared.Shape.{Shape}
use Rattle.format.specs.Shape.{sc}
use Rattle.cells.specs.Cells.{placing}
use Rattle.tables.specs.Tables.{shape_in}

unfoldable pub key_of : Shape → ℕ
key_of a = cond (sc a) (a.start * 256 + a.width + 1) 0

pub record Keyed (a : Shape) (r : ℕ) : Type 0 where
  pub is : r ≡ key_of a
  pub byte : a.width < 256

abbrev pub key_in : List ℕ → ℕ → ℕ
key_in t k = key_of (shape_in t k)

pub record KeysIn (t : List ℕ) (m : ℕ) (entry exit : List ℕ) : Type 0 where
  pub is : exit ≡ placing (key_in t) m entry
  pub narrow : (k : ℕ) → k < m → (shape_in t k).width < 256

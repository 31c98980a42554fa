-- Rows by first accesses. Beside private steps, `covered` cites this file. Laws: proofs/CoveredLaws.antt. Assumes nothing.
--     covered_in t r     the first accesses of both events of the row r cover its byte
use Rattle.std.specs.Prelude.{Bool, List, ℕ, ◌*◌, ◌%◌}
use Rattle.basis.specs.Test.{◌and◌}
use Rattle.format.specs.declared.Row.{Row}
use Rattle.format.specs.Shape.{covers}
use Rattle.sets.specs.Mask.{slots}
use Rattle.tables.specs.Tables.{shape_in}

unfoldable pub covered_in : List ℕ → Row → Bool
covered_in t r = covers (shape_in t (2 * (r.reader % slots))) r.address and covers (shape_in t (2 * (r.writer % slots))) r.address

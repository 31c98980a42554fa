-- `row_data::access` meets its contract, byte by byte. Assumes nothing.
use Rattle.tables.specs.Tables.{shape_in}
use Rattle.row_data.proofs.access.Goals as goal

pub returns : goal.returns
unfolding shape_in
returns c = simp (c.byte.ensures, c.byte-2.ensures, c.byte-3.ensures, c.byte-4.ensures, c.byte-5.ensures)

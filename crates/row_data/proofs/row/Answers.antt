-- `row_data::row` meets its contract, call by call. Assumes nothing.
use Rattle.row_data.specs.RowData.{row_put}
use Rattle.row_data.proofs.row.Goals as goal

pub returns : goal.returns
unfolding row_put
returns c = simp (c.put_row.ensures, c.byte-wrote.ensures, c.byte-seen.ensures, c.passed.ensures, c.data_at-behind.ensures, c.data_at-from.ensures, c.place_of-2.ensures, c.place_of.ensures, c.access-write.ensures, c.access-read.ensures, c.row_no-r.ensures)

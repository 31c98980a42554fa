-- `compose::compose` meets its contract: the four parts of a sheet, one after another. Assumes nothing.
use native.Mathlib.Omega.{arith}
use lib.ListN.{length}
use Rattle.compose.proofs.ComposeLaws.{head_here, row_parts, puts_sheet}
use Rattle.compose.proofs.compose.Goals as goal

pub nonzero_div-rows : goal.nonzero_div-rows
nonzero_div-rows c = let w = (row_parts c.byte-edition.result c.row_bytes-row.result 0 c.row_bytes-row.ensures).0 in omega arith

pub put_entries-c-requires : goal.put_entries-c-requires
put_entries-c-requires c = (row_parts c.byte-edition.result c.row_bytes-row.result (length c.args.rows.now) c.row_bytes-row.ensures).1

pub returns : goal.returns
returns c = let a = c.args in puts_sheet a.head.now a.events.now a.bytes.now a.rows.now a.pairs.now _ c.byte-edition.result c.row_bytes-row.result c.byte-edition.ensures c.row_bytes-row.ensures (head_here a.head.now c.byte-edition.ensures c.byte.ensures c.byte-2.ensures) c.put_field-a.ensures c.put_events-b.ensures c.put_entries-c.ensures c.put_entries.ensures

-- `slices::put_rows` meets its contract. The invariant: the first j rows are put. Assumes nothing.
use Rattle.entries.specs.Entries.{rows_on}
use Rattle.encode.specs.Encode.{row_value}
use Rattle.encode.specs.Lend.{flat}
use Rattle.puts.specs.Put.{Puts}
use Rattle.slices.proofs.put_rows.Given as goal

abbrev pub invariant-loop-j : goal.invariant-loop-j
invariant-loop-j l = Puts (flat (row_value l.x.head.edition) (rows_on l.s l.x.head.edition l.x.rows_at l.j)) 0 l.next l.initial.out l.out

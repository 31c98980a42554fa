-- `slices::put_rows` meets its contract. The invariant: the first j rows are put. Assumes nothing.
use Rattle.std.proofs.Common.{◌≡◌, arith}
use Rattle.puts.proofs.PutLaws.{puts_none, puts_then}
use Rattle.slices.proofs.SlicedLaws.{rows_none, rows_more}
use Rattle.slices.proofs.put_rows.Goals as goal

pub loop-j-init : goal.loop-j-init
loop-j-init c = rw (← (rows_none c.args.s.now c.args.x.head.edition c.args.x.rows_at)) (puts_none 0 c.args.out.now)

pub loop-j-preserved : goal.loop-j-preserved
loop-j-preserved c = rw (rows_more c.args.s.now c.args.x.head.edition c.args.x.rows_at c.loop-j.j) (puts_then c.loop-j.invariant (simp c.row_no-r.ensures at c.put_bytes-next.ensures))

pub returns : goal.returns
returns c = let e : c.loop-j.j ≡ c.args.x.rows = omega arith in rw e at c.loop-j.invariant

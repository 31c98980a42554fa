-- `line_head::put_refused` meets its contract: the pieces are put one after the other. Assumes nothing.
use native.Mathlib.Omega.{arith}
use lib.ListN.{length-append}
use Rattle.puts.proofs.PutLaws.{puts_then}
use Rattle.line_head.proofs.put_refused.Goals as goal

pub returns : goal.returns
returns c = record { put = puts_then (puts_then (puts_then c.put_bytes-a.ensures c.put_number-b.ensures.put) c.put_bytes-c.ensures) c.put_number.ensures.put; near = simp length-append (omega (arith, c.put_number-b.ensures.near, c.put_number.ensures.near)) }

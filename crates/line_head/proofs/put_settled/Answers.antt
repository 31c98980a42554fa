-- `line_head::put_settled` meets its contract: in each arm the case is known, and the pieces are put one after the other. Assumes nothing.
use native.Mathlib.Omega.{arith}
use lib.ListN.{length-append}
use Rattle.puts.proofs.PutLaws.{puts_then}
use Rattle.line_head.proofs.put_settled.Goals as goal

pub returns-in-Orderly : goal.returns-in-Orderly
returns-in-Orderly c = rw c.in-Orderly.is (record { put = c.put_bytes.ensures; near = omega arith })

pub returns-in-Unsettled : goal.returns-in-Unsettled
returns-in-Unsettled c = rw c.in-Unsettled.is (record { put = puts_then (puts_then (puts_then c.put_bytes-a.ensures c.put_number-b.ensures.put) c.put_number-c.ensures.put) c.put_bytes-in-Unsettled.ensures; near = simp length-append (omega (arith, c.put_number-b.ensures.near, c.put_number-c.ensures.near)) })

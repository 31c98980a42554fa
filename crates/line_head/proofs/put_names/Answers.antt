-- `line_head::put_names` meets its contract: four names, each right after the one before. Assumes nothing.
use native.Mathlib.Omega.{arith}
use lib.ListN.{length-append}
use Rattle.puts.proofs.PutLaws.{puts_then}
use Rattle.line_head.proofs.put_names.Goals as goal

pub returns : goal.returns
returns c = record { put = puts_then (puts_then (puts_then c.put_name-a.ensures.put c.put_name-b.ensures.put) c.put_name-c.ensures.put) c.put_name.ensures.put; near = simp length-append (omega (arith, c.put_name-a.ensures.near, c.put_name-b.ensures.near, c.put_name-c.ensures.near, c.put_name.ensures.near)) }

-- `line_head::put_number` meets its contract: a number of 32 bits takes at most 11 bytes with its space. Assumes nothing.
use native.Mathlib.Omega.{arith}
use Rattle.puts.proofs.NumbersLaws.{numbered_length}
use Rattle.line_head.proofs.put_number.Goals as goal

pub returns : goal.returns
returns c = record { put = c.put_spaced.ensures; near = numbered_length c.args.n (omega arith) }

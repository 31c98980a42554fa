-- `line_head::put_name` meets its contract: in each arm the case of the name is known. Assumes nothing.
use native.Mathlib.Omega.{arith}
use Rattle.line_head.proofs.put_name.Goals as goal

pub returns-in-Some : goal.returns-in-Some
returns-in-Some c = rw c.in-Some.is c.put_number.ensures

pub returns-in-None : goal.returns-in-None
returns-in-None c = rw c.in-None.is (record { put = c.put_bytes.ensures; near = omega arith })

-- `puts::put_bytes` meets its contract. The invariant is the contract at the place reached. Assumes nothing.
use Rattle.std.proofs.Common.{take}
use Rattle.puts.specs.Put.{Puts}
use Rattle.puts.proofs.put_bytes.Given as goal

abbrev pub invariant-loop-b : goal.invariant-loop-b
invariant-loop-b l = Puts (take l.b-index l.bytes) l.at l.next l.initial.out l.out

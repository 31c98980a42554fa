-- `puts::put_events` meets its contract. The invariant is the contract at the place reached. Assumes nothing.
use Rattle.std.proofs.Common.{take}
use Rattle.puts.specs.Numbers.{events_text}
use Rattle.puts.specs.Put.{Puts}
use Rattle.puts.proofs.put_events.Given as goal

abbrev pub invariant-loop-e : goal.invariant-loop-e
invariant-loop-e l = Puts (events_text (take l.e-index l.events)) l.at l.next l.initial.out l.out

-- `compose::put_events` meets its contract. The invariant is the contract at the place reached: the first i events are put, and the data of the next begins at `first`, or there is none left. Assumes nothing.
use mathlib.Core.Path.{◌≡◌}
use Prim.Native.Nat.{◌≤◌}
use lib.ListN.{length, drop}
use Rattle.basis.specs.Test.{each, from}
use Rattle.puts.specs.Put.{Puts}
use Rattle.encode.specs.Encode.{event_value, run}
use Rattle.encode.specs.Lent.{data_from, description_no}
use Rattle.compose.proofs.put_events.Given as goal

abbrev pub invariant-loop-i : goal.invariant-loop-i
invariant-loop-i l = (l.first ≤ length l.bytes) × (drop l.first l.bytes ≡ drop (data_from l.events l.i) l.bytes) × Puts (run 2 (event_value l.edition) (each (description_no l.events l.bytes) (from 0 l.i))) l.at l.next l.initial.out l.out

-- `slices::put_events` meets its contract. The invariant: what is lent of the events so far is put. Assumes nothing.
use Rattle.std.proofs.Common.{take}
use Rattle.encode.specs.Lend.{flat}
use Rattle.puts.specs.Put.{Puts}
use Rattle.slices.specs.Sliced.{eight_at}
use Rattle.slices.proofs.put_events.Given as goal

abbrev pub invariant-loop-p : goal.invariant-loop-p
invariant-loop-p l = Puts (flat (eight_at l.s l.edition) (take l.p-index (take l.n l.at))) 0 l.next l.initial.out l.out

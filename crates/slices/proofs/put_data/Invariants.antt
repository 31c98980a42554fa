-- `slices::put_data` meets its contract. The invariant: the data of the events so far is put. Assumes nothing.
use Rattle.std.proofs.Common.{take}
use Rattle.encode.specs.Lend.{flat}
use Rattle.puts.specs.Put.{Puts}
use Rattle.slices.specs.Sliced.{data_bytes_at}
use Rattle.slices.proofs.put_data.Given as goal

abbrev pub invariant-loop-p : goal.invariant-loop-p
invariant-loop-p l = Puts (flat (data_bytes_at l.s l.edition) (take l.p-index (take l.n l.at))) 0 l.next l.initial.out l.out

-- `slices::data_count` meets its contract. The invariant: the sum is that of the events so far. Assumes nothing.
use Rattle.std.proofs.Common.{◌≡◌, ◌*◌, ◌≤◌, take}
use Rattle.slices.specs.Sliced.{sum, size_at}
use Rattle.slices.proofs.data_count.Given as goal

abbrev pub invariant-loop-p : goal.invariant-loop-p
invariant-loop-p l = (l.sum ≡ sum (size_at l.s l.edition) (take l.p-index (take l.n l.at))) × (l.sum ≤ l.p-index * 510)

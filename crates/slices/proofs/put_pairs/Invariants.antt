-- `slices::put_pairs` meets its contract. The invariant: the first j pairs are put. Assumes nothing.
use Rattle.entries.specs.Entries.{pairs_on}
use Rattle.encode.specs.Encode.{pair_value}
use Rattle.encode.specs.Lend.{flat}
use Rattle.puts.specs.Put.{Puts}
use Rattle.slices.proofs.put_pairs.Given as goal

abbrev pub invariant-loop-j : goal.invariant-loop-j
invariant-loop-j l = Puts (flat pair_value (pairs_on l.s l.x.pairs_at l.j)) 0 l.next l.initial.out l.out

-- `alike::side` meets its contract: eq has gained the members that are no longer left. Assumes nothing.
use Rattle.std.proofs.Common.{◌%◌, min}
use Rattle.sets.specs.Mask.{slots}
use Rattle.cells.proofs.WalkLaws.{Stand}
use Rattle.alike.specs.Ranges.{writers_in, matched_in}
use Rattle.alike.proofs.side.Given as goal

abbrev pub invariant-loop-v : goal.invariant-loop-v
invariant-loop-v l = Stand (writers_in l.t (min l.n slots) (l.b % 2)) (matched_in l.t (min l.n slots) (l.b % 2)) l.initial.eq l.v-iterator.left l.eq

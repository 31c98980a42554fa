-- `gather::readers_of` meets its contract: c has the readers of the writers so far. Assumes nothing.
use Rattle.gather.specs.Writers.{Readers}
use Rattle.gather.proofs.readers_of.Given as goal

abbrev pub invariant-loop-readers : goal.invariant-loop-readers
invariant-loop-readers l = Readers l.readers-index l.bars l.v l.c

-- `gather::writers_of` meets its contract: c has the writers below w. Assumes nothing.
use Rattle.gather.specs.Writers.{Writers}
use Rattle.gather.proofs.writers_of.Given as goal

abbrev pub invariant-loop-w : goal.invariant-loop-w
invariant-loop-w l = Writers l.w l.bars l.v l.c

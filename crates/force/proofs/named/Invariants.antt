-- `force::named` meets its contract: c has the writers of the events so far. Assumes nothing.
use Rattle.force.proofs.ForcedLaws.{Gathering}
use Rattle.force.proofs.named.Given as goal

abbrev pub invariant-loop-w : goal.invariant-loop-w
invariant-loop-w l = Gathering l.writers l.w-index l.c

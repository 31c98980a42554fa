-- `placing::unbarred` meets its contract: what is left has the placed writers of which nothing is known yet. Assumes nothing.
use Rattle.placing.proofs.BarsLaws.{Left}
use Rattle.placing.proofs.unbarred.Given as goal

abbrev pub invariant-loop-w : goal.invariant-loop-w
invariant-loop-w l = Left l.bars l.writers l.s l.v l.w-iterator.left

-- `sift::alikes` meets its contract: the masks have gained the events that are no longer left. Assumes nothing.
use Rattle.sift.specs.steps.Alikes.{Gained}
use Rattle.sift.proofs.alikes.Given as goal

abbrev pub invariant-loop-v : goal.invariant-loop-v
invariant-loop-v l = Gained l.by l.sc l.v-iterator.left l.eq

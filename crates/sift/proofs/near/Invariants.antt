-- `sift::near` meets its contract: the masks have gained the events that are no longer left. Assumes nothing.
use Rattle.sift.specs.steps.Near.{Near}
use Rattle.sift.proofs.near.Given as goal

abbrev pub invariant-loop-v : goal.invariant-loop-v
invariant-loop-v l = Near l.t l.writers l.v-iterator.left l.initial.bytes l.bytes

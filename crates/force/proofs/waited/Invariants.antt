-- `force::waited` meets its contract: what is left is a part of the set. Assumes nothing.
use Rattle.sets.specs.Mask.{Within}
use Rattle.force.proofs.waited.Given as goal

abbrev pub invariant-loop-r : goal.invariant-loop-r
invariant-loop-r l = Within l.r-iterator.left l.m

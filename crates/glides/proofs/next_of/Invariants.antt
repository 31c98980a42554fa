-- `glides::next_of` meets its contract: each event below those that are left waits for something, or leads to a marked set. Assumes nothing.
use Prim.Native.Nat.{◌%◌}
use Rattle.sets.specs.Mask.{slots}
use Rattle.placing.specs.Placing.{is_seen}
use Rattle.glides.proofs.GlideLaws.{Unseen}
use Rattle.glides.proofs.next_of.Given as goal

abbrev pub invariant-loop-e : goal.invariant-loop-e
invariant-loop-e l = Unseen l.m l.before l.s l.left (is_seen (l.k % slots) l.table l.s) l.e-iterator.left

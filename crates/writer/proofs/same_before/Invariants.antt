-- `writer::same_before` meets its contract. The invariant: the fields before q are counted. The measure is what is left before p. Assumes nothing.
use Prim.Native.Nat.{◌-◌}
use Rattle.writer.proofs.CountedLaws.{Counted}
use Rattle.writer.proofs.same_before.Given as goal

abbrev pub invariant-loop-q : goal.invariant-loop-q
invariant-loop-q l = Counted l.s l.p l.i l.q

abbrev pub decreases-loop-q : goal.decreases-loop-q
decreases-loop-q l = l.p - l.q

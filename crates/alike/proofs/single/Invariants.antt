-- `alike::single` meets its contract: of the first k slots it is known. The measure is what is left. Assumes nothing.
use Prim.Native.Nat.{◌-◌, ◌≤◌}
use Rattle.format.specs.Shape.{sc}
use Rattle.tables.specs.Tables.{accesses}
use Rattle.tables.proofs.SecondsLaws.{Looked}
use Rattle.alike.proofs.single.Given as goal

abbrev pub invariant-loop-k : goal.invariant-loop-k
invariant-loop-k l = (l.k ≤ accesses) × Looked sc l.t l.k l.c

abbrev pub decreases-loop-k : goal.decreases-loop-k
decreases-loop-k l = accesses - l.k

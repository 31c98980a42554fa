-- `own::lone` meets its contract: of the first k slots it is known. The measure is what is left. Assumes nothing.
use Prim.Native.Nat.{◌-◌, ◌≤◌}
use Rattle.tables.specs.Tables.{accesses}
use Rattle.tables.proofs.SecondsLaws.{Looked}
use Rattle.own.proofs.LoneLaws.{there}
use Rattle.own.proofs.lone.Given as goal

abbrev pub invariant-loop-k : goal.invariant-loop-k
invariant-loop-k l = (l.k ≤ accesses) × Looked there l.t l.k l.c

abbrev pub decreases-loop-k : goal.decreases-loop-k
decreases-loop-k l = accesses - l.k

-- `alike::keys` meets its contract: the first k keys are placed. The measure is what is left. Assumes nothing.
use Prim.Native.Nat.{◌-◌, ◌≤◌}
use Rattle.tables.specs.Tables.{accesses}
use Rattle.alike.specs.steps.Keys.{KeysIn}
use Rattle.alike.proofs.keys.Given as goal

abbrev pub invariant-loop-k : goal.invariant-loop-k
invariant-loop-k l = (l.k ≤ l.m) × (l.m ≤ accesses) × KeysIn l.t l.k l.initial.keys l.keys

abbrev pub decreases-loop-k : goal.decreases-loop-k
decreases-loop-k l = l.m - l.k

-- `vectors::passed` is safe and ends: at most n reads of a byte. Rests on the reads of std.
use Prim.Native.Nat.{◌-◌}
use mathlib.Core.Path.{◌≡◌}
use lib.ListN.{length}
use Rattle.vectors.proofs.passed.Given as goal

abbrev pub invariant-loop : goal.invariant-loop
invariant-loop l = length l.next ≡ 1

abbrev pub decreases-loop : goal.decreases-loop
decreases-loop l = l.n - l.counter

-- `vectors::all` is safe and ends: at most a million sheets. Rests on the reads and writes of std.
use Prim.Native.Nat.{◌-◌, ◌≤◌, ◌<◌}
use mathlib.Core.Path.{◌≡◌}
use lib.ListN.{length}
use Rattle.format.specs.Limits.{max_bytes}
use Rattle.vectors.proofs.all.Given as goal

abbrev pub invariant-loop : goal.invariant-loop
invariant-loop l = (max_bytes < length l.space) × (length l.space ≡ length l.initial.space) × (l.counter ≤ 1000000)

abbrev pub decreases-loop : goal.decreases-loop
decreases-loop l = 1000000 - l.counter

-- `barred` meets its contract: what the first i entries stop. Assumes nothing.
use Prim.Native.Nat.{◌≤◌}
use Rattle.glides.specs.steps.Glide.{Barred}
use Rattle.glides.proofs.Entries.barred.Given as goal

abbrev pub invariant-loop-i : goal.invariant-loop-i
invariant-loop-i l = (l.i ≤ l.self.n) × Barred l.self.between.now l.self.readers.now l.self.writers.now l.i l.s l.c

-- `plain::rows` meets its contract. The invariant: the whole answer is the answer from this place on, behind an event or a row, and the table holds the rows so far. The
-- measure is what is left of the sheet. Assumes nothing.
use mathlib.Core.Path.{◌≡◌}
use Prim.Native.Nat.{◌-◌, ◌≤◌}
use lib.ListN.{length}
use Rattle.plain.specs.steps.Growing.{Rowing}
use Rattle.plain.proofs.rows.Given as goal

abbrev pub invariant-loop-p : goal.invariant-loop-p
invariant-loop-p l = Rowing l.s l.x l.at l.t l.k l.initial.n l.initial.p l.initial.q l.n l.last l.p l.q × (l.last ≡ 2 → (l.p ≡ l.initial.p) × (l.n ≡ l.initial.n)) × (2 ≤ l.last)

abbrev pub decreases-loop-p : goal.decreases-loop-p
decreases-loop-p l = length l.s - l.p

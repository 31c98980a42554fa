-- `plain::events` meets its contract. The invariant: the whole answer is the answer from this place on, behind a head or an event, and the table holds the events so far. The
-- measure is what is left of the sheet. Assumes nothing.
use mathlib.Core.Path.{◌≡◌}
use Prim.Native.Nat.{◌-◌}
use lib.ListN.{length}
use Rattle.plain.specs.steps.Growing.{Growing}
use Rattle.plain.proofs.events.Given as goal

abbrev pub invariant-loop-p : goal.invariant-loop-p
invariant-loop-p l = Growing l.s l.h l.inits l.initial.n l.initial.p l.initial.at l.initial.t l.inits l.n l.k l.last l.p l.at l.t × (l.last ≡ 1 → (l.initial.last ≡ 1) × (l.p ≡ l.initial.p) × (l.n ≡ l.initial.n) × (l.at ≡ l.initial.at))

abbrev pub decreases-loop-p : goal.decreases-loop-p
decreases-loop-p l = length l.s - l.p

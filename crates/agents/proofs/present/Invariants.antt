-- `agents::present` meets its contract. The invariant: noted are the agents of the first e events, whatever the edition. Assumes nothing.
use mathlib.Core.Path.{◌≡◌}
use Prim.Native.Nat.{ℕ}
use lib.ListN.{length}
use Rattle.entries.specs.Entries.{events_on}
use Rattle.agents.specs.steps.Present.{agent_numbers, Present}
use Rattle.agents.proofs.present.Given as goal

abbrev pub invariant-loop-e : goal.invariant-loop-e
invariant-loop-e l = (length l.seen ≡ agent_numbers) × ((ed : ℕ) → Present (events_on l.s ed l.e l.at) l.seen)

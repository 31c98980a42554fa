-- What is later and earlier in an agent's order (`later_of`, `earlier_of`, specs/Own.antt) by a mask for each agent. Laws: proofs/OwnLaws.antt.
--     agents_in t n l       the masks l, of which each agent's has gained its events below n
--     behind_in t by e      the events of e's agent behind e           ahead_in t by e     those ahead of it
--     later_by, earlier_by t by e     the same, and nothing for an init
-- Assumes nothing.
use Rattle.std.specs.Prelude.{cond, List, ℕ, ◌+◌, ◌-◌, ◌^◌, min, eqb, get_or}
use Rattle.std.specs.Int.Bits.{bit_and}
use Rattle.sets.specs.Mask.{slots, full}
use Rattle.cells.specs.Walk.{up_to}
use Rattle.cells.specs.Cells.{gaining}
use Rattle.tables.specs.Tables.{agent_in}

unfoldable pub agents_in : List ℕ → ℕ → List ℕ → List ℕ
agents_in t n l = up_to (λ (e : ℕ) (m : List ℕ). gaining m (agent_in t e) e) n l

unfoldable pub behind_in : List ℕ → List ℕ → ℕ → ℕ
behind_in t by e = bit_and (get_or by (agent_in t e) 0) (2 ^ slots - 1 - full (min (e + 1) slots))

unfoldable pub ahead_in : List ℕ → List ℕ → ℕ → ℕ
ahead_in t by e = bit_and (get_or by (agent_in t e) 0) (full (min e slots))

unfoldable pub later_by : List ℕ → List ℕ → ℕ → ℕ
later_by t by e = cond (eqb (agent_in t e) 0) 0 (behind_in t by e)

unfoldable pub earlier_by : List ℕ → List ℕ → ℕ → ℕ
earlier_by t by e = cond (eqb (agent_in t e) 0) 0 (ahead_in t by e)

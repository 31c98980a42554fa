-- What two events make by themselves, by masks of successors. Laws: proofs/OwnLaws.antt.
--     meets_in t e d             an access of e and one of d share a byte           met_in t e d      and d is another event
--     later_in t e d             d is a later event of e's agent
--     own_in t n e               an init's mask: what it meets; another event's: what is later
--     later_of, earlier_of t n e  an init's mask: nothing; another event's: what is later, what is earlier
-- Assumes nothing.
use Rattle.std.specs.Prelude.{Bool, cond, List, ℕ, eqb, ltb}
use Rattle.basis.specs.Test.{◌and◌, non}
use Rattle.format.specs.Shape.{overlap}
use Rattle.cells.specs.Walk.{picked}
use Rattle.tables.specs.Tables.{agent_in, across_in}

unfoldable pub meets_in : List ℕ → ℕ → ℕ → Bool
meets_in t e d = across_in overlap t e d

unfoldable pub met_in : List ℕ → ℕ → ℕ → Bool
met_in t e d = non (eqb e d) and meets_in t e d

unfoldable pub later_in : List ℕ → ℕ → ℕ → Bool
later_in t e d = eqb (agent_in t e) (agent_in t d) and ltb e d

unfoldable pub own_in : List ℕ → ℕ → ℕ → ℕ
own_in t n e = cond (eqb (agent_in t e) 0) (picked n (met_in t e)) (picked n (later_in t e))

unfoldable pub later_of : List ℕ → ℕ → ℕ → ℕ
later_of t n e = cond (eqb (agent_in t e) 0) 0 (picked n (later_in t e))

unfoldable pub earlier_of : List ℕ → ℕ → ℕ → ℕ
earlier_of t n e = cond (eqb (agent_in t e) 0) 0 (picked n (λ (d : ℕ). later_in t d e))

-- Unsettled pairs over the tables. Laws: proofs/SettleLaws.antt.
--     clashing a b           two accesses that happens-before has to settle       clash_in t e d     one of e and one of d are
--     open_in t succ e d      e and d, e below d, are an unsettled pair
--     partner_in t succ n e   the lowest d below n that is open with e; n where none is
--     settled_in t succ n     orderly, or the lowest pair
-- Assumes nothing.
use Rattle.std.specs.Prelude.{ℕ, Bool, cond, ltb, List, nat_lt, slice_index}
use Rattle.basis.specs.Test.{◌and◌, ◌or◌, non}
use Rattle.format.specs.declared.Shape.{Shape}
use Rattle.format.specs.Shape.{writes, overlap, both_sc}
use Rattle.sets.specs.Mask.{mem}
use Rattle.answer.specs.declared.Settled.{Settled}
use Rattle.answer.specs.declared.Settled.TheVariants.{Orderly, Unsettled}
use Rattle.cells.specs.First.{first_of}
use Rattle.tables.specs.Tables.{across_in}

unfoldable pub clashing : Shape → Shape → Bool
clashing a b = overlap a b and (writes a or writes b) and non (both_sc a b)

unfoldable pub clash_in : List ℕ → ℕ → ℕ → Bool
clash_in t e d = across_in clashing t e d

unfoldable pub open_in : List ℕ → List ℕ → ℕ → ℕ → Bool
open_in t succ e d = ltb e d and non (mem (slice_index succ e) d) and non (mem (slice_index succ d) e) and clash_in t e d

abbrev pub partner_in : List ℕ → List ℕ → ℕ → ℕ → ℕ
partner_in t succ n e = first_of (open_in t succ e) n

abbrev pub loose_in : List ℕ → List ℕ → ℕ → ℕ → Bool
loose_in t succ n e = nat_lt (partner_in t succ n e) n

unfoldable pub settled_in : List ℕ → List ℕ → ℕ → Settled
settled_in t succ n =
    cond (nat_lt (first_of (loose_in t succ n) n) n) (Unsettled (first_of (loose_in t succ n) n) (partner_in t succ n (first_of (loose_in t succ n) n))) Orderly

-- The rules 21 to 24 over the tables, and the first broken of 21 to 25. Laws: proofs/RulesLaws.antt.
--     unlike_in q j                  21: in row j the byte seen differs from the byte written
--     cyclic_in succ e               22: e happens before itself
--     turned_in q succ j             23: in row j, R happens before W
--     between_in t succ pred r v     24: the event v writes the row's byte between W and R
--     over_in t q succ pred j        24: row j has such an event
--     rule21_in .. rule24_in          each at the first row or event that breaks it
--     rest_in                        the first rule of 22 to 25 that is broken, and whom it names
--     rule_in                        the first of 21 to 25
-- Assumes nothing.
use Rattle.std.specs.Prelude.{Bool, List, ℕ, ◌%◌, eqb, ltb, get_or}
use Rattle.std.specs.Int.Bits.{bit_and}
use Rattle.basis.specs.Test.{◌and◌, non}
use Rattle.format.specs.declared.Row.{Row}
use Rattle.answer.specs.declared.Names.TheVariants.{Row as OfRow, Event as OfEvent, Between}
use Rattle.answer.specs.Rules.{Rule, breach, named, ◌also◌}
use Rattle.sets.specs.Mask.{slots, mem}
use Rattle.cells.specs.First.{first_of}
use Rattle.tables.specs.Tables.{writes_in, row_in, seen_in, wrote_in}
use Rattle.torn.specs.Torn.{rule25_in}

unfoldable pub unlike_in : List ℕ → ℕ → Bool
unlike_in q j = non (eqb (seen_in q j) (wrote_in q j))

unfoldable pub cyclic_in : List ℕ → ℕ → Bool
cyclic_in succ e = mem (get_or succ e 0) e

unfoldable pub turned_in : List ℕ → List ℕ → ℕ → Bool
turned_in q succ j = mem (get_or succ (row_in q j).reader 0) (row_in q j).writer

-- ---- 24

-- v writes the row's byte, W happens before v, and v before R
unfoldable pub between_in : List ℕ → List ℕ → List ℕ → Row → ℕ → Bool
between_in t succ pred r v = mem (bit_and (get_or succ (r.writer % slots) 0) (get_or pred (r.reader % slots) 0)) v and writes_in t v r.address

unfoldable pub over_in : List ℕ → List ℕ → List ℕ → List ℕ → ℕ → Bool
over_in t q succ pred j = ltb (first_of (between_in t succ pred (row_in q j)) slots) slots

-- ---- which is named

unfoldable pub rule21_in : List ℕ → ℕ → Rule
rule21_in q n = let j = first_of (unlike_in q) n in named j n (breach 21 (OfRow (row_in q j).reader (row_in q j).writer (row_in q j).address))

unfoldable pub rule22_in : List ℕ → ℕ → Rule
rule22_in succ n = let e = first_of (cyclic_in succ) n in named e n (breach 22 (OfEvent e))

unfoldable pub rule23_in : List ℕ → ℕ → List ℕ → Rule
rule23_in q n succ =
    let j = first_of (turned_in q succ) n in named j n (breach 23 (OfRow (row_in q j).reader (row_in q j).writer (row_in q j).address))

unfoldable pub rule24_in : List ℕ → List ℕ → ℕ → List ℕ → List ℕ → Rule
rule24_in t q n succ pred =
    let j = first_of (over_in t q succ pred) n in
    named j n (breach 24 (Between (row_in q j).reader (row_in q j).writer (first_of (between_in t succ pred (row_in q j)) slots) (row_in q j).address))

unfoldable pub rest_in : List ℕ → ℕ → List ℕ → List ℕ → List ℕ → ℕ → Rule
rest_in t n succ pred q rows =
    rule22_in succ n
    also rule23_in q rows succ
    also rule24_in t q rows succ pred
    also rule25_in t n q rows

unfoldable pub rule_in : List ℕ → ℕ → List ℕ → List ℕ → List ℕ → ℕ → Rule
rule_in t n succ pred q rows = rule21_in q rows also rest_in t n succ pred q rows

-- What the export returns that gives a sheet's table (02 §2, the other way; docs/DECISIONS.md, Exports).
--     TableWord       the word of an answer that `lend`'s contract allows, and the buffers as it leaves them
--     fronts_in w b    what a suite lends further: of each buffer as much as the word says, as the header's macros read it
-- Assumes nothing.
use Rattle.std.specs.Prelude.{◌≡◌, List, ℕ, ◌^◌, ◌/◌, ◌%◌}
use Rattle.answer.specs.Read.{number_in}
use Rattle.encode.specs.Lend.{Slices}
use Rattle.lend.specs.Lending.{Lent, Lending}
use Rattle.lend.specs.Word.{lent_word}
use Rattle.lend.specs.Demands.{fronts}

pub record TableWord (sheet : List ℕ) (entry : Slices) (r : ℕ) (exit : Slices) : Type 0 where
  pub answer : Lent
  pub lending : Lending sheet entry answer exit
  pub word : r ≡ lent_word answer

-- PLIMDRONG_TABLE_EVENTS, PLIMDRONG_TABLE_DATA, PLIMDRONG_TABLE_ROWS, PLIMDRONG_TABLE_PAIRS
abbrev pub fronts_in : ℕ → Slices → Slices
fronts_in w b = fronts b (number_in w) (w % 2 ^ 12) (w / 2 ^ 12 % 2 ^ 12) (w / 2 ^ 24 % 2 ^ 8)

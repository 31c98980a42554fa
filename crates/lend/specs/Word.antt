-- The 64-bit answer of `lend` (crates/answer/specs/Word.antt; docs/SHEET.md): kind 1 refused; 14 a table, with the number of its events, and 8 bits of
-- pairs, 12 of rows and 12 of data bytes, which the table of a sheet does not go beyond.
--     lent_word r     the word
-- Assumes nothing.
use Rattle.std.specs.Prelude.{ℕ, ◌+◌, ◌*◌, ◌^◌, Ok, Err}
use Rattle.answer.specs.Word.{word}
use Rattle.lend.specs.Lending.{Lent}

abbrev pub lent_word : Lent → ℕ
lent_word (Ok n) = word 14 n.events (n.pairs * 2 ^ 24 + n.rows * 2 ^ 12 + n.bytes)
lent_word (Err e) = word 1 e.number e.place

-- The 64-bit answer of the writer (EXPORTS: kind 1 refused with the place, here an index; kind 5 written with "the length of the sheet").
-- Law: proofs/Demands.antt (`fits_word`).
--     written_word w     the word of an answer
--     written_in w       the answer read back from its word, as the header's macros do it
-- Assumes nothing.
use Rattle.std.specs.Prelude.{cond, ℕ, eqb, Ok, Err}
use Rattle.answer.specs.Word.{word}
use Rattle.answer.specs.Read.{kind_in, number_in, place_in}
use Rattle.writer.specs.Written.{Written, unwritten}

abbrev pub written_word : Written → ℕ
written_word (Err e) = word 1 e.number e.index
written_word (Ok n) = word 5 0 n

unfoldable pub written_in : ℕ → Written
written_in w = cond (eqb (kind_in w) 1) (unwritten (number_in w) (place_in w)) (Ok (place_in w))

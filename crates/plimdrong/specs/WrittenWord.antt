-- What the exported writer returns (02 §2; docs/DECISIONS.md, Exports).
--     WrittenWord     the word of an answer that the writer's contract allows, and the buffer as it leaves it
-- Assumes nothing.
use Rattle.std.specs.Prelude.{◌≡◌, List, ℕ}
use Rattle.encode.specs.Encode.{encode}
use Rattle.encode.specs.Lend.{Slices, table_in}
use Rattle.writer.specs.Written.{Written, Wrote}
use Rattle.writer.specs.Word.{written_word}

pub record WrittenWord (lent : Slices) (entry : List ℕ) (r : ℕ) (exit : List ℕ) : Type 0 where
  pub answer : Written
  pub wrote : Wrote (encode (table_in lent)) entry answer exit
  pub word : r ≡ written_word answer

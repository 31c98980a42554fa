-- What the export returns (01, "What comes back": "For the suite's Rust harness the judge is exported under the C calling convention, on byte
-- slices, with a 64-bit answer").
--     JudgedWord     the word of an answer that the judge's contract allows, and the buffers as it leaves them
-- Assumes nothing.
use Rattle.std.specs.Prelude.{◌≡◌, List, ℕ}
use Rattle.answer.specs.declared.Answer.{Answer}
use Rattle.answer.specs.Word.{packed}
use Rattle.model.specs.Judged.{Judged}

pub record JudgedWord (sheet scratch order : List ℕ) (r : ℕ) (scratch' order' : List ℕ) : Type 0 where
  pub answer : Answer
  pub judged : Judged sheet scratch order answer scratch' order'
  pub word : r ≡ packed answer

-- What the exported explanation returns (02 §8; docs/DECISIONS.md, Exports).
--     WhyWord     the word of an explanation that is Explained, and both buffers as it leaves them
-- Assumes nothing.
use Rattle.std.specs.Prelude.{◌≡◌, List, ℕ}
use Rattle.why.specs.declared.Explanation.{Explanation}
use Rattle.why.specs.Explained.{Explained}
use Rattle.why.specs.Word.{why_word}

pub record WhyWord (sheet scratch bars : List ℕ) (r : ℕ) (scratch' bars' : List ℕ) : Type 0 where
  pub explanation : Explanation
  pub explained : Explained sheet scratch bars explanation scratch' bars'
  pub word : r ≡ why_word explanation

-- What the exported check of a list returns (02 §5; docs/DECISIONS.md, Exports).
--     CheckedWord     the word of a reply that the check's contract allows
-- Assumes nothing.
use Rattle.std.specs.Prelude.{◌≡◌, List, ℕ}
use Rattle.log_check.specs.declared.Reply.{Reply}
use Rattle.log_check.specs.Checked.{Checked}
use Rattle.log_check.specs.Word.{checked_word}

pub record CheckedWord (sheet list : List ℕ) (r : ℕ) : Type 0 where
  pub reply : Reply
  pub checked : Checked sheet list reply
  pub word : r ≡ checked_word reply

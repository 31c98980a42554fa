-- What two steps say together, as masks and one number.
--     rule_word r           the word of the answer that a broken rule is, with its number and its names; 0 where every rule is kept
--     StepsRuled t n ..    happens-before, and the word of the first rule that it breaks
--     StepsBarred t n ..   the bars, and the word of orderly or of the lowest unsettled pair
-- Assumes nothing.
use Rattle.std.specs.Prelude.{◌≡◌, List, ℕ, min}
use Rattle.sets.specs.Mask.{slots}
use Rattle.answer.specs.declared.Answer.TheVariants.{Broken, Consistent}
use Rattle.answer.specs.Word.{packed}
use Rattle.std.specs.Prelude.{Ok, Err}
use Rattle.answer.specs.Rules.{Rule}
use Rattle.tables.specs.Tables.{row_room, pair_room}
use Rattle.before.specs.Before.{ClosedSteps}
use Rattle.rules.specs.Rules.{rule_in}
use Rattle.bars.specs.Bars.{filled_in}
use Rattle.settle.specs.Settle.{settled_in}

abbrev pub rule_word : Rule → ℕ
rule_word (Ok u) = 0
rule_word (Err e) = packed (Broken e.number e.names)

pub record StepsRuled (t : List ℕ) (n : ℕ) (q : List ℕ) (m : ℕ) (p : List ℕ) (k : ℕ) (succ pred : List ℕ) (r : ℕ) (succ' pred' : List ℕ) : Type 0 where
  pub ordered : ClosedSteps t (min n slots) q (min m row_room) p (min k pair_room) succ succ' pred pred'
  pub word : r ≡ rule_word (rule_in t (min n slots) succ' pred' q (min m row_room))

pub record StepsBarred (t : List ℕ) (n : ℕ) (succ pred q : List ℕ) (m : ℕ) (bars : List ℕ) (r : ℕ) (bars' : List ℕ) : Type 0 where
  pub filled : bars' ≡ filled_in t (min n slots) succ pred q (min m row_room) bars
  pub word : r ≡ packed (Consistent (settled_in t succ (min n slots)))

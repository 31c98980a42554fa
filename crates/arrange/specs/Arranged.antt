-- What the last step answers, whatever the tables hold. Laws: proofs/ArrangedLaws.antt. What it means of an execution: crates/judge/proofs/ArrangeLaws.antt.
--     bars_of t n succ pred q m     the bars of the first m rows among the first n events
--     said_of found settled         26 where there is no order, else what was found of pairs
--     Arranged k n m ..            the search with these bars, what was found, and what is said of it
-- Assumes nothing.
use Rattle.std.specs.Prelude.{◌≡◌, Bool, cond, List, ℕ, ◌*◌, min, replicate}
use Rattle.sets.specs.Mask.{slots}
use Rattle.orders.specs.Answer.{Answered}
use Rattle.answer.specs.declared.Answer.{Answer}
use Rattle.answer.specs.declared.Answer.TheVariants.{Broken, Consistent}
use Rattle.answer.specs.declared.Names.TheVariants.{Nobody}
use Rattle.answer.specs.declared.Settled.{Settled}
use Rattle.tables.specs.Tables.{row_room}
use Rattle.bars.specs.Bars.{filled_in}
use Rattle.settle.specs.Settle.{settled_in}

abbrev pub bars_of : List ℕ → ℕ → List ℕ → List ℕ → List ℕ → ℕ → List ℕ
bars_of t n succ pred q m = filled_in t (min n slots) succ pred q (min m row_room) (replicate (slots * slots) 0)

-- 01: "26: no total order as below exists"
abbrev pub said_of : Bool → Settled → Answer
said_of found settled = cond found (Consistent settled) (Broken 26 Nobody)

pub record Arranged (k n m : ℕ) (t q succ pred scratch order : List ℕ) (r : Answer) (scratch' order' : List ℕ) : Type 0 where
  pub found : Bool
  pub searched : Answered k n pred (bars_of t n succ pred q m) scratch order found scratch' order'
  pub says : r ≡ said_of found (settled_in t succ (min n slots))

-- Promises of the line that no single function makes: what is printed of a sheet is its verdict, with the order that is reported (01, "What comes
-- back"). Proved in proofs/Demands.antt.
--     Enough scratch order out     buffers that are enough for every sheet, the order buffer full of `unused`
--     Line s l                     l is the line of the sheet s: no buffer is in sight
--     Printed                      the line of s stands in front of the line's buffer, its order in front of the order buffer; the rest is as it was
--     PrintsTheOrder               lent enough, `tell` writes the sheet's line, whole
--     OneLine                      a sheet has one line
-- Assumes nothing.
use Rattle.std.specs.Prelude.{◌≡◌, List, ◌++◌, ℕ, ◌≤◌, ◌<◌, length, take, drop, replicate}
use Rattle.format.specs.Limits.{max_events}
use Rattle.answer.specs.declared.Answer.{Answer}
use Rattle.report.specs.Line.{line_of}
use Rattle.model.specs.Verdict.{max_scratch, Verdict}
use Rattle.tell.specs.Limits.{max_line}
use Rattle.tell.specs.JudgedLine.{unused, JudgedLine}

pub record Enough (scratch order out : List ℕ) : Type 0 where
  pub scratch_holds : max_scratch ≤ length scratch
  pub order_holds : max_events ≤ length order
  pub order_unused : order ≡ replicate (length order) unused
  pub line_holds : max_line ≤ length out

-- 01: "writes one line": of the answer, and for a consistent execution of the order that is reported with it
pub record Line (s l : List ℕ) : Type 0 where
  pub answer : Answer
  pub order : List ℕ
  pub verdict : Verdict s answer order
  pub is : l ≡ line_of answer order

pub record Printed (s order out : List ℕ) (r : ℕ) (order' out' : List ℕ) : Type 0 where
  pub line : Line s (take r out')
  pub some : 0 < r
  pub within : r ≤ length out
  pub rest : drop r out' ≡ drop r out
  -- the events that the line tells are those in front of the order buffer
  pub front : order' ≡ line.order ++ drop (length line.order) order

abbrev pub PrintsTheOrder : Type 0
PrintsTheOrder = (s scratch order out : List ℕ) (r : ℕ) (scratch' order' out' : List ℕ) → Enough scratch order out → JudgedLine s scratch order out r scratch' order' out' → Printed s order out r order' out'

-- 01: "That any two conforming answers agree is itself proved"
abbrev pub OneLine : Type 0
OneLine = (s k l : List ℕ) → Line s k → Line s l → k ≡ l

-- A sheet judged and told as a line (01, "What comes back": "writes one line"). Laws: proofs/JudgedLineLaws.antt.
--     unused           the byte that a place of the order buffer holds before the call: no event has that number
--     placed order     the events of an order buffer that was lent full of it
--     JudgedLine       the line of an answer that the judge's contract allows, and all buffers as they are then
-- Assumes nothing.
use Rattle.std.specs.Prelude.{cond, List, [], ◌∷◌, ℕ, eqb}
use Rattle.answer.specs.declared.Answer.{Answer}
use Rattle.report.specs.Lined.{Lined}
use Rattle.model.specs.Judged.{Judged}

-- 01: "255 for none"
abbrev pub unused : ℕ
unused = 255

unfoldable pub placed : List ℕ → List ℕ
placed [] = []
placed (e ∷ l) = cond (eqb e unused) [] (e ∷ placed l)

pub record JudgedLine (sheet scratch order out : List ℕ) (r : ℕ) (scratch' order' out' : List ℕ) : Type 0 where
  pub answer : Answer
  pub judged : Judged sheet scratch order answer scratch' order'
  pub lined : Lined answer (placed order') out r out'

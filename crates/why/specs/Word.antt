-- The word of an explanation (EXPORTS: kinds 1, 2 and 3 as 01 has them, 8 with 26 and how many bars are written), and the explanation read back from it
-- as the header's macros do it. Laws: proofs/WordLaws.antt.
--     settled_word, why_word     the word
--     explanation_in w          the explanation
--     FitsWhy x                what the word can hold
-- Assumes nothing.
use Rattle.std.specs.Prelude.{cond, ℕ, ◌^◌, ◌<◌, eqb}
use Rattle.basis.specs.Test.{◌and◌}
use Rattle.answer.specs.declared.Settled.{Settled}
use Rattle.answer.specs.declared.Answer.{Answer}
use Rattle.answer.specs.declared.Answer.TheVariants.{Refused as AnswerRefused, Broken as AnswerBroken, Consistent as AnswerConsistent}
use Rattle.answer.specs.Word.{word, packed}
use Rattle.answer.specs.Fit.{Fits}
use Rattle.answer.specs.Read.{kind_in, number_in, place_in, answer_in}
use Rattle.why.specs.declared.Explanation.{Explanation}
use Rattle.why.specs.declared.Explanation.TheVariants.{Refused, Broken, Consistent, Kept, Small}

abbrev pub settled_word : Settled → ℕ
settled_word s = packed (AnswerConsistent s)

-- 02 §8: "Sheets not broken by 26 get the judge's own answer", "refused 16, place 0"; EXPORTS: "8 kept .. 26 .. how many bars are written"
abbrev pub why_word : Explanation → ℕ
why_word (Refused n p) = packed (AnswerRefused n p)
why_word (Broken n names) = packed (AnswerBroken n names)
why_word (Consistent s) = settled_word s
why_word (Kept n) = word 8 26 n
why_word Small = packed (AnswerRefused 16 0)

-- ---- read back

abbrev pub explained : Answer → Explanation
explained (AnswerRefused n p) = Refused n p
explained (AnswerBroken n names) = Broken n names
explained (AnswerConsistent s) = Consistent s

unfoldable pub explanation_in : ℕ → Explanation
explanation_in w = cond (eqb (kind_in w) 8) (Kept (place_in w)) (cond (eqb (kind_in w) 1 and eqb (number_in w) 16) Small (explained (answer_in w)))

-- ---- what fits

-- a refusal of the sheet itself, or of the scratch, is never 16
abbrev pub FitsWhy : Explanation → Type 0
FitsWhy (Refused n p) = Fits 255 (AnswerRefused n p) × (n < 16)
FitsWhy (Broken n names) = Fits 255 (AnswerBroken n names)
FitsWhy (Consistent s) = Fits 255 (AnswerConsistent s)
FitsWhy (Kept n) = n < 2 ^ 32
FitsWhy Small = Unit {0}

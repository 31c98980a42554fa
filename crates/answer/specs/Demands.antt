-- Promises of the answer's word that no single function makes. Proved in proofs/Demands.antt.
--     Bounded     the word of every answer of the code is below 2^43, so 64 bits hold it
--     Parts       kind, number and rest stand in the word's parts
--     ReadBack    what is read from a word is the answer that it was made of, where no name is 255: a name 255 would read as none
--     WordsApart  so such answers have different words
-- Assumes nothing.
use Rattle.std.specs.Prelude.{◌≡◌, ◌<◌, ◌^◌, ◌/◌, ◌%◌}
use Rattle.answer.specs.declared.Answer.{Answer}
use Rattle.answer.specs.Kind.{kind_of}
use Rattle.answer.specs.Number.{number_of}
use Rattle.answer.specs.Word.{rest_of, packed}
use Rattle.answer.specs.Fit.{Fits}
use Rattle.answer.specs.Read.{answer_in}

abbrev pub Bounded : Type 0
Bounded = (x : Answer) → Fits 256 x → packed x < 2 ^ 43

abbrev pub Parts : Type 0
Parts = (x : Answer) → Fits 256 x → (packed x / 2 ^ 40 ≡ kind_of x) × (packed x / 2 ^ 32 % 2 ^ 8 ≡ number_of x) × (packed x % 2 ^ 32 ≡ rest_of x)

abbrev pub ReadBack : Type 0
ReadBack = (x : Answer) → Fits 255 x → answer_in (packed x) ≡ x

abbrev pub WordsApart : Type 0
WordsApart = (x y : Answer) → Fits 255 x → Fits 255 y → packed x ≡ packed y → x ≡ y

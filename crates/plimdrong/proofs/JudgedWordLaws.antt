-- Two results that the export's contract allows for the same sheet and buffers are equal: the word and both buffers. Assumes nothing.
--     judged_word_unique
use mathlib.Core.Path.{◌≡◌, sym, ap, ◌∙◌}
use mathlib.Core.List.{List}
use Prim.Native.Nat.{ℕ}
use Rattle.answer.specs.Word.{packed}
use Rattle.model.proofs.JudgedLaws.{judged_unique}
use Rattle.plimdrong.specs.JudgedWord.{JudgedWord}

pub judged_word_unique : (s scratch order : List ℕ) (r q : ℕ) (a b c d : List ℕ) → JudgedWord s scratch order r a b → JudgedWord s scratch order q c d
    → (r ≡ q) × (a ≡ c) × (b ≡ d)
judged_word_unique s scratch order r q a b c d e f =
    let w = judged_unique s scratch order e.answer f.answer a b c d e.judged f.judged in
    (e.word ∙ ap packed w.0 ∙ sym f.word, w.1, w.2)

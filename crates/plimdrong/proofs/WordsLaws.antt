-- Two results that the writer's export, the table's, the check's or that of the explanation allows for the same slices and buffers are equal: the word and
-- every buffer.
-- Assumes nothing.
--     written_word_unique, table_word_unique, checked_word_unique, why_word_unique
use mathlib.Core.Path.{◌≡◌, sym, ap, ◌∙◌}
use mathlib.Core.List.{List}
use Prim.Native.Nat.{ℕ}
use Rattle.encode.specs.Encode.{encode}
use Rattle.encode.specs.Lend.{Slices, table_in}
use Rattle.writer.specs.Word.{written_word}
use Rattle.writer.proofs.Demands.{agree}
use Rattle.lend.specs.Word.{lent_word}
use Rattle.lend.proofs.Demands.{agree as lent-agree}
use Rattle.plimdrong.specs.WrittenWord.{WrittenWord}
use Rattle.log_check.specs.Word.{checked_word}
use Rattle.log_check.proofs.CheckedLaws.{checked_unique}
use Rattle.plimdrong.specs.TableWord.{TableWord}
use Rattle.plimdrong.specs.CheckedWord.{CheckedWord}
use Rattle.why.specs.Word.{why_word}
use Rattle.why.proofs.ExplainedLaws.{explained_unique}
use Rattle.plimdrong.specs.WhyWord.{WhyWord}

pub written_word_unique : (l : Slices) (out : List ℕ) (r q : ℕ) (f g : List ℕ) → WrittenWord l out r f → WrittenWord l out q g → (r ≡ q) × (f ≡ g)
written_word_unique l out r q f g a b =
    let w = agree (encode (table_in l)) out a.answer b.answer f g a.wrote b.wrote in (a.word ∙ ap written_word w.0 ∙ sym b.word, w.1)

pub table_word_unique : (s : List ℕ) (entry : Slices) (r q : ℕ) (f g : Slices) → TableWord s entry r f → TableWord s entry q g → (r ≡ q) × (f ≡ g)
table_word_unique s entry r q f g a b =
    let w = lent-agree s entry a.answer b.answer f g a.lending b.lending in (a.word ∙ ap lent_word w.0 ∙ sym b.word, w.1)

pub checked_word_unique : (s l : List ℕ) (r q : ℕ) → CheckedWord s l r → CheckedWord s l q → r ≡ q
checked_word_unique s l r q a b = a.word ∙ ap checked_word (checked_unique s l a.reply b.reply a.checked b.checked) ∙ sym b.word

pub why_word_unique : (s scratch bars : List ℕ) (r q : ℕ) (f g h k : List ℕ) → WhyWord s scratch bars r f g → WhyWord s scratch bars q h k → (r ≡ q) × (f ≡ h) × (g ≡ k)
why_word_unique s scratch bars r q f g h k a b =
    let w = explained_unique s scratch bars a.explanation b.explanation f g h k a.explained b.explained in (a.word ∙ ap why_word w.0 ∙ sym b.word, w.1, w.2)

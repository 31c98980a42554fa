-- The word of a reply (EXPORTS: kinds 1 and 2 as 01 has them, 6 accepted, 7 not accepted), and the reply read back from it as the header's macros do it.
-- Laws: proofs/WordLaws.antt.
--     fault_number, fault_rest, said_word, checked_word     the word
--     reply_in w                                         the reply
--     FitsReply x                                       what the word can hold
-- Assumes nothing.
use Rattle.log_order.specs.Listed.{Said}
use Rattle.std.specs.Prelude.{cond, ℕ, ◌^◌, ◌<◌, eqb}
use Rattle.answer.specs.declared.Answer.{Answer}
use Rattle.answer.specs.declared.Answer.TheVariants.{Refused as AnswerRefused, Broken as AnswerBroken, Consistent}
use Rattle.answer.specs.declared.Names.TheVariants.{Between}
use Rattle.answer.specs.NameOf.{names_of}
use Rattle.answer.specs.Word.{four_bytes, word, packed}
use Rattle.answer.specs.Fit.{Fits}
use Rattle.answer.specs.Read.{kind_in, number_in, place_in, byte_in, answer_in}
use Rattle.log_order.specs.declared.Fault.{Fault}
use Rattle.log_order.specs.declared.Fault.TheVariants.{WrongLength, BadNumber, TooEarly, Barred}
use Rattle.std.specs.Prelude.{Ok, Err}
use Rattle.log_check.specs.declared.Reply.{Reply}
use Rattle.log_check.specs.declared.Reply.TheVariants.{Refused, Broken, Listed}

-- EXPORTS: "1 wrong length", "2 a number out of range or repeated", "3 an event before one that happens before it", "4 barred"
abbrev pub fault_number : Fault → ℕ
fault_number (WrongLength n) = 1
fault_number (BadNumber i) = 2
fault_number (TooEarly i) = 3
fault_number (Barred r w v a) = 4

-- EXPORTS: "the list's length", "its index in the list", "the index of the event that stands too early", "R, W, V, A as four bytes, as rule 24 has them"
abbrev pub fault_rest : Fault → ℕ
fault_rest (WrongLength n) = n
fault_rest (BadNumber i) = i
fault_rest (TooEarly i) = i
fault_rest (Barred r w v a) = four_bytes (names_of (Between r w v a))

abbrev pub said_word : Said → ℕ
said_word (Ok u) = word 6 0 0
said_word (Err f) = word 7 (fault_number f) (fault_rest f)

abbrev pub checked_word : Reply → ℕ
checked_word (Refused n p) = packed (AnswerRefused n p)
checked_word (Broken n names) = packed (AnswerBroken n names)
checked_word (Listed s) = said_word s

-- ---- read back

unfoldable pub fault_in : ℕ → Fault
fault_in w =
    cond (eqb (number_in w) 1) (WrongLength (place_in w))
    (cond (eqb (number_in w) 2) (BadNumber (place_in w))
    (cond (eqb (number_in w) 3) (TooEarly (place_in w)) (Barred (byte_in w 0) (byte_in w 1) (byte_in w 2) (byte_in w 3))))

abbrev pub answered : Answer → Reply
answered (AnswerRefused n p) = Refused n p
answered (AnswerBroken n names) = Broken n names
answered (Consistent s) = Listed (Ok tt)

unfoldable pub reply_in : ℕ → Reply
reply_in w = cond (eqb (kind_in w) 7) (Listed (Err (fault_in w))) (cond (eqb (kind_in w) 6) (Listed (Ok tt)) (answered (answer_in w)))

-- ---- what fits

abbrev pub FitsFault : Fault → Type 0
FitsFault (WrongLength n) = n < 2 ^ 32
FitsFault (BadNumber i) = i < 2 ^ 32
FitsFault (TooEarly i) = i < 2 ^ 32
FitsFault (Barred r w v a) = (r < 256) × (w < 256) × (v < 256) × (a < 256)

abbrev pub FitsSaid : Said → Type 0
FitsSaid (Ok u) = Unit {0}
FitsSaid (Err f) = FitsFault f

abbrev pub FitsReply : Reply → Type 0
FitsReply (Refused n p) = Fits 255 (AnswerRefused n p)
FitsReply (Broken n names) = Fits 255 (AnswerBroken n names)
FitsReply (Listed s) = FitsSaid s

-- The laws of specs/Word.antt: what is read from a word is the reply that it was made of. Assumes nothing.
--     reply_in_lem     reply_in (checked_word x) ≡ x, for replies that fit
use mathlib.Core.Path.{◌≡◌, refl, ap}
use Prim.Native.Nat.{◌<◌, ◌^◌}
use native.Mathlib.Omega.{arith}
use Rattle.answer.specs.declared.Names.TheVariants.{Between}
use Rattle.answer.specs.declared.Answer.TheVariants.{Refused as AnswerRefused, Broken as AnswerBroken}
use Rattle.answer.specs.NameOf.{names_of}
use Rattle.answer.specs.Word.{four_bytes, word}
use Rattle.answer.proofs.WordLaws.{four_more, four_below}
use Rattle.answer.proofs.ReadLaws.{bytes_in, kind_in_lem, number_in_lem, place_in_lem, answer_in_lem}
use Rattle.log_order.specs.declared.Fault.{Fault}
use Rattle.log_order.specs.declared.Fault.TheVariants.{WrongLength, BadNumber, TooEarly, Barred}
use Rattle.std.specs.Prelude.{Ok, Err}
use Rattle.log_check.specs.declared.Reply.{Reply}
use Rattle.log_check.specs.declared.Reply.TheVariants.{Refused, Broken, Listed}
use Rattle.log_check.specs.Word.{fault_number, fault_rest, checked_word, fault_in, answered, reply_in, FitsFault, FitsReply}

number_small : (f : Fault) → fault_number f < 256
number_small (WrongLength n) = omega arith
number_small (BadNumber i) = omega arith
number_small (TooEarly i) = omega arith
number_small (Barred r w v a) = omega arith

rest_small : (f : Fault) → FitsFault f → fault_rest f < 2 ^ 32
rest_small (WrongLength n) h = h
rest_small (BadNumber i) h = h
rest_small (TooEarly i) h = h
rest_small (Barred r w v a) h = omega (arith, h.0, h.1, h.2, h.3)

fault_in_lem : (f : Fault) → FitsFault f → fault_in (word 7 (fault_number f) (fault_rest f)) ≡ f
unfolding fault_in
fault_in_lem (WrongLength n) h = rw (number_in_lem 7 1 n (omega arith) (omega arith) h, place_in_lem 7 1 n (omega arith) (omega arith) h) refl
fault_in_lem (BadNumber i) h = rw (number_in_lem 7 2 i (omega arith) (omega arith) h, place_in_lem 7 2 i (omega arith) (omega arith) h) refl
fault_in_lem (TooEarly i) h = rw (number_in_lem 7 3 i (omega arith) (omega arith) h, place_in_lem 7 3 i (omega arith) (omega arith) h) refl
fault_in_lem (Barred r w v a) h =
    let b = bytes_in 7 4 r w v a h.0 h.1 h.2 h.3 in
    rw (number_in_lem 7 4 (four_bytes (names_of (Between r w v a))) (omega arith) (omega arith) (rest_small (Barred r w v a) h), b.0, b.1, b.2, b.3) refl

pub reply_in_lem : (x : Reply) → FitsReply x → reply_in (checked_word x) ≡ x
unfolding reply_in
reply_in_lem (Refused n p) h = rw (kind_in_lem 1 n p (omega arith) h.0 h.1) (ap answered (answer_in_lem (AnswerRefused n p) h))
reply_in_lem (Broken n names) h =
    rw (kind_in_lem 2 n (four_bytes (names_of names)) (omega arith) h.0 (four_below (names_of names) (four_more (names_of names) h.1)))
    (ap answered (answer_in_lem (AnswerBroken n names) h))
reply_in_lem (Listed (Ok u)) h = refl
reply_in_lem (Listed (Err f)) h =
    rw (kind_in_lem 7 (fault_number f) (fault_rest f) (omega arith) (number_small f) (rest_small f h)) (ap (λ (g : Fault). Listed (Err g)) (fault_in_lem f h))

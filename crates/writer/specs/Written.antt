-- What the writer answers and leaves (02 §2), by what the reader says of the bytes that the table stands for. Laws: proofs/WrittenLaws.antt.
--     told s room       the answer for the sheet s and a buffer of `room` bytes
--     left r s entry    what the buffer then holds
--     Wrote             both
-- Assumes nothing.
use Rattle.std.specs.Prelude.{◌≡◌, cond, List, ℕ, ltb, length, Result, Ok, Err}
use Rattle.parse.specs.Parse.{Parsed, refused, whole, parse}
use Rattle.puts.specs.Put.{overlaid}
use Rattle.encode.specs.Index.{index_of}
use Rattle.writer.specs.declared.Unwritten.{Unwritten}

abbrev pub Written : Type 0
Written = Result ℕ Unwritten

abbrev pub unwritten : ℕ → ℕ → Written
unwritten n i = Err (record { number = n; index = i })

-- "It refuses exactly what the reader would refuse .., with the same number and in the same order, the place being the index in the table at fault";
-- "then 15, place 0, if the buffer is shorter than the sheet"
abbrev pub told_by : List ℕ → ℕ → Parsed → Written
told_by s room (refused n p) = unwritten n (index_of s n p)
told_by s room (whole x) = cond (ltb room (length s)) (unwritten 15 0) (Ok (length s))

unfoldable pub told : List ℕ → ℕ → Written
told s room = told_by s room (parse s)

-- "A refused call leaves the buffer unchanged; bytes after the sheet are unchanged."
abbrev pub left : Written → List ℕ → List ℕ → List ℕ
left (Err e) s entry = entry
left (Ok n) s entry = overlaid s entry

pub record Wrote (s entry : List ℕ) (r : Written) (exit : List ℕ) : Type 0 where
  pub answer : r ≡ told s (length entry)
  pub buffer : exit ≡ left r s entry

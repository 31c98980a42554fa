-- What writing the report line does to a lent buffer. Laws: proofs/LinedLaws.antt.
--     Lined x order entry r exit    r bytes were written: the line of x with the order, or nothing where it does not fit
-- Assumes nothing.
use Rattle.std.specs.Prelude.{ℕ, ◌≤◌, ◌<◌, ◌≡◌, List, length, take}
use Rattle.answer.specs.declared.Answer.{Answer}
use Rattle.report.specs.Line.{line_of}
use Rattle.puts.specs.Put.{Put}

pub record Lined (x : Answer) (order entry : List ℕ) (r : ℕ) (exit : List ℕ) : Type 0 where
  pub size : length exit ≡ length entry
  -- what a caller needs to lend the part that was written
  pub within : r ≤ length entry
  pub counted : r ≡ length (take r exit)
  -- the line stands in the first r bytes, and the rest is as it was
  pub written : length (line_of x order) ≤ length entry → Put (line_of x order) 0 r entry exit
  -- a buffer shorter than the line is left as it was
  pub short : length entry < length (line_of x order) → (r ≡ 0) × (exit ≡ entry)

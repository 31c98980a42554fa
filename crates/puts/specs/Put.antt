-- Bytes put into a buffer. Laws: proofs/PutLaws.antt.
--     Put piece at next entry exit     piece stands at `at`, `next` is the place after it, and the rest is as it was
--     step size at                     the place after a byte put at `at`: the next one, if this one is in the buffer
--     ending piece at size             the place after a piece
--     laid piece at entry              the buffer with a piece, byte by byte; what has no place is not written
--     overlaid piece entry             a buffer with a piece from its first byte on, and the rest as it was
--     Puts piece at next entry exit    the same as facts, whatever the room; where there is room, it is Put
-- Assumes nothing.
use Rattle.std.specs.Prelude.{ℕ, ◌+◌, ◌≡◌, cond, List, [], ◌∷◌, ◌++◌, ltb, length, take, drop, set}

pub record Put (piece : List ℕ) (at next : ℕ) (entry exit : List ℕ) : Type 0 where
  pub size : length exit ≡ length entry
  pub after : next ≡ at + length piece
  pub written : take next exit ≡ take at entry ++ piece
  pub rest : drop next exit ≡ drop next entry

abbrev pub step : ℕ → ℕ → ℕ
step size at = cond (ltb at size) (at + 1) at

unfoldable pub ending : List ℕ → ℕ → ℕ → ℕ
ending [] at size = at
ending (b ∷ p) at size = ending p (step size at) size

-- `set` beyond the end changes nothing
unfoldable pub laid : List ℕ → ℕ → List ℕ → List ℕ
laid [] at l = l
laid (b ∷ p) at l = laid p (step (length l) at) (set l at b)

abbrev pub overlaid : List ℕ → List ℕ → List ℕ
overlaid piece entry = piece ++ drop (length piece) entry

pub record Puts (piece : List ℕ) (at next : ℕ) (entry exit : List ℕ) : Type 0 where
  pub size : length exit ≡ length entry
  pub after : next ≡ ending piece at (length entry)
  pub bytes : exit ≡ laid piece at entry

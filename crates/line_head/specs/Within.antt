-- What the steps of a line's head promise.
--     PutsWithin most piece at next entry exit    piece is put, and is at most `most` bytes long
-- Assumes nothing.
use Rattle.std.specs.Prelude.{ℕ, ◌≤◌, List, length}
use Rattle.puts.specs.Put.{Puts}

pub record PutsWithin (most : ℕ) (piece : List ℕ) (at next : ℕ) (entry exit : List ℕ) : Type 0 where
  pub put : Puts piece at next entry exit
  pub near : length piece ≤ most

-- How many bytes are read: each has a row where there are as many rows as this (proofs/BytesLaws.antt).
--     read_width     by an event's accesses            read_bytes     by all events
-- Assumes nothing.
use Rattle.std.specs.Prelude.{cond, List, [], ◌∷◌, ℕ, ◌+◌}
use Rattle.format.specs.Shape.{reads}
use Rattle.format.specs.Event.{Access, Event}

unfoldable pub read_width : List Access → ℕ
read_width [] = 0
read_width (a ∷ l) = cond (reads a.shape) a.shape.width 0 + read_width l

unfoldable pub read_bytes : List Event → ℕ
read_bytes [] = 0
read_bytes (d ∷ l) = read_width d.accesses + read_bytes l

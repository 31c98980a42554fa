-- What a caller of `tell` lends so that every sheet gets its line; the scratch's is `max_scratch` (model), the order's `max_events` (format).
--     max_line     the longest line
-- Assumes nothing.
use Rattle.std.specs.Prelude.{ℕ, ◌+◌, ◌*◌}
use Rattle.format.specs.Limits.{max_events}

-- ours: `LongEnough` of report/specs/Demands.antt, for the most events
abbrev pub max_line : ℕ
max_line = 34 + 4 * max_events

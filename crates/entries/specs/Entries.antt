-- What the counts and places of a sheet describe, beside its bytes. `Counts` is the source's own struct. Laws: proofs/EntriesLaws.antt.
--     spaced                        things a gap apart
--     event_at, row_at, pair_at        of the field at a place
--     events_in, rows_in, pairs_in     what the counts and places describe
--     row_no, pair_no                 row and pair number j
--     execution s x at              the execution that they describe
-- Assumes nothing.
use Rattle.std.specs.Prelude.{List, [], ◌∷◌, map, ℕ, zero, suc, ◌+◌, ◌*◌, take}
use Rattle.format.specs.declared.Row.{Row}
use Rattle.format.specs.declared.Pair.{Pair}
use Rattle.format.specs.Event.{Event}
use Rattle.format.specs.Execution.{Execution}
use Rattle.format.specs.Field.{rest_at}
use Rattle.format.specs.Layout.{event_of, row_of, pair_of, row_gap, pair_gap}
use Rattle.entries.specs.declared.Counts.{Counts}

-- n things, the first at p, each `gap` bytes behind the one before
unfoldable pub spaced {ℓ} : {A : Type ℓ} → (ℕ → A) → ℕ → ℕ → ℕ → List A
spaced f gap p zero = []
spaced f gap p (suc n) = f p ∷ spaced f gap (p + gap) n

-- the event, the row, the pair of the field at p: what its first bytes say, so that no length is asked for; where the lengths are right, which the
-- reader has tested, it is what the field's value says (crates/spot/proofs/TakenLaws.antt)
abbrev pub event_at : List ℕ → ℕ → ℕ → Event
event_at s edition p = event_of edition (rest_at s p)

abbrev pub row_at : List ℕ → ℕ → ℕ → Row
row_at s edition p = row_of edition (rest_at s p)

abbrev pub pair_at : List ℕ → ℕ → Pair
pair_at s p = pair_of (rest_at s p)

unfoldable pub events_on : List ℕ → ℕ → ℕ → List ℕ → List Event
events_on s edition n at = map (event_at s edition) (take n at)

unfoldable pub rows_on : List ℕ → ℕ → ℕ → ℕ → List Row
rows_on s edition p n = spaced (row_at s edition) (row_gap edition) p n

unfoldable pub pairs_on : List ℕ → ℕ → ℕ → List Pair
pairs_on s p n = spaced (pair_at s) pair_gap p n

abbrev pub events_in : List ℕ → Counts → List ℕ → List Event
events_in s x at = events_on s x.head.edition x.events at

abbrev pub rows_in : List ℕ → Counts → List Row
rows_in s x = rows_on s x.head.edition x.rows_at x.rows

abbrev pub pairs_in : List ℕ → Counts → List Pair
pairs_in s x = pairs_on s x.pairs_at x.pairs

abbrev pub execution : List ℕ → Counts → List ℕ → Execution
execution s x at = record { head = x.head; events = events_in s x at; rows = rows_in s x; pairs = pairs_in s x }

-- row number j and pair number j
abbrev pub row_no : List ℕ → Counts → ℕ → Row
row_no s x j = row_at s x.head.edition (x.rows_at + j * row_gap x.head.edition)

abbrev pub pair_no : List ℕ → Counts → ℕ → Pair
pair_no s x j = pair_at s (x.pairs_at + j * pair_gap)

-- The slices of a table as a sheet's counts and places give them, whatever the sheet is. Where the reader has accepted it, they are the slices of the
-- table of what it describes (crates/lend/proofs/WholeLaws.antt). Laws: proofs/SlicedLaws.antt.
--     eight_by, eight_at s edition p                    the eight bytes of an event, of the one at place p
--     data_bytes_at, size_at s edition p                 its data, and how many bytes its shape says that it has
--     events_slice, data_slice, rows_slice, pairs_slice   the slices
--     sum f l, data_sum s x at                         the bytes of data that all events say that they have
--     DataCounted s x at r                            r is their number
-- Assumes nothing.
use Rattle.std.specs.Prelude.{◌≡◌, List, [], ◌∷◌, ℕ, ◌+◌, ◌*◌, ◌/◌, ◌%◌, ◌≤◌, take, drop}
use Rattle.format.specs.declared.Shape.{Shape}
use Rattle.format.specs.Field.{rest_at}
use Rattle.format.specs.Layout.{event_bytes, data_bytes, agent_of, shape_of}
use Rattle.entries.specs.declared.Counts.{Counts}
use Rattle.entries.specs.Entries.{rows_in, pairs_in}
use Rattle.encode.specs.Encode.{row_value, pair_value}
use Rattle.encode.specs.Lend.{flat}

-- agent, kind, mode, start, width, tear, the number of its data bytes, most significant first
abbrev pub eight_by : ℕ → Shape → List ℕ
eight_by agent a = agent ∷ a.kind ∷ a.mode ∷ a.start ∷ a.width ∷ a.tear ∷ data_bytes a / 256 ∷ data_bytes a % 256 ∷ []

abbrev pub eight_at : List ℕ → ℕ → ℕ → List ℕ
eight_at s edition p = eight_by (agent_of (rest_at s p)) (shape_of edition (rest_at s p))

abbrev pub data_bytes_at : List ℕ → ℕ → ℕ → List ℕ
data_bytes_at s edition p = take (data_bytes (shape_of edition (rest_at s p))) (drop (event_bytes edition) (rest_at s p))

abbrev pub events_slice : List ℕ → Counts → List ℕ → List ℕ
events_slice s x at = flat (eight_at s x.head.edition) (take x.events at)

abbrev pub data_slice : List ℕ → Counts → List ℕ → List ℕ
data_slice s x at = flat (data_bytes_at s x.head.edition) (take x.events at)

abbrev pub rows_slice : List ℕ → Counts → List ℕ
rows_slice s x = flat (row_value x.head.edition) (rows_in s x)

abbrev pub pairs_slice : List ℕ → Counts → List ℕ
pairs_slice s x = flat pair_value (pairs_in s x)

module _ {A : Type 0} (f : A → ℕ) where
  unfoldable pub sum : List A → ℕ
  sum [] = 0
  sum (a ∷ l) = f a + sum l

abbrev pub size_at : List ℕ → ℕ → ℕ → ℕ
size_at s edition p = data_bytes (shape_of edition (rest_at s p))

abbrev pub data_sum : List ℕ → Counts → List ℕ → ℕ
data_sum s x at = sum (size_at s x.head.edition) (take x.events at)

-- twice a byte, at most, for each event
pub record DataCounted (s : List ℕ) (x : Counts) (at : List ℕ) (r : ℕ) : Type 0 where
  pub is : r ≡ data_sum s x at
  pub few : r ≤ x.events * 510

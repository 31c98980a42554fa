-- Where a table's entries stand in its sheet, and what a refusal of the sheet names (02 §2: "the place being the index in the table at fault").
-- Laws: proofs/ReadBack.antt, proofs/PlaceLaws.antt (`refused_at`).
--     event_place, row_place, pair_place     the place of the tag of entry number i
--     OfEvent, OfPair                     the numbers of an event's refusals, of a pair's
--     Names t n p i                       refusal n at place p is one that a table's sheet can get, and i is the index in the list that it is about
-- Assumes nothing.
use Rattle.std.specs.Prelude.{◌≡◌, ◌⊎◌, List, ◌++◌, ℕ, ◌<◌, length, take}
use Rattle.parse.specs.Parse.{place_of}
use Rattle.encode.specs.Table.{Table}
use Rattle.encode.specs.Encode.{field, head_value, event_value, row_value, pair_value, run, encode}

-- what stands before the events, the rows, the pairs
abbrev pub before_events : Table → List ℕ
before_events t = field 1 (head_value t.head)

abbrev pub before_rows : Table → List ℕ
before_rows t = before_events t ++ run 2 (event_value t.head.edition) t.events

abbrev pub before_pairs : Table → List ℕ
before_pairs t = before_rows t ++ run 3 (row_value t.head.edition) t.rows

unfoldable pub event_place : Table → ℕ → ℕ
event_place t i = length (before_events t ++ run 2 (event_value t.head.edition) (take i t.events))

unfoldable pub row_place : Table → ℕ → ℕ
row_place t i = length (before_rows t ++ run 3 (row_value t.head.edition) (take i t.rows))

unfoldable pub pair_place : Table → ℕ → ℕ
pair_place t i = length (before_pairs t ++ run 4 pair_value (take i t.pairs))

-- 4 can only be an event's data length: head, rows and pairs are written with the right one
abbrev pub OfEvent : ℕ → Type 0
OfEvent n = (n ≡ 4) ⊎ (n ≡ 6) ⊎ (n ≡ 9) ⊎ (n ≡ 11)

abbrev pub OfPair : ℕ → Type 0
OfPair n = (n ≡ 8) ⊎ (n ≡ 9)

-- "the place being the index in the table at fault (0 for 1, 5, 10 and 14)"; 2 and 3 cannot be
pub data Names (t : Table) : ℕ → ℕ → ℕ → Type 0 where
  too_long : Names t 1 0 0
  at_head : Names t 5 (place_of 5 0) 0
  none_reads : Names t 10 (length (encode t)) 0
  no_event : Names t 14 (length (encode t)) 0
  at_event : {n : ℕ} (i : ℕ) → i < length t.events → OfEvent n → Names t n (place_of n (event_place t i)) i
  at_row : (i : ℕ) → i < length t.rows → Names t 7 (place_of 7 (row_place t i)) i
  at_pair : {n : ℕ} (i : ℕ) → i < length t.pairs → OfPair n → Names t n (place_of n (pair_place t i)) i

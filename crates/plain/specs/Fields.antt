-- Where the reader of a sheet stands behind most of its fields: a head, inits, other events and rows, each of which passes a test that leaves no fault, as far
-- as there are such (`Stands` and `Tabled` of crates/spot/specs/Between.antt; the tests of crates/faults/specs/Faults.antt and crates/take_row/specs/Taken.antt).
-- `Spot` is spot's struct.
--     init_next, other_next, row_next     the field at p, within the sheet, passes the test of an init; of another event; of a row
--     PlainFields s t q r at t' q'     it stands at r with the places at, the tables t and q have become t' and q', and the next field passes no test
--     start_spot                        before the first field
--     FieldsTaken s t q r at t' q'     so of a sheet that is not too long; of one that is, before the first field, and no table has changed
-- Assumes nothing.
use Rattle.std.specs.Prelude.{◌≡◌, Bool, true, false, List, ℕ, ◌≤◌, ◌<◌, ltb, length}
use Rattle.basis.specs.Test.{◌and◌}
use Rattle.format.specs.Limits.{max_bytes}
use Rattle.format.specs.Field.{rest_at}
use Rattle.format.specs.Layout.{shape_of}
use Rattle.content.specs.Content.{within, stands_first}
use Rattle.entries.specs.declared.Counts.{Counts}
use Rattle.entries.specs.Entries.{events_in}
use Rattle.faults.specs.Faults.{head_test, init_test, other_test, tear_test}
use Rattle.take_row.specs.Taken.{row_test}
use Rattle.spot.specs.declared.Spot.{Spot}
use Rattle.spot.specs.Between.{blank_counts, blank_places, Stands, Tabled}

abbrev pub init_next : List ℕ → ℕ → Counts → List ℕ → Bool
init_next s p x at = ltb p (length s) and (init_test s p x and stands_first (events_in s x at) (shape_of x.head.edition (rest_at s p)))

abbrev pub other_next : List ℕ → ℕ → Counts → Bool
other_next s p x = ltb p (length s) and (other_test s p x and tear_test s x.head.edition p)

abbrev pub row_next : List ℕ → ℕ → Counts → List ℕ → Bool
row_next s p x t = ltb p (length s) and row_test s p x t

-- behind nothing, a head, an event, a row: the next is none that may stand there and passes its test
pub record PlainFields (s t q : List ℕ) (r : Spot) (at t' q' : List ℕ) : Type 0 where
  pub stands : Stands s r at
  pub tabled : Tabled s r.x at t t' q q'
  pub no_head_lem : r.last ≡ 0 → head_test s ≡ false
  pub no_init : r.last ≡ 1 → init_next s r.p r.x at ≡ false
  pub no_other : within 1 2 r.last ≡ true → other_next s r.p r.x ≡ false
  pub no_row : within 2 3 r.last ≡ true → row_next s r.p r.x t' ≡ false

-- before the first field
abbrev pub start_spot : Spot
start_spot = record { p = 0; last = 0; x = blank_counts; t = record { bytes = 0; agents = 0 } }

pub record FieldsTaken (s t q : List ℕ) (r : Spot) (at t' q' : List ℕ) : Type 0 where
  pub fit : length s ≤ max_bytes → PlainFields s t q r at t' q'
  pub long : max_bytes < length s → (r ≡ start_spot) × (at ≡ blank_places) × (t' ≡ t) × (q' ≡ q)

-- A row as it is filled from a sheet. Laws: proofs/RowDataLaws.antt.
--     laid_shape t e           the access of event e whose data is read
--     data_at, seen_at, wrote_at the place of its data for a byte; the byte that a row's reader saw there, the byte that its writer wrote
--     row_put                  one row written, with the byte seen and the byte written
-- Assumes nothing.
use Rattle.std.specs.Prelude.{List, cond, ℕ, ◌+◌, ◌-◌, ◌*◌, ◌%◌, eqb, get_or}
use Rattle.format.specs.declared.Shape.{Shape}
use Rattle.format.specs.declared.Row.{Row}
use Rattle.format.specs.Field.{field_bytes}
use Rattle.format.specs.Layout.{event_bytes}
use Rattle.entries.specs.declared.Counts.{Counts}
use Rattle.entries.specs.Entries.{row_no}
use Rattle.tables.specs.Tables.{accesses, shape_in, row_room, putting_row}

-- Of an event's accesses that in its first slot: today it has no other, and its data stands behind its event_bytes. 02 §11, which adds a second
-- with its data behind the first's, changes this and data_at.
abbrev pub laid_shape : List ℕ → ℕ → Shape
laid_shape t e = shape_in t (2 * e % accesses)

-- where the data of event e, whose field stands at p, has the byte a
abbrev pub data_at : ℕ → ℕ → Shape → ℕ → ℕ
data_at edition p b a = p + field_bytes + event_bytes edition + (a - b.start)

abbrev pub seen_at : List ℕ → ℕ → List ℕ → List ℕ → Row → ℕ
seen_at s edition at t r = get_or s (data_at edition (get_or at r.reader 0) (laid_shape t r.reader) r.address) 0

-- what a read-modify-write wrote stands behind what it saw
abbrev pub passed : Shape → ℕ
passed b = cond (eqb b.kind 3) b.width 0

abbrev pub wrote_at : List ℕ → ℕ → List ℕ → List ℕ → Row → ℕ
wrote_at s edition at t r =
    get_or s (data_at edition (get_or at r.writer 0) (laid_shape t r.writer) r.address + passed (laid_shape t r.writer)) 0

unfoldable pub row_put : List ℕ → Counts → List ℕ → List ℕ → ℕ → List ℕ → List ℕ
row_put s x at t j l =
    putting_row l (j % row_room) (row_no s x j) (seen_at s x.head.edition at t (row_no s x j)) (wrote_at s x.head.edition at t (row_no s x j))

-- A row taken: the tests of the field at a place as a row, as the code makes them, and the table of rows with it. What passes is a row without a fault where
-- what stands before it was read without one (crates/plain/proofs/GrowingLaws.antt, `row_took`); of one that does not nothing is said.
--     row_here s p x             the row of the field at p
--     known_test                 a row by its tag and its length, between events that stand before it, with a place in the table
--     join_test r a b            the access a of its reader reads its byte, and the access b of its writer, another event, writes it
--     rise_test                  it is the first, or above the row before it, whose value ends at p
--     row_test, row_taken         all of them; the table with the row, the byte seen and the byte written
--     TakenRow                  the answer is the test's, and the table has the row where it passed
-- An event counts by its place among the slots. Assumes nothing.
use Rattle.std.specs.Prelude.{◌≡◌, Bool, cond, List, ℕ, ◌+◌, ◌-◌, ◌%◌, eqb, leb, ltb, length, get_or, drop}
use Rattle.basis.specs.Test.{◌and◌, ◌or◌, non}
use Rattle.sets.specs.Mask.{slots}
use Rattle.format.specs.declared.Shape.{Shape}
use Rattle.format.specs.declared.Row.{Row}
use Rattle.format.specs.Shape.{covers, reads, writes}
use Rattle.format.specs.Execution.{row_below}
use Rattle.format.specs.Field.{tag_at, length_at, rest_at}
use Rattle.format.specs.Layout.{row_bytes, row_of}
use Rattle.entries.specs.declared.Counts.{Counts}
use Rattle.tables.specs.Tables.{row_room, putting_row}
use Rattle.row_data.specs.RowData.{laid_shape, data_at, passed}

abbrev pub row_here : List ℕ → ℕ → Counts → Row
row_here s p x = row_of x.head.edition (rest_at s p)

unfoldable pub known_test : List ℕ → ℕ → Counts → Row → Bool
known_test s p x r =
    ((eqb (tag_at s p) 3 and eqb (length_at s p) (row_bytes x.head.edition)) and (ltb r.reader x.events and ltb r.writer x.events))
    and ltb x.rows row_room

unfoldable pub join_test : Row → Shape → Shape → Bool
join_test r a b = (covers a r.address and reads a) and ((covers b r.address and writes b) and non (eqb r.reader r.writer))

unfoldable pub rise_test : List ℕ → ℕ → Counts → Row → Bool
rise_test s p x r = eqb x.rows 0 or (leb 3 p and row_below (row_of x.head.edition (drop (p - 3) s)) r)

-- the accesses of its events, as the table has them
abbrev pub reader_shape : List ℕ → Row → Shape
reader_shape t r = laid_shape t (r.reader % slots)

abbrev pub writer_shape : List ℕ → Row → Shape
writer_shape t r = laid_shape t (r.writer % slots)

-- of the row r in that field
abbrev pub row_test_of : List ℕ → ℕ → Counts → List ℕ → Row → Bool
row_test_of s p x t r =
    leb (p + 6) (length s) and (known_test s p x r and (join_test r (reader_shape t r) (writer_shape t r) and rise_test s p x r))

abbrev pub row_test : List ℕ → ℕ → Counts → List ℕ → Bool
row_test s p x t = row_test_of s p x t (row_here s p x)

abbrev pub row_taken_of : List ℕ → Counts → List ℕ → List ℕ → List ℕ → Row → List ℕ
row_taken_of s x at t q r =
    putting_row q (x.rows % row_room) r (get_or s (data_at x.head.edition (get_or at (r.reader % slots) 0) (reader_shape t r) r.address) 0)
    (get_or s (data_at x.head.edition (get_or at (r.writer % slots) 0) (writer_shape t r) r.address + passed (writer_shape t r)) 0)

abbrev pub row_taken : List ℕ → ℕ → Counts → List ℕ → List ℕ → List ℕ → List ℕ
row_taken s p x at t q = row_taken_of s x at t q (row_here s p x)

pub record TakenRow (s : List ℕ) (p : ℕ) (x : Counts) (at t q : List ℕ) (y : Bool) (q' : List ℕ) : Type 0 where
  pub is : y ≡ row_test s p x t
  pub table : q' ≡ cond y (row_taken s p x at t q) q

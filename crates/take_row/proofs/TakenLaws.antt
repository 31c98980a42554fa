-- The laws of specs/Taken.antt, as the code makes its tests. Assumes nothing.
--     test_short, test_unknown, test_told      what the tests come to, in their order
--     taken_left, taken_put                    a field that is left; a row that is taken
--     put_told                                 the row as the code puts it
--     rise_first, rise_none, rise_then         above the row before
--     joined_from                              an access that a row joins starts at its byte or before it
use Prim.Native.Nat.{ℕ, ◌+◌, ◌-◌, ◌%◌, ◌≤◌, ◌<◌}
use mathlib.Core.Path.{◌≡◌, refl, sym, ap, ◌∙◌}
use mathlib.Core.Bool.{Bool, true, false, ◌&&◌}
use mathlib.Core.List.{List}
use borrow.Author.Tests.{leb-true, le-leb, lt-leb, eq-eqb, ne_eqb}
use lib.Dec.{leb}
use lib.ListN.{length, get_or, drop}
use Rattle.basis.specs.Test.{◌and◌}
use Rattle.basis.proofs.BoolLaws.{amp_and, and_holds, and_fails, and_both, or_holds, or_fails}
use Rattle.sets.specs.Mask.{slots}
use Rattle.format.specs.declared.Shape.{Shape}
use Rattle.format.specs.declared.Row.{Row}
use Rattle.format.specs.Shape.{covers, reads}
use Rattle.format.specs.Execution.{row_below}
use Rattle.format.specs.Layout.{row_of}
use Rattle.entries.specs.declared.Counts.{Counts}
use Rattle.tables.specs.Tables.{row_room, putting_row}
use Rattle.row_data.specs.RowData.{data_at, passed}
use Rattle.take_row.specs.Taken.{row_here, known_test, join_test, rise_test, reader_shape, writer_shape, row_test_of, row_taken_of, TakenRow}

module _ (s : List ℕ) (p : ℕ) (x : Counts) (t : List ℕ) (r : Row) where
  pub test_short : length s < p + 6 → row_test_of s p x t r ≡ false
  test_short h = and_fails _ _ (lt-leb (p + 6) (length s) h)

  module _ (long : p + 6 ≤ length s) where
    pub test_unknown : known_test s p x r ≡ false → row_test_of s p x t r ≡ false
    test_unknown k = and_holds _ _ (le-leb (p + 6) (length s) long) ∙ and_fails _ _ k

    pub test_told : known_test s p x r ≡ true → (a b : Shape) (j u : Bool) → a ≡ reader_shape t r → b ≡ writer_shape t r → j ≡ join_test r a b → u ≡ rise_test s p x r
        → row_test_of s p x t r ≡ (j && u)
    test_told k a b j u ea eb ej eu =
        and_holds _ _ (le-leb (p + 6) (length s) long) ∙ and_holds _ _ k ∙ sym (amp_and j u ∙ rw (ej, eu, ea, eb) refl)

module _ (s : List ℕ) (p : ℕ) (x : Counts) (at t q : List ℕ) (r : Row) (e : r ≡ row_here s p x) where
  pub taken_left : row_test_of s p x t r ≡ false → TakenRow s p x at t q false q
  taken_left h = record { is = sym h ∙ ap (row_test_of s p x t) e; table = refl }

  pub taken_put : row_test_of s p x t r ≡ true → (q' : List ℕ) → q' ≡ row_taken_of s x at t q r → TakenRow s p x at t q true q'
  taken_put h q' g = record { is = sym h ∙ ap (row_test_of s p x t) e; table = g ∙ ap (row_taken_of s x at t q) e }

pub put_told : (s : List ℕ) (x : Counts) (at t q : List ℕ) (r : Row) (a b : Shape) (m n : ℕ) → a ≡ reader_shape t r → b ≡ writer_shape t r
    → m ≡ get_or at (r.reader % slots) 0 → n ≡ get_or at (r.writer % slots) 0
    → putting_row q (x.rows % row_room) r (get_or s (data_at x.head.edition m a r.address) 0) (get_or s (data_at x.head.edition n b r.address + passed b) 0)
    ≡ row_taken_of s x at t q r
put_told s x at t q r a b m n ea eb em en = rw (ea, eb, em, en) refl

-- the row before
module _ (s : List ℕ) (p : ℕ) (x : Counts) (r : Row) where
  pub rise_first : x.rows ≡ 0 → true ≡ rise_test s p x r
  unfolding rise_test
  rise_first z = sym (or_holds _ _ (eq-eqb x.rows 0 z))

  pub rise_none : (x.rows ≡ 0 → ⊥) → p < 3 → false ≡ rise_test s p x r
  unfolding rise_test
  rise_none n h = sym (or_fails _ _ (ne_eqb x.rows 0 n) ∙ and_fails _ _ (lt-leb 3 p h))

  pub rise_then : (x.rows ≡ 0 → ⊥) → 3 ≤ p → row_below (row_of x.head.edition (drop (p - 3) s)) r ≡ rise_test s p x r
  unfolding rise_test
  rise_then n h = sym (or_fails _ _ (ne_eqb x.rows 0 n) ∙ and_holds _ _ (le-leb 3 p h))

covers_from : (a : Shape) (n : ℕ) → covers a n ≡ true → a.start ≤ n
unfolding covers
covers_from a n h = leb-true a.start n (and_both (leb a.start n) _ h).0

pub joined_from : (r : Row) (a b : Shape) → join_test r a b ≡ true → (a.start ≤ r.address) × (b.start ≤ r.address)
unfolding join_test
joined_from r a b h =
    let v = and_both (covers a r.address and reads a) _ h in
    let w = and_both _ _ v.1 in
    (covers_from a r.address (and_both _ _ v.0).0, covers_from b r.address (and_both _ _ w.0).0)

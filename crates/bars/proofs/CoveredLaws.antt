-- The laws of specs/steps/Covered.antt. Assumes nothing.
--     covered_is          the two tests, as the code makes them
--     covered_reader, covered_writer     the slot of the access at the row's byte is the first, for both events
use mathlib.Core.Path.{◌≡◌, ◌∙◌}
use mathlib.Core.Bool.{Bool, true, ◌&&◌}
use mathlib.Core.List.{List}
use Prim.Native.Nat.{ℕ, ◌*◌, ◌%◌}
use Rattle.basis.specs.Test.{◌and◌}
use Rattle.basis.proofs.BoolLaws.{amp_and, and_both}
use Rattle.format.specs.declared.Row.{Row}
use Rattle.format.specs.Shape.{covers}
use Rattle.sets.specs.Mask.{slots}
use Rattle.tables.specs.Tables.{shape_in, slot_in}
use Rattle.tables.proofs.TablesLaws.{slot_first}
use Rattle.bars.specs.steps.Covered.{covered_in}

module _ (t : List ℕ) (r : Row) where
  pub covered_is : (x y : Bool) → x ≡ covers (shape_in t (2 * (r.reader % slots))) r.address → y ≡ covers (shape_in t (2 * (r.writer % slots))) r.address → (x && y) ≡ covered_in t r
  unfolding covered_in
  covered_is x y a b = amp_and x y ∙ (λ i. a i and b i)

  pub covered_reader : covered_in t r ≡ true → slot_in t (r.reader % slots) r.address ≡ 2 * (r.reader % slots)
  unfolding covered_in
  covered_reader h = slot_first t (r.reader % slots) r.address (and_both (covers (shape_in t (2 * (r.reader % slots))) r.address) _ h).0

  pub covered_writer : covered_in t r ≡ true → slot_in t (r.writer % slots) r.address ≡ 2 * (r.writer % slots)
  unfolding covered_in
  covered_writer h = slot_first t (r.writer % slots) r.address (and_both (covers (shape_in t (2 * (r.reader % slots))) r.address) _ h).1

-- Tables in which no second access is sc. Assumes nothing.
--     first_side     first accesses give all
use mathlib.Core.Path.{◌≡◌, refl, sym, ap, ◌∙◌}
use mathlib.Core.List.{List}
use Prim.Native.Nat.{ℕ, ◌+◌, ◌*◌, ◌≤◌}
use native.Mathlib.Omega.{arith}
use borrow.Author.Tests.{ltb-true}
use lib.Dec.{ltb}
use Rattle.basis.proofs.BoolLaws.{false_of, not_both_ways, and_both}
use Rattle.format.specs.Shape.{sc}
use Rattle.sets.specs.Mask.{slots}
use Rattle.sets.proofs.MaskLaws.{mem_empty, ext_all}
use Rattle.cells.specs.Walk.{over}
use Rattle.cells.proofs.WalkLaws.{stand_start, stand_end}
use Rattle.tables.specs.Tables.{accesses, shape_in}
use Rattle.tables.specs.Seconds.{NoSecond}
use Rattle.alike.specs.Ranges.{sc_writes, writers_in, matched_in, side_in, equals_on}
use Rattle.alike.proofs.RangesLaws.{writers_mem}

module _ (t : List ℕ) (n : ℕ) (few : n ≤ slots) (lone : NoSecond sc t accesses) where
  -- no second access writes sc
  no_seconds : writers_in t n 1 ≡ 0
  unfolding sc_writes NoSecond
  no_seconds =
      ext_all (writers_in t n 1) 0
      (λ v. writers_mem t n 1 v
      ∙ false_of _ (λ q.
      let p = and_both (ltb v n) _ q in
      let b = ltb-true v n p.0 in
      absurd (not_both_ways (and_both (sc (shape_in t (2 * v + 1))) _ p.1).0 (lone (2 * v + 1) (omega (arith, b, few)) (omega arith))))
      ∙ sym (mem_empty v))

  pub first_side : (l : List ℕ) → side_in t n 0 l ≡ equals_on t n l
  unfolding equals_on side_in
  first_side l =
      stand_end (stand_start 0 (matched_in t n 1) (side_in t n 0 l) (omega arith)) refl
      ∙ ap (λ (m : ℕ). over m (matched_in t n 1) (side_in t n 0 l)) (sym no_seconds)

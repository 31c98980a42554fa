-- Tables in which one pass by first accesses finds nothing amiss. Laws: proofs/CleanLaws.antt.
--     wide_of a                     more than eight bytes, or none of the first bytes at its start
--     near_to a n                   the flat byte n is one of the eight from a's start on that it covers; the start counts by its place among the first bytes
--     Telling t n far l            far has the events below n that are wide, and all from n on; l has for each of the first bytes the events below n that
--                                  write near it: by first accesses, these are all that may write it
--     stirs_in .. r                 not 0 where the row r turns R and W round, or has an event between the two that may write its byte
--     whole_in t r                  the first accesses of both events of the row r are tear-free, with equal ranges
--     run_of t r last m             the writers of the whole rows of r's reader: m where that is `last`, and r's where r is whole
--     last_in q j                   the reader of the row before row j; 0 for the first
--     run_in t q j                  the writers of the whole rows before row j that have one reader without a break, the last of them
--     RowAmiss .. r last m         23 or 24 may be broken at r; its byte is none of the first; first accesses do not cover it; its reader is below the
--                                  last one; or m, the writers of its reader's whole rows, are two
--     AmissAt .. j                 the same of row j, after the rows before it
--     Clean t n succ .. q m        no event happens before itself, none below n has a second access, and none of the first m rows is amiss
-- Assumes nothing.
use Rattle.std.specs.Prelude.{◌≡◌, Bool, true, false, cond, ◌⊎◌, List, ℕ, zero, suc, ◌+◌, ◌*◌, ◌%◌, ◌<◌, min, eqb, ltb, leb, get_or}
use Rattle.std.specs.Int.Bits.{bit_and, bit_or}
use Rattle.basis.specs.Test.{◌and◌, ◌or◌}
use Rattle.format.specs.declared.Row.{Row}
use Rattle.format.specs.declared.Shape.{Shape}
use Rattle.format.specs.Shape.{writes, tear_free, equal}
use Rattle.sets.specs.Mask.{slots, mem, insert}
use Rattle.tables.specs.Tables.{shape_in, row_in}
use Rattle.own.specs.Lone.{Lone}
use Rattle.torn.specs.steps.Noticed.{Among}
use Rattle.torn.specs.steps.Doubled.{Twice}
use Rattle.rules.specs.Rules.{cyclic_in}
use Rattle.sift.specs.Cover.{near_room}
use Rattle.bars.specs.steps.Covered.{covered_in}

unfoldable pub wide_of : Shape → Bool
wide_of a = ltb 8 a.width or ltb 63 a.start

unfoldable pub near_to : Shape → ℕ → Bool
near_to a n = leb (a.start % near_room) n and ltb n (a.start % near_room + min a.width 8)

pub record Telling (t : List ℕ) (n far : ℕ) (l : List ℕ) : Type 0 where
  pub others : (v : ℕ) → v < slots → mem far v ≡ ((ltb v n and wide_of (shape_in t (2 * v))) or leb n v)
  pub near : (v a : ℕ) → a < near_room → mem (get_or l a 0) v ≡ ((ltb v n and writes (shape_in t (2 * v))) and near_to (shape_in t (2 * v)) a)

unfoldable pub stirs_in : List ℕ → List ℕ → ℕ → List ℕ → Row → ℕ
stirs_in succ pred far l r =
    bit_or (cond (mem (get_or succ (r.reader % slots) 0) (r.writer % slots)) 1 0)
    (bit_and (bit_and (get_or succ (r.writer % slots) 0) (get_or pred (r.reader % slots) 0)) (bit_or far (get_or l (r.address % near_room) 0)))

unfoldable pub whole_in : List ℕ → Row → Bool
whole_in t r =
    tear_free (shape_in t (2 * (r.reader % slots))) and tear_free (shape_in t (2 * (r.writer % slots)))
    and equal (shape_in t (2 * (r.reader % slots))) (shape_in t (2 * (r.writer % slots)))

unfoldable pub run_of : List ℕ → Row → ℕ → ℕ → ℕ
run_of t r last m = cond (whole_in t r) (insert (cond (eqb r.reader last) m 0) (r.writer % slots)) (cond (eqb r.reader last) m 0)

unfoldable pub last_in : List ℕ → ℕ → ℕ
last_in q zero = 0
last_in q (suc j) = (row_in q j).reader

unfoldable pub run_in : List ℕ → List ℕ → ℕ → ℕ
run_in t q zero = 0
run_in t q (suc j) = run_of t (row_in q j) (last_in q j) (run_in t q j)

abbrev pub RowAmiss : List ℕ → List ℕ → List ℕ → ℕ → List ℕ → Row → ℕ → ℕ → Type 0
RowAmiss t succ pred far l r last m =
    (stirs_in succ pred far l r ≡ 0 → ⊥) ⊎ ((63 < r.address) ⊎ ((covered_in t r ≡ false) ⊎ ((r.reader < last) ⊎ Twice m)))

abbrev pub AmissAt : List ℕ → List ℕ → List ℕ → ℕ → List ℕ → List ℕ → ℕ → Type 0
AmissAt t succ pred far l q j = RowAmiss t succ pred far l (row_in q j) (last_in q j) (run_in t q (suc j))

pub record Clean (t : List ℕ) (n : ℕ) (succ pred : List ℕ) (far : ℕ) (l q : List ℕ) (m : ℕ) : Type 0 where
  pub uncyclic : Among slots (λ (e : ℕ). cyclic_in succ e ≡ true) → ⊥
  pub lone : Lone t n
  pub still : Among m (AmissAt t succ pred far l q) → ⊥

-- What the fields of a sheet describe, with nothing tested: so that "a sheet in which some byte of some read has no row" can be said of any bytes.
-- Laws: proofs/DescribedLaws.antt.
--     described s      the events, rows and pairs of the fields of s, front to back
--     RowlessAt x e    some byte that event e reads has no row          Rowless x     of some event
-- Assumes nothing.
use Rattle.std.specs.Prelude.{◌≡◌, true, false, ℕ, zero, suc, T, ltb, length}
use mathlib.Core.List.{List, Memᴰ}
use Rattle.format.specs.declared.Row.{Row}
use Rattle.format.specs.Event.{reads_at}
use Rattle.format.specs.Execution.{Execution, event}
use Rattle.format.specs.Field.{next_at}
use Rattle.parse.specs.Parse.{State, blank, after}

-- 01: "Fields follow one another". What the fields from place p on add to what was read; k is more than the number of fields left.
unfoldable pub fields_taken : List ℕ → ℕ → ℕ → State → State
fields_taken s zero p st = st
fields_taken s (suc k) p st = elim (ltb p (length s)) [ false ↦ st | true ↦ fields_taken s k (next_at s p) (after s p st) ]

unfoldable pub described : List ℕ → Execution
described s = (fields_taken s (suc (length s)) 0 blank).got

-- 01: "a read byte without a row", of event e
pub record RowlessAt (x : Execution) (e : ℕ) : Type 0 where
  pub byte : ℕ
  pub reads : T (reads_at (event x e) byte)
  pub no_row : (r : Row) → Memᴰ r x.rows → r.reader ≡ e → r.address ≡ byte → ⊥

abbrev pub Rowless : Execution → Type 0
Rowless x = (e : ℕ) × RowlessAt x e

-- A short list of what rows bar. Entry i: the events of the set between[i] stand not between the writer writers[i] and the reader readers[i].
-- Laws: proofs/ListedLaws.antt.
--     list_room                   the entries that there is room for
--     gone_in k pred w v          w is no init, and v happens before it: wherever w stands, v stands before it
--     lists_in t eq succ pred k r v     the row r bars v, which is not gone
--     Entry between readers writers i r w v     entry i has reader r, writer w, and v among the events between
--     Listed .. m n ..           n entries, of the first m rows: none but what a row lists, and all of it where there is room left
-- Assumes nothing.
use Rattle.std.specs.Prelude.{◌≡◌, Bool, true, List, ℕ, ◌<◌, ◌≤◌, leb, get_or}
use Rattle.basis.specs.Test.{◌and◌, non}
use Rattle.format.specs.declared.Row.{Row}
use Rattle.sets.specs.Mask.{mem, Has}
use Rattle.tables.specs.Tables.{row_in}
use Rattle.bars.specs.Bars.{mask_in}

abbrev pub list_room : ℕ
list_room = 32

unfoldable pub gone_in : ℕ → List ℕ → ℕ → ℕ → Bool
gone_in k pred w v = leb k w and mem (get_or pred w 0) v

unfoldable pub lists_in : List ℕ → List ℕ → List ℕ → List ℕ → ℕ → Row → ℕ → Bool
lists_in t eq succ pred k r v = mem (mask_in t eq succ pred r) v and non (gone_in k pred r.writer v)

pub record Entry (between readers writers : List ℕ) (i r w v : ℕ) : Type 0 where
  pub reader : get_or readers i 0 ≡ r
  pub writer : get_or writers i 0 ≡ w
  pub has : Has (get_or between i 0) v

pub record Listed (t eq succ pred q : List ℕ) (k m n : ℕ) (between readers writers : List ℕ) : Type 0 where
  pub few : n ≤ list_room
  pub from_row : (i : ℕ) → i < n → (v : ℕ) → Has (get_or between i 0) v
      → (j : ℕ) × (j < m) × Entry between readers writers i (row_in q j).reader (row_in q j).writer v × (lists_in t eq succ pred k (row_in q j) v ≡ true)
  pub each_row : n < list_room → (j : ℕ) → j < m → (v : ℕ) → lists_in t eq succ pred k (row_in q j) v ≡ true
      → (i : ℕ) × (i < n) × Entry between readers writers i (row_in q j).reader (row_in q j).writer v

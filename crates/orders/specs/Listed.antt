-- A short list of bars: entry i has the bars (readers[i], writers[i], v), for each v of the set between[i]. Laws: proofs/ListedLaws.antt.
--     list_room                                how many entries a list has room for
--     Lists .. i r w v                        entry i has the bar (r, w, v)
--     listed_bars between readers writers n    the table of the bars of the first n entries: at v * slots + w the set of the readers
-- Assumes nothing.
use Rattle.std.specs.Prelude.{◌≡◌, List, ℕ, ◌*◌, ◌%◌, get_or, replicate}
use Rattle.sets.specs.Mask.{slots, Has}
use Rattle.cells.specs.Walk.{up_to}
use Rattle.cells.specs.Cells.{spread}

abbrev pub list_room : ℕ
list_room = 32

-- an event counts by its place among the slots
pub record Lists (between readers writers : List ℕ) (i r w v : ℕ) : Type 0 where
  pub member : Has (get_or between i 0) v
  pub writer : get_or writers i 0 % slots ≡ w
  pub reader : get_or readers i 0 % slots ≡ r

abbrev pub add_listed : List ℕ → List ℕ → List ℕ → ℕ → List ℕ → List ℕ
add_listed between readers writers i bars = spread bars (get_or between i 0) (get_or writers i 0 % slots) (get_or readers i 0 % slots)

unfoldable pub listed_bars : List ℕ → List ℕ → List ℕ → ℕ → List ℕ
listed_bars between readers writers n = up_to (add_listed between readers writers) n (replicate (slots * slots) 0)

-- The writers that have bars with an event, over a table of masks, whatever it holds: bars[v * 32 + w] is the set of the r with a bar (r, w, v).
-- Laws: proofs/WritersLaws.antt. Assumes nothing.
--     bar_at bars v w              the set of the r with a bar (r, w, v)
--     Readers m bars v c          c has every r that has a bar (r, w, v) with w below m
--     Writers m bars v c          c is the set of the w below m that have a bar (r, w, v)
--     Gathers m bars ws ws'       ws'[v] is that set for each v below m that has a place, and the others are as they were
use Rattle.std.specs.Prelude.{ℕ, ◌+◌, ◌*◌, ◌<◌, ◌≡◌, List, length, get_or, drop}
use Rattle.sets.specs.Mask.{slots, Has}

abbrev pub bar_at : List ℕ → ℕ → ℕ → ℕ
bar_at bars v w = get_or bars (v * slots + w) 0

abbrev pub Readers : ℕ → List ℕ → ℕ → ℕ → Type 0
Readers m bars v c = (w r : ℕ) → w < m → Has (bar_at bars v w) r → Has c r

pub record Writers (m : ℕ) (bars : List ℕ) (v c : ℕ) : Type 0 where
  pub only : (w : ℕ) → Has c w → w < m
  pub some : (w : ℕ) → Has c w → bar_at bars v w ≡ 0 → ⊥
  pub all : (w r : ℕ) → w < m → Has (bar_at bars v w) r → Has c w

pub record Gathers (m : ℕ) (bars writers writers' : List ℕ) : Type 0 where
  pub size : length writers' ≡ length writers
  pub each : (v : ℕ) → v < m → v < length writers → Writers m bars v (get_or writers' v 0)
  pub rest : drop m writers' ≡ drop m writers

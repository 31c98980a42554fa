-- The bars of a table as a list (02 §8). Laws: proofs/BarsLaws.antt. Assumes nothing.
--     has_bar m bars b        the table has the bar b, its W and its V among the first m events
--     table_bars m bars       all of them, once each, rising by (R, W, V)
--     bytes_of l              three bytes a bar: R, W, V
--     before_in m before      what has to come before what, as a test: before[b] is the mask of the a that have to come before b
--     Placeable m before k l     with the bars of l and no others, all events can be placed one at a time, from the set of the first k on
use Rattle.std.specs.Prelude.{ℕ, Bool, List, [], ◌∷◌, ltb, get_or}
use Rattle.basis.specs.Test.{◌and◌, those}
use Rattle.sets.specs.Mask.{slots, mem}
use Rattle.gather.specs.Writers.{bar_at}
use Rattle.orders.specs.Posed.{Triple, triples, posed}
use Rattle.orders.specs.Step.{Below, Runs}

unfoldable pub has_bar : ℕ → List ℕ → Triple → Bool
has_bar m bars b = ltb b.1.0 m and ltb b.1.1 m and mem (bar_at bars b.1.1 b.1.0) b.0

-- 02 §8: "List all bars once each, rising by (R, W, V)."
abbrev pub table_bars : ℕ → List ℕ → List Triple
table_bars m bars = those (has_bar m bars) (triples slots)

-- 02 §8: "three bytes a bar"
unfoldable pub bytes_of : List Triple → List ℕ
bytes_of [] = []
bytes_of (b ∷ l) = b.0 ∷ b.1.0 ∷ b.1.1 ∷ bytes_of l

unfoldable pub before_in : ℕ → List ℕ → ℕ → ℕ → Bool
before_in m before a b = ltb b m and mem (get_or before b 0) a

abbrev pub Placeable : ℕ → List ℕ → ℕ → List Triple → Type 0
Placeable m before k l = (o : List ℕ) × Runs (posed m (before_in m before) l) (Below k) o

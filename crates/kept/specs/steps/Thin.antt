-- What the steps of the walk promise, on tables. Laws: proofs/ThinLaws.antt. Assumes nothing.
--     Wide bars             each mask is one of the machine's
--     cell i                the place of the mask of the bar's W and V
--     without bars i        the table without the bar i
--     LeavesBy ..           the bars with these numbers leave an order
--     Tried ..              one turn: the bar is idle, dropped, or needed
--     Turn ..               the same, and a clean scratch stays as it is
--     Thinned ..            all turns: what is left is what the walk keeps
use Rattle.std.specs.Prelude.{ℕ, ◌-◌, ◌*◌, ◌+◌, ◌^◌, ◌<◌, ◌≡◌, true, List, [], get_or, set}
use Rattle.basis.specs.Test.{each}
use Rattle.sets.specs.Mask.{slots, remove}
use Rattle.marks.specs.Table.{bytes_for, cleared}
use Rattle.orders.specs.Step.{Below, Runs, Dead}
use Rattle.orders.specs.Tables.{tabled}
use Rattle.kept.specs.Bars.{Placeable}
use Rattle.kept.specs.Kept.{Walk}
use Rattle.kept.specs.steps.Numbers.{reader_of, writer_of, between_of, triple_of, mask_at, bar_numbers}
use Rattle.kept.specs.steps.Idle.{is_idle}

abbrev pub Wide : List ℕ → Type 0
Wide bars = (j : ℕ) → get_or bars j 0 < 2 ^ slots

abbrev pub cell : ℕ → ℕ
cell i = between_of i * slots + writer_of i

unfoldable pub without : List ℕ → ℕ → List ℕ
without bars i = set bars (cell i) (remove (mask_at bars i) (reader_of i))

abbrev pub LeavesBy : ℕ → List ℕ → ℕ → List ℕ → Type 0
LeavesBy m before k l = Placeable m before k (each triple_of l)

pub data Tried (k m : ℕ) (before bars : List ℕ) (i : ℕ) : List ℕ → Type 0 where
  idled : is_idle k before i ≡ true → Tried k m before bars i (without bars i)
  dropped : Dead (tabled m before (without bars i)) (Below k) → Tried k m before bars i (without bars i)
  needed : (l : List ℕ) → Runs (tabled m before (without bars i)) (Below k) l → Tried k m before bars i bars

pub record Turn (k m : ℕ) (before bars : List ℕ) (i : ℕ) (scratch bars' scratch' : List ℕ) : Type 0 where
  pub tried : Tried k m before bars i bars'
  pub clean : scratch ≡ cleared (bytes_for (m - k)) scratch → scratch' ≡ scratch

abbrev pub Thinned : ℕ → ℕ → List ℕ → List ℕ → List ℕ → Type 0
Thinned k m before bars bars' = Walk (LeavesBy m before k) [] (bar_numbers m bars) (bar_numbers m bars')

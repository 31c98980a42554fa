-- `sift::pass` meets its contract: of the first j rows none is amiss, and they are listed. The measure is what is left. Assumes nothing.
use mathlib.Core.Path.{◌≡◌}
use mathlib.Core.List.{List}
use Prim.Native.Nat.{ℕ, ◌-◌, ◌<◌, ◌≤◌}
use lib.ListN.{length}
use Rattle.tables.specs.Tables.{row_room}
use Rattle.torn.specs.steps.Noticed.{Among}
use Rattle.bars.specs.Listed.{list_room, Listed}
use Rattle.bars.proofs.ListedLaws.{Had}
use Rattle.sift.specs.Clean.{last_in, run_in, AmissAt}
use Rattle.sift.specs.steps.Alikes.{Agrees}
use Rattle.sift.proofs.pass.Given as goal

abbrev pub invariant-loop-j : goal.invariant-loop-j
invariant-loop-j l =
    (l.j ≤ l.m) × (l.m ≤ row_room) × (Among l.j (AmissAt l.t l.succ l.pred l.far l.bytes l.q) → ⊥) × (l.last_reader ≡ last_in l.q l.j) × (l.wholes ≡ run_in l.t l.q l.j)
    × ((eqs : List ℕ) → Agrees l.t l.eq eqs → Listed l.t eqs l.succ l.pred l.q l.k l.j l.n l.between l.readers l.writers × (l.n < list_room → Had l.last l.last_reader l.last_writer l.n l.between l.readers l.writers))
    × (length l.between ≡ list_room) × (length l.readers ≡ list_room) × (length l.writers ≡ list_room)

abbrev pub decreases-loop-j : goal.decreases-loop-j
decreases-loop-j l = l.m - l.j

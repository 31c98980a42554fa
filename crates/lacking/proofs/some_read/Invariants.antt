-- `lacking::some_read` meets its contract. The invariant: the answer is the answer from the next place on. Assumes nothing.
use Rattle.std.proofs.Common.{◌≡◌, ℕ, Bool, List, take, drop}
use Rattle.basis.specs.Test.{any}
use Rattle.format.specs.Event.{reads_some}
use Rattle.entries.specs.Entries.{event_at}
use Rattle.lacking.proofs.some_read.Given as goal

-- the event at a place reads
abbrev pub reads_here : List ℕ → ℕ → ℕ → Bool
reads_here s edition p = reads_some (event_at s edition p)

abbrev pub invariant-loop-p : goal.invariant-loop-p
invariant-loop-p l = any (reads_here l.s l.edition) (take l.n l.at) ≡ any (reads_here l.s l.edition) (drop l.p-index (take l.n l.at))

-- `fits::blocked` meets its contract. The invariant: the answer is the answer from the next place on. Assumes nothing.
use Rattle.std.proofs.Common.{◌≡◌, ℕ, Bool, List, take, drop}
use Rattle.basis.specs.Test.{any}
use Rattle.format.specs.declared.Shape.{Shape}
use Rattle.entries.specs.Entries.{event_at}
use Rattle.fits.specs.steps.ByNumber.{blocks}
use Rattle.fits.proofs.blocked.Given as goal

-- the event at a place blocks an init of shape a
abbrev pub blocks_here : List ℕ → ℕ → Shape → ℕ → Bool
blocks_here s edition a p = blocks a (event_at s edition p)

abbrev pub invariant-loop-p : goal.invariant-loop-p
invariant-loop-p l = any (blocks_here l.s l.edition l.a) (take l.n l.at) ≡ any (blocks_here l.s l.edition l.a) (drop l.p-index (take l.n l.at))

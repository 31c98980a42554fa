-- `puts::fits` meets its contract. The invariant: `end` is the place after the events so far, and within the limit. Assumes nothing.
use Rattle.std.proofs.Common.{◌≡◌, ◌+◌, ◌≤◌, length, take}
use Rattle.puts.specs.Numbers.{events_text}
use Rattle.puts.proofs.fits.Given as goal

abbrev pub invariant-loop-e : goal.invariant-loop-e
invariant-loop-e l = (l.end ≡ l.at + length (events_text (take l.e-index l.events))) × (l.end ≤ l.limit)

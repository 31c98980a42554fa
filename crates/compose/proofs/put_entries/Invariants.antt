-- `compose::put_entries` meets its contract. The invariant is the contract at the place reached: the first i entries are put. Assumes nothing.
use mathlib.Core.List.{List}
use Prim.Native.Nat.{ℕ}
use Rattle.basis.specs.Test.{each, from}
use Rattle.puts.specs.Put.{Puts}
use Rattle.encode.specs.Encode.{run}
use Rattle.encode.specs.Lent.{part}
use Rattle.compose.proofs.put_entries.Given as goal

abbrev pub invariant-loop-i : goal.invariant-loop-i
invariant-loop-i l = Puts (run l.tag (λ (v : List ℕ). v) (each (part l.gap l.list) (from 0 l.i))) l.at l.next l.initial.out l.out

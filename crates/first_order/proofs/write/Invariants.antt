-- `first_order::write` meets its contract: the first i places are written. Assumes nothing.
use mathlib.Core.Path.{◌≡◌}
use mathlib.Core.List.{◌++◌}
use lib.Seq.{paste}
use Rattle.basis.specs.Test.{from}
use Rattle.first_order.proofs.write.Given as goal

abbrev pub invariant-loop-i : goal.invariant-loop-i
invariant-loop-i l = l.e-items ≡ paste l.initial.e-items 0 (from 0 l.k ++ l.path) l.i

-- `tell::count` meets its contract. The invariant: the events placed are the first n, and those of the rest.
-- Assumes nothing.
use mathlib.Core.Path.{◌≡◌}
use mathlib.Core.List.{◌++◌}
use lib.ListN.{take, drop}
use Rattle.tell.specs.JudgedLine.{placed}
use Rattle.tell.proofs.count.Given as goal

abbrev pub invariant-loop-n : goal.invariant-loop-n
invariant-loop-n l = placed l.order ≡ take l.n l.order ++ placed (drop l.n l.order)

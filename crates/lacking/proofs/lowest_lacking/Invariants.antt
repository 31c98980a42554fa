-- `lacking::lowest_lacking` meets its contract. The invariant: the lowest event that lacks a row is the lowest from event e on. Assumes nothing.
use Rattle.std.proofs.Common.{◌≡◌, length, min, drop}
use Rattle.basis.specs.Test.{find, from}
use Rattle.lacking.proofs.LackingLaws.{lacks_no}
use Rattle.lacking.proofs.lowest_lacking.Given as goal

abbrev pub invariant-loop-e : goal.invariant-loop-e
invariant-loop-e l = find (lacks_no l.s l.x l.at) (from 0 (min l.x.events (length l.at))) ≡ find (lacks_no l.s l.x l.at) (drop l.e (from 0 (min l.x.events (length l.at))))

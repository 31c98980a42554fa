-- `lacking::has_row` meets its contract. The invariant: the answer is the answer from row j on. Assumes nothing.
use Rattle.std.proofs.Common.{◌≡◌, drop}
use Rattle.basis.specs.Test.{any}
use Rattle.parse.specs.Parse.{is_row}
use Rattle.entries.specs.Entries.{rows_in}
use Rattle.lacking.proofs.has_row.Given as goal

abbrev pub invariant-loop-j : goal.invariant-loop-j
invariant-loop-j l = any (is_row l.e l.n) (rows_in l.s l.x) ≡ any (is_row l.e l.n) (drop l.j (rows_in l.s l.x))

-- `lacking::lacks_from` meets its contract. The invariant: the answer is the answer from byte i on. Assumes nothing.
use Rattle.std.proofs.Common.{◌≡◌, ℕ, Bool, List, drop}
use Rattle.basis.specs.Test.{any, from, non}
use Rattle.entries.specs.declared.Counts.{Counts}
use Rattle.parse.specs.Parse.{is_row}
use Rattle.entries.specs.Entries.{rows_in}
use Rattle.lacking.proofs.lacks_from.Given as goal

-- byte n of event e has no row
abbrev pub bare : List ℕ → Counts → ℕ → ℕ → Bool
bare s x e n = non (any (is_row e n) (rows_in s x))

abbrev pub invariant-loop-i : goal.invariant-loop-i
invariant-loop-i l = any (bare l.s l.x l.e) (from l.start l.width) ≡ any (bare l.s l.x l.e) (drop l.i (from l.start l.width))

-- `rules::writer_in` meets its contract: of what is left nothing is known yet. Assumes nothing.
use Rattle.std.proofs.Common.{ℕ}
use Rattle.tables.specs.Tables.{writes_in}
use Rattle.cells.proofs.FirstLaws.{Left}
use Rattle.rules.proofs.writer_in.Given as goal

abbrev pub invariant-loop-v : goal.invariant-loop-v
invariant-loop-v l = Left (λ (v : ℕ). writes_in l.t v l.a) l.m l.v-iterator.left

-- `take_row::wrote_at` meets its contract: the place of the byte in the sheet. Assumes nothing.
use mathlib.Core.Path.{ap, ◌∙◌}
use Prim.Native.Nat.{ℕ}
use native.Mathlib.Omega.{arith}
use lib.ListN.{get_or}
use Rattle.take_row.proofs.wrote_at.Goals as goal

pub returns : goal.returns
returns c = let e = c.event_bytes.ensures in let f = c.passed.ensures in c.byte.ensures ∙ ap (λ (i : ℕ). get_or c.args.s.now i 0) (omega arith)

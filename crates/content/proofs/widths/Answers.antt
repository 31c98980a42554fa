-- `content::widths` meets its contract: what stands in the table at each kind and mode. Assumes nothing.
use Prim.Native.Nat.{◌%◌}
use native.Mathlib.Omega.{arith}
use Rattle.content.proofs.WidthsLaws.{table_at}
use Rattle.content.proofs.widths.Goals as goal

pub returns : goal.returns
returns c = table_at (c.args.kind % 8) (c.args.mode % 4) (omega arith) (omega arith)

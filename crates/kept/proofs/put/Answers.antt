-- `kept::put` meets its contract: beyond the end nothing is changed. Assumes nothing.
use mathlib.Core.Path.{sym}
use native.Mathlib.Omega.{arith}
use lib.Seq.{set_out}
use Rattle.kept.proofs.put.Goals as goal

pub returns-else-at-bars : goal.returns-else-at-bars
returns-else-at-bars c = sym (set_out c.args.bars.now _ c.args.mask (omega arith))

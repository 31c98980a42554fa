-- `store::put` meets its contract: beyond the end nothing is written. Assumes nothing.
use mathlib.Core.Path.{sym}
use lib.Seq.{set_out}
use Rattle.store.proofs.put.Goals as goal

pub returns-else-i-bytes : goal.returns-else-i-bytes
returns-else-i-bytes c = let a = c.args in sym (set_out a.bytes.now a.i _ c.if-i-bytes.false)

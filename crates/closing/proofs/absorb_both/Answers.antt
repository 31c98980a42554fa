-- `closing::absorb_both` meets its contract: the two rows as they are. Assumes nothing.
use mathlib.Core.Path.{ap₂}
use lib.Bits.{bit_or}
use Rattle.closing.proofs.absorb_both.Goals as goal

pub returns : goal.returns
returns c = ap₂ bit_or c.absorb.ensures c.absorb-2.ensures

-- A clash of two accesses (`clashing`, specs/Settle.antt) in two halves: what is tested of every pair, and the rest. Laws: proofs/NearLaws.antt.
--     nearing a b      each begins before the other ends, and one has a kind with bit 1, as those that write have
--     wanting a b      neither is empty, one writes, and they are not both sc with equal ranges
-- Assumes nothing.
use Rattle.std.specs.Prelude.{◌+◌, Bool, bit_or, nat_lt}
use Rattle.basis.specs.Test.{◌and◌, ◌or◌, non}
use Rattle.format.specs.declared.Shape.{Shape}
use Rattle.format.specs.Shape.{writes, both_sc}
use Rattle.sets.specs.Mask.{mem}

unfoldable pub nearing : Shape → Shape → Bool
nearing a b = (nat_lt a.start (b.start + b.width) and nat_lt b.start (a.start + a.width)) and mem (bit_or a.kind b.kind) 1

unfoldable pub wanting : Shape → Shape → Bool
wanting a b = (nat_lt 0 a.width and nat_lt 0 b.width) and ((writes a or writes b) and non (both_sc a b))

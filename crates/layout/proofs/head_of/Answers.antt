-- `layout::head_of` meets its contract by what the bytes are. Assumes nothing.
use Rattle.layout.proofs.head_of.Goals as goal

pub returns : goal.returns
returns c = simp (c.byte.ensures, c.byte-2.ensures, c.byte-3.ensures)

-- `layout::shape_of` meets its contract by what the bytes are. Assumes nothing.
use Rattle.layout.proofs.shape_of.Goals as goal

pub returns : goal.returns
returns c = simp (c.tear_by.ensures, c.byte-kind.ensures, c.byte-mode.ensures, c.byte-start.ensures, c.byte-width.ensures, c.byte-sixth.ensures)

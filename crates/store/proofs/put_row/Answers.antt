-- `store::put_row` meets its contract, byte by byte. Assumes nothing.
use Rattle.store.proofs.put_row.Goals as goal

pub returns : goal.returns
returns c = simp (c.put-5.ensures, c.put-4.ensures, c.put-3.ensures, c.put-2.ensures, c.put.ensures)

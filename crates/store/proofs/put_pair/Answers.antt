-- `store::put_pair` meets its contract, write by write. Assumes nothing.
use Rattle.store.proofs.put_pair.Goals as goal

pub returns : goal.returns
returns c = simp (c.put-2.ensures, c.put.ensures)

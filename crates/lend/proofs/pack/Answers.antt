-- `lend::pack` meets its contract: in each arm the case of the answer is known. Assumes nothing.
use Rattle.lend.proofs.pack.Goals as goal

pub returns-in-Ok : goal.returns-in-Ok
returns-in-Ok c = rw c.in-Ok.is

pub returns-in-Err : goal.returns-in-Err
returns-in-Err c = rw (c.in-Err.is, c.word.ensures)

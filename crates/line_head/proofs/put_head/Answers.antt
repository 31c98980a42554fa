-- `line_head::put_head` meets its contract: in each arm the case of the answer is known, and the callee puts its text. Assumes nothing.
use Rattle.line_head.proofs.put_head.Goals as goal

pub returns-in-Refused : goal.returns-in-Refused
returns-in-Refused c = rw c.in-Refused.is c.put_refused.ensures

pub returns-in-Broken : goal.returns-in-Broken
returns-in-Broken c = rw c.in-Broken.is c.put_broken.ensures

pub returns-in-Consistent : goal.returns-in-Consistent
returns-in-Consistent c = rw c.in-Consistent.is c.put_settled.ensures

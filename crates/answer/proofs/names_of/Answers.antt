-- `answer::names_of` meets its contract: in each arm the case of the names is known, and both sides compute. Assumes nothing.
use Rattle.answer.proofs.names_of.Goals as goal

pub returns-in-Row : goal.returns-in-Row
returns-in-Row c = rw c.in-Row.is

pub returns-in-Event : goal.returns-in-Event
returns-in-Event c = rw c.in-Event.is

pub returns-in-Between : goal.returns-in-Between
returns-in-Between c = rw c.in-Between.is

pub returns-in-Torn : goal.returns-in-Torn
returns-in-Torn c = rw c.in-Torn.is

pub returns-in-Nobody : goal.returns-in-Nobody
returns-in-Nobody c = rw c.in-Nobody.is

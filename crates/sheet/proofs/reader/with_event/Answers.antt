-- `sheet::reader::with_event` meets its contract, by the agent. Assumes nothing.
use borrow.Author.Tests.{eq-eqb, ne_eqb}
use Rattle.sheet.proofs.reader.with_event.Goals as goal

pub returns-then-agent-eq0 : goal.returns-then-agent-eq0
returns-then-agent-eq0 c = simp (eq-eqb _ _ c.if-agent-eq0.true)

pub returns : goal.returns
returns c = simp (ne_eqb _ _ c.if-agent-eq0.false)

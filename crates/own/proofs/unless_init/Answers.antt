-- `own::unless_init` meets its contract, by the agent. Assumes nothing.
use mathlib.Core.Path.{sym, ap}
use mathlib.Core.Bool.{Bool, cond}
use borrow.Author.Tests.{eq-eqb, ne_eqb}
use Rattle.own.proofs.unless_init.Goals as goal

pub returns-then-agent-eq0 : goal.returns-then-agent-eq0
returns-then-agent-eq0 c = sym (ap (λ (b : Bool). cond b 0 c.args.m) (eq-eqb c.args.agent 0 c.if-agent-eq0.true))

pub returns-else-agent-eq0 : goal.returns-else-agent-eq0
returns-else-agent-eq0 c = sym (ap (λ (b : Bool). cond b 0 c.args.m) (ne_eqb c.args.agent 0 c.if-agent-eq0.false))

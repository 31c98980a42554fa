-- `faults::plain_head` meets its contract: test by test; what passes is a head without a fault. Assumes nothing.
use mathlib.Core.Bool.{not}
use mathlib.Core.Path.{ap}
use Rattle.faults.proofs.PlainLaws.{head_same, head_not, head_all}
use Rattle.faults.proofs.plain_head.Goals as goal

pub returns-then-not-here : goal.returns-then-not-here
returns-then-not-here c = head_not c.args.s.now _ (head_same c.args.s.now c.length_at.result c.byte.result c.length_at.ensures c.byte.ensures) (ap not c.if-not-here.true)

pub returns : goal.returns
returns c = rw c.is_ok.ensures.value (head_all c.args.s.now _ (head_same c.args.s.now c.length_at.result c.byte.result c.length_at.ensures c.byte.ensures) (ap not c.if-not-here.false) c.head_fault.result (rw c.value_at-v.ensures at c.head_fault.ensures))

-- `before::gained` meets its contract, by the test. Assumes nothing.
use mathlib.Core.Path.{sym, ap}
use mathlib.Core.Bool.{Bool, cond}
use lib.Bits.{bit_or}
use Rattle.before.proofs.gained.Goals as goal

pub returns-then-test : goal.returns-then-test
returns-then-test c = sym (ap (λ (b : Bool). cond b (bit_or c.args.y c.args.x) c.args.y) c.if-test.true)

pub returns-else-test : goal.returns-else-test
returns-else-test c = sym (ap (λ (b : Bool). cond b (bit_or c.args.y c.args.x) c.args.y) c.if-test.false)

-- `puts::width` meets its contract: a byte from 10 on has one digit more than its tenth, at most twice. Assumes nothing.
use mathlib.Core.Path.{sym, ap}
use Prim.Native.Nat.{◌/◌}
use native.Mathlib.Omega.{arith}
use lib.ListN.{length}
use Rattle.puts.proofs.DecimalLaws.{decimal_less, length_more}
use Rattle.puts.proofs.width.Goals as goal

pub returns-then-x-lt10 : goal.returns-then-x-lt10
returns-then-x-lt10 c = sym (ap length (decimal_less c.args.x c.if-x-lt10.true))

pub returns-then-x-lt100 : goal.returns-then-x-lt100
returns-then-x-lt100 c = let x = c.args.x in omega (arith, length_more x c.if-x-lt10.false, ap length (decimal_less (x / 10) (omega arith)))

pub returns : goal.returns
returns c = let x = c.args.x in omega (arith, length_more x c.if-x-lt10.false, length_more (x / 10) (omega arith), ap length (decimal_less (x / 10 / 10) (omega (arith, c.ranges.x))))

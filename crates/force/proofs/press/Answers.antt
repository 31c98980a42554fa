-- `force::press` meets its contract: what it writes is forced. Assumes nothing.
use Rattle.std.proofs.Common.{arith}
use Rattle.force.proofs.ForcedLaws.{press_first, press_other}
use Rattle.force.proofs.press.Goals as goal

pub returns-then-w-k : goal.returns-then-w-k
returns-then-w-k c =
    press_first c.args.m c.args.k c.args.before.now c.args.bars.now c.requires.0 c.args.w c.args.v (omega (arith, c.requires.2, c.requires.4)) (omega (arith, c.requires.3, c.requires.4)) c.requires.2 c.requires.3 c.requires.1 c.has.result c.has.ensures c.if-w-k.true

pub returns-then-waited : goal.returns-then-waited
returns-then-waited c =
    let s = c.waited.ensures.some c.if-waited.true in
    rw c.with.ensures (press_other c.args.m c.args.k c.args.before.now c.args.bars.now c.requires.0 c.args.w c.args.v (omega (arith, c.requires.2, c.requires.4)) (omega (arith, c.requires.3, c.requires.4)) c.requires.2 c.requires.3 c.has.result c.if-w-k.false c.if-w-v.false s.0 s.1 s.2)

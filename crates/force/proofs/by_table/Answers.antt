-- `force::by_table` meets its contract: what events wait for at first is forced, and stays so. Assumes nothing.
use mathlib.Core.Bool.{false≢true}
use Rattle.std.proofs.Common.{arith}
use Rattle.force.proofs.ForcedLaws.{forces_none, forces_some, numbers_fit, numbers_unfit, forced_led}
use Rattle.force.proofs.by_table.Goals as goal

pub returns-then-m-k : goal.returns-then-m-k
returns-then-m-k c = forces_none (numbers_unfit c.args.k c.args.m c.if-m-k.true)

pub lead-requires : goal.lead-requires
lead-requires c = let f = numbers_fit c.args.k c.args.m c.if-m-k.false in (f.0, f.1, c.clear.ensures)

pub overflow_sub-m : goal.overflow_sub-m
overflow_sub-m c = let f = numbers_fit c.args.k c.args.m c.if-m-k.false in omega (arith, f.0)

pub returns-then-m-k-le-FEW : goal.returns-then-m-k-le-FEW
returns-then-m-k-le-FEW c =
    let a = c.args in
    forces_some (numbers_fit a.k a.m c.if-m-k.false) (record { none = λ z. absurd (false≢true z); still = forced_led a.m a.k a.before.now a.bars.now c.lead.ensures })

pub named-requires : goal.named-requires
named-requires c = (numbers_fit c.args.k c.args.m c.if-m-k.false).1

pub returns-then-not-named : goal.returns-then-not-named
returns-then-not-named c =
    let a = c.args in
    forces_some (numbers_fit a.k a.m c.if-m-k.false) (record { none = λ z. absurd (false≢true z); still = forced_led a.m a.k a.before.now a.bars.now c.lead.ensures })

pub press_on-requires : goal.press_on-requires
press_on-requires c =
    let a = c.args in
    let f = numbers_fit a.k a.m c.if-m-k.false in
    (forced_led a.m a.k a.before.now a.bars.now c.lead.ensures, f.0, f.1, c.named.ensures c.if-not-named.false)

pub returns : goal.returns
returns c = forces_some (numbers_fit c.args.k c.args.m c.if-m-k.false) c.press_on.ensures

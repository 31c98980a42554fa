-- `force::by_list` meets its contract: what events wait for at first is forced, and stays so. Assumes nothing.
use Rattle.orders.specs.Listed.{listed_bars}
use Rattle.force.proofs.ForcedLaws.{forces_none, forces_some, forced_led}
use Rattle.force.proofs.PressLaws.{list_fits, list_unfit}
use Rattle.force.proofs.by_list.Goals as goal

pub returns-then-m-k : goal.returns-then-m-k
returns-then-m-k c = forces_none (list_unfit c.args.k c.args.m c.args.n c.if-m-k.true)

pub lead-requires : goal.lead-requires
lead-requires c = let f = list_fits c.args.k c.args.m c.args.n c.if-m-k.false in (f.0, f.1, c.clear.ensures)

pub press_list_on-requires : goal.press_list_on-requires
press_list_on-requires c =
    let a = c.args in
    let f = list_fits a.k a.m a.n c.if-m-k.false in
    (forced_led a.m a.k a.before.now (listed_bars a.between.now a.readers.now a.writers.now a.n) c.lead.ensures, f.0, f.1, f.2)

pub returns : goal.returns
returns c = forces_some (list_fits c.args.k c.args.m c.args.n c.if-m-k.false) c.press_list_on.ensures

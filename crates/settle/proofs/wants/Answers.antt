-- `settle::wants` meets its contract, test by test. Assumes nothing.
use Rattle.settle.proofs.NearLaws.{wants_is}
use Rattle.settle.proofs.wants.Goals as goal

pub returns : goal.returns
returns c = wants_is c.args.a c.args.b c.writes.result c.writes-2.result c.both_sc.result c.writes.ensures c.writes-2.ensures c.both_sc.ensures

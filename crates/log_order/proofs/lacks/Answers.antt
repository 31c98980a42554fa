-- `log_order::lacks` meets its contract. Assumes nothing.
use Rattle.log_order.proofs.MasksLaws.{lacks_is}
use Rattle.log_order.proofs.lacks.Goals as goal

pub returns : goal.returns
returns c =
    lacks_is c.args.a c.args.b c.subset.result c.ranges.a.fits c.subset.ensures

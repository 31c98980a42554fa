-- `settle::except` meets its contract, member by member. Assumes nothing.
use Rattle.settle.proofs.BehindLaws.{except_is}
use Rattle.std.proofs.Common.{rules}
use Rattle.settle.proofs.except.Goals as goal

pub returns : goal.returns
returns c = except_is c.args.s c.args.row (search rules) (search rules)

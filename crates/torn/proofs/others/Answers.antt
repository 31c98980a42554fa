-- `torn::others` meets its contract. Assumes nothing.
use Rattle.std.proofs.Common.{◌+◌, ◌%◌, arith}
use Rattle.torn.proofs.DoubledLaws.{others_marks}
use Rattle.torn.proofs.others.Goals as goal

pub returns : goal.returns
returns c = others_marks c.args.m ((c.args.m + 4294967295) % 4294967296) (omega arith) (omega arith) (omega arith)

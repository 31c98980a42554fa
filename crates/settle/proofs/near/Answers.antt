-- `settle::near` meets its contract: bit 31 of each of the three is one of the three tests. Assumes nothing.
use Rattle.std.proofs.Common.{◌+◌, ◌-◌, ◌%◌, ◌∙◌, rules, arith}
use Rattle.settle.proofs.NearLaws.{near_is}
use Rattle.settle.proofs.near.Goals as goal

pub returns : goal.returns
returns c = c.has.ensures ∙ near_is c.args.a c.args.b ((c.args.a.start + (4294967296 - (c.args.b.start + c.args.b.width))) % 4294967296) ((c.args.b.start + (4294967296 - (c.args.a.start + c.args.a.width))) % 4294967296) (search rules) (search rules) (search rules) (search rules) (omega arith) (omega arith) (omega arith) (omega arith)

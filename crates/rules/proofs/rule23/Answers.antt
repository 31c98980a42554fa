-- `rules::rule23` meets its contract, by the search. Assumes nothing.
use Rattle.std.proofs.Common.{min, arith}
use Rattle.tables.specs.Tables.{row_room}
use Rattle.rules.proofs.RulesLaws.{rule23_yes, rule23_no}
use Rattle.rules.proofs.rule23.Goals as goal

pub returns-in-Some : goal.returns-in-Some
returns-in-Some c =
    rule23_yes c.args.q.now (min c.args.n row_room) c.in-Some.j (omega arith) c.row-r.result c.row-r.ensures c.args.succ.now c.turned.result c.turned.ensures c.in-Some.is

pub returns : goal.returns
returns c = rule23_no (min c.args.n row_room) c.turned.result c.in_default.is c.args.q.now c.args.succ.now c.turned.ensures

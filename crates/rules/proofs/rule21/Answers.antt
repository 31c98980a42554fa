-- `rules::rule21` meets its contract, by the search. Assumes nothing.
use Rattle.std.proofs.Common.{min, arith}
use Rattle.tables.specs.Tables.{row_room}
use Rattle.rules.proofs.RulesLaws.{rule21_yes, rule21_no}
use Rattle.rules.proofs.rule21.Goals as goal

pub returns-in-Some : goal.returns-in-Some
returns-in-Some c =
    rule21_yes c.args.q.now (min c.args.n row_room) c.in-Some.j (omega arith) c.row-r.result c.row-r.ensures c.unlike.result c.unlike.ensures c.in-Some.is

pub returns : goal.returns
returns c = rule21_no (min c.args.n row_room) c.unlike.result c.in_default.is c.args.q.now c.unlike.ensures

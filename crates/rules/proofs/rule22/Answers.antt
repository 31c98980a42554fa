-- `rules::rule22` meets its contract, by the search. Assumes nothing.
use Rattle.std.proofs.Common.{min, arith}
use Rattle.sets.specs.Mask.{slots}
use Rattle.cells.proofs.FirstLaws.{some_is}
use Rattle.rules.specs.Rules.{cyclic_in}
use Rattle.rules.proofs.RulesLaws.{rule22_yes, rule22_no}
use Rattle.rules.proofs.rule22.Goals as goal

pub overflow_cast-names : goal.overflow_cast-names
overflow_cast-names c = let k = (some_is (cyclic_in c.args.succ.now) (min c.args.n slots) c.cyclic.result c.in-Some.e c.cyclic.ensures c.in-Some.is).1 in omega arith

pub returns-in-Some : goal.returns-in-Some
returns-in-Some c = rule22_yes c.args.succ.now (min c.args.n slots) c.in-Some.e c.cyclic.result c.cyclic.ensures c.in-Some.is

pub returns : goal.returns
returns c = rule22_no (min c.args.n slots) c.cyclic.result c.in_default.is c.args.succ.now c.cyclic.ensures

-- `why::weigh` meets its contract: a rule of 21 to 25, or what is found of the bars. Assumes nothing.
use Rattle.why.proofs.ExplainedLaws.{explained_broken, explained_found}
use Rattle.why.proofs.weigh.Goals as goal

pub returns-in-Err : goal.returns-in-Err
returns-in-Err c = explained_broken c.requires.0.1.handed c.requires.0.1.events c.requires.0.1.rows c.rule-rule.ensures c.requires.1 c.requires.2 c.in-Err.is c.clear.ensures

pub returns-in-Ok : goal.returns-in-Ok
returns-in-Ok c = explained_found c.requires.0.1.handed c.requires.0.1.events c.requires.0.1.rows c.rule-rule.ensures c.requires.1 c.requires.2 c.in-Ok.is c.seek-found.ensures c.told.ensures

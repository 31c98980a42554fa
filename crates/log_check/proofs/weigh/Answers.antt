-- `log_check::weigh` meets its contract: a rule of 21 to 25, or what is said of the list. Assumes nothing.
use Rattle.log_check.proofs.CheckedLaws.{checked_broken, checked_list}
use Rattle.log_check.proofs.weigh.Goals as goal

pub returns-in-Err : goal.returns-in-Err
returns-in-Err c = checked_broken c.requires.1.handed c.requires.1.events c.requires.1.rows c.rule-rule.ensures c.in-Err.is

pub returns-in-Ok : goal.returns-in-Ok
returns-in-Ok c = checked_list c.requires.1.handed c.requires.1.events c.requires.1.rows c.rule-rule.ensures c.in-Ok.is c.args.list.now c.check.ensures

-- `weigh::weigh` meets its contract: a rule of 21 to 25, or what is said of the order that was sought. Assumes nothing.
use mathlib.Core.Path.{◌≡◌, refl, ap}
use Rattle.answer.specs.Rules.{Rule, unbreached}
use Rattle.prepare.specs.Prepared.{rule_of}
use Rattle.prepare.proofs.PreparedLaws.{readied_listed}
use Rattle.arrange.proofs.ArrangedLaws.{arranged_said}
use Rattle.weigh.proofs.WeighedLaws.{weighed_broken, weighed_kept}
use Rattle.weigh.proofs.weigh.Goals as goal

pub seek-found-requires : goal.seek-found-requires
seek-found-requires c = readied_listed c.ready-ready.ensures c.in-Ok.is

pub returns-in-Err : goal.returns-in-Err
returns-in-Err c = weighed_broken c.ready-ready.ensures.ruled (ap rule_of c.in-Err.is) c.clear.ensures

pub returns-in-Ok : goal.returns-in-Ok
returns-in-Ok c = weighed_kept c.ready-ready.ensures.ruled (ap rule_of c.in-Ok.is) (arranged_said c.seek-found.ensures c.said.ensures)

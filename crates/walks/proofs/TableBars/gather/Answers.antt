-- `gather` of a table of bars: the writers of each event. Assumes nothing.
use native.Mathlib.Omega.{arith}
use Rattle.orders.proofs.TablesLaws.{gathered}
use Rattle.walks.proofs.TableBars.gather.Goals as goal

pub returns-clause-ready : goal.returns-clause-ready
returns-clause-ready c = λ h. gathered c.args.m c.args.self.now.bars.now _ _ h (omega arith) c.gather.ensures

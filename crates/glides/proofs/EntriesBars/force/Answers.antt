-- `force` of a list of bars, by `force::by_list`. Assumes nothing.
use Rattle.glides.proofs.EntriesBars.force.Goals as goal

pub returns : goal.returns
returns c = λ h. c.by_list.ensures.fit (h.1, h.2, c.args.self.now.few)

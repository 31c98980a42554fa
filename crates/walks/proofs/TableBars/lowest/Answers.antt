-- `lowest` of a table of bars, by `placing::lowest`. Assumes nothing.
use Rattle.walks.proofs.BarsLaws.{found_lowest}
use Rattle.walks.proofs.TableBars.lowest.Goals as goal

pub returns : goal.returns
returns c =
    let a = c.args in
    λ h. found_lowest a.k a.m a.before.now a.self.now.bars.now a.self.now.writers a.s h.1 h.0 c.lowest.result c.lowest.ensures

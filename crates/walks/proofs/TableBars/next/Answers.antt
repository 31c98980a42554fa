-- `next` of a table of bars, by `placing::next`. Assumes nothing.
use Prim.Native.Nat.{◌%◌}
use Rattle.sets.specs.Mask.{slots}
use Rattle.walks.proofs.BarsLaws.{found_next}
use Rattle.walks.proofs.TableBars.next.Goals as goal

pub returns : goal.returns
returns c =
    let a = c.args in
    λ h. found_next (a.k % slots) a.m a.before.now a.self.now.bars.now a.self.now.writers a.s h.1 h.0 a.table.now a.from c.next.result c.next.ensures

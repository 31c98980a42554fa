-- `next` of a list of bars: among those that no entry stops. Assumes nothing.
use Prim.Native.Nat.{◌%◌}
use Rattle.sets.specs.Mask.{slots}
use Rattle.placing.specs.Placing.{is_seen}
use borrow.Author.Rules.{rules}
use Rattle.glides.proofs.GlideLaws.{left_below, found_left}
use Rattle.glides.proofs.EntriesBars.next.Goals as goal

pub next_of-requires : goal.next_of-requires
next_of-requires c = let a = c.args in left_below a.m a.from a.s c.rest.result c.barred.result (search rules) c.rest.ensures

pub returns : goal.returns
returns c =
    let a = c.args in
    let l = a.self.now in
    λ h.
    found_left a.m a.from a.s c.rest.result c.barred.result (search rules) c.rest.ensures a.before.now l.between.now l.readers.now l.writers.now l.n c.barred.ensures h.1 h.2 (is_seen (a.k % slots) a.table.now a.s) c.next_of.result c.next_of.ensures

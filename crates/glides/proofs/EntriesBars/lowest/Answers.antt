-- `lowest` of a list of bars: among those that no entry stops. Assumes nothing.
use mathlib.Core.Bool.{false}
use borrow.Author.Rules.{rules}
use Rattle.glides.proofs.GlideLaws.{left_below, found_left}
use Rattle.glides.proofs.EntriesBars.lowest.Goals as goal

pub lowest_of-requires : goal.lowest_of-requires
lowest_of-requires c = let a = c.args in left_below a.m a.k a.s c.rest.result c.barred.result (search rules) c.rest.ensures

pub returns : goal.returns
returns c =
    let a = c.args in
    let l = a.self.now in
    λ h.
    found_left a.m a.k a.s c.rest.result c.barred.result (search rules) c.rest.ensures a.before.now l.between.now l.readers.now l.writers.now l.n c.barred.ensures h.1 h.2 (λ d. false) c.lowest_of.result c.lowest_of.ensures

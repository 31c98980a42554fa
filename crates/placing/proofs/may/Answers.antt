-- `placing::may` meets its contract: with what it asks, its two tests are the fields of `Free`. Assumes nothing.
use Rattle.basis.proofs.BoolLaws.{not_both_ways}
use Rattle.sets.proofs.TellsLaws.{tells_no, tells_map}
use Rattle.placing.proofs.may.Goals as goal

pub returns-then-not-subset : goal.returns-then-not-subset
returns-then-not-subset c = tells_no (λ h. c.subset.ensures.fails c.if-not-subset.true h.after)

pub returns : goal.returns
returns c =
    tells_map _
    (λ u. record { fresh = λ h. not_both_ways h c.requires.1; after = c.subset.ensures.holds c.if-not-subset.false; clear = u })
    (λ h. h.clear)
    c.unbarred.ensures

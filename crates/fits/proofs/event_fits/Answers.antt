-- `fits::event_fits` meets its contract, test by test. Assumes nothing.
use mathlib.Core.Path.{◌≡◌, sym, ◌∙◌}
use mathlib.Core.Bool.{true, false}
use Rattle.basis.specs.Test.{non}
use Rattle.basis.proofs.BoolLaws.{and_holds, and_fails, or_holds, or_fails, non_holds, non_fails}
use Rattle.format.specs.Shape.{initial}
use Rattle.content.specs.Content.{event_fits, alone}
use Rattle.fits.proofs.event_fits.Goals as goal

pub returns-then-not-alone : goal.returns-then-not-alone
unfolding event_fits
returns-then-not-alone c = sym (and_fails (alone c.args.x.head c.args.agent c.args.a) _ (sym c.alone-alone.ensures ∙ c.if-not-alone.true))

pub returns-then-not-first : goal.returns-then-not-first
unfolding event_fits
returns-then-not-first c =
    let f : initial c.args.a ≡ false = sym c.initial-first.ensures ∙ c.if-not-first.true in
    sym (and_holds (alone c.args.x.head c.args.agent c.args.a) _ (sym c.alone-alone.ensures ∙ c.if-not-alone.false) ∙ or_holds (non (initial c.args.a)) _ (non_holds _ f))

pub returns : goal.returns
unfolding event_fits
returns c =
    let f : initial c.args.a ≡ true = sym c.initial-first.ensures ∙ c.if-not-first.false in
    sym (and_holds (alone c.args.x.head c.args.agent c.args.a) _ (sym c.alone-alone.ensures ∙ c.if-not-alone.false)
    ∙ or_fails (non (initial c.args.a)) _ (non_fails _ f) ∙ sym c.stands_first.ensures)

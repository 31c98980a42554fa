-- `sheet::reader::finish` meets its contract, test by test. Assumes nothing.
use Rattle.std.proofs.Common.{◌≡◌, sym}
use mathlib.Core.Option.{none, some}
use Rattle.basis.specs.Test.{non}
use Rattle.parse.specs.Parse.{lowest_lacking, completed, finish}
use Rattle.entries.specs.Entries.{execution}
use Rattle.spot.proofs.BetweenLaws.{counted_of}
use Rattle.sheet.proofs.CompleteLaws.{place_found}
use borrow.Author.Tests.{eq-eqb, ne_eqb}
use Rattle.sheet.proofs.reader.finish.Goals as goal

pub returns-then-none : goal.returns-then-none
unfolding finish
returns-then-none c = simp (c.at_start.ensures, eq-eqb _ _ c.if-none.true)

pub returns-then-not-some : goal.returns-then-not-some
unfolding finish non
returns-then-not-some c = simp (c.at_end.ensures, (ne_eqb _ _ c.if-none.false), simp c.some_read-some.ensures at c.if-not-some.true)

pub returns-then-lost : goal.returns-then-lost
unfolding finish non
returns-then-lost c = simp (c.at_end-then-lost.ensures, (ne_eqb _ _ c.if-none.false), simp c.some_read-some.ensures at c.if-not-some.false, simp c.missing-lost.ensures at c.if-lost.true)

pub returns-in-None : goal.returns-in-None
unfolding finish non completed
returns-in-None c =
    let l : none ≡ lowest_lacking (execution c.args.s.now c.args.x c.args.at.now) = c.in-None.ensures in
    simp ((ne_eqb _ _ c.if-none.false), simp c.some_read-some.ensures at c.if-not-some.false, simp c.missing-lost.ensures at c.if-lost.false, ← l)

pub returns-in-Some : goal.returns-in-Some
unfolding finish non
returns-in-Some c =
    let l : some c.in-Some.e ≡ lowest_lacking (execution c.args.s.now c.args.x c.args.at.now) = c.in-Some.ensures in
    simp ((ne_eqb _ _ c.if-none.false), simp c.some_read-some.ensures at c.if-not-some.false, simp c.missing-lost.ensures at c.if-lost.false, ← l, c.at_field.ensures, c.place_of.ensures) (place_found c.args.s.now c.args.last c.args.x c.args.at.now _ (counted_of _ _ _ _ _ c.requires.0.between) (sym l))

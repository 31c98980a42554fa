-- `rules::unlike` meets its contract: the search through the rows. Assumes nothing.
use Rattle.std.proofs.Common.{rules, refl, arith, ◌≡◌, ◌%◌, min}
use Rattle.std.proofs.lemmas.Iterator.{first_from_Range}
use borrow.Author.Tests.{tests}
use mathlib.Core.Logic.{◌≢◌}
use Rattle.cells.proofs.FirstLaws.{some_from_range}
use Rattle.tables.specs.Tables.{row_room, seen_in, wrote_in}
use Rattle.rules.specs.Rules.{unlike_in}
use Rattle.rules.proofs.RulesLaws.{unlike_yes, unlike_no}
use Rattle.rules.proofs.unlike.Goals as goal

pub returns : goal.returns
returns c =
    let q = c.args.q.now in
    some_from_range (unlike_in q) (min c.args.n row_room) c.find.result c.least.result (λ k. seen_in q (k % row_room) ≢ wrote_in q (k % row_room)) (λ k. seen_in q (k % row_room) ≡ wrote_in q (k % row_room))
    (first_from_Range _ _ _ c.find.result (λ k. seen_in q (k % row_room) ≢ wrote_in q (k % row_room)) (λ k. seen_in q (k % row_room) ≡ wrote_in q (k % row_room)) c.find.ensures.ran (λ x q k. search (rules, tests)) (λ x q k. search (rules, tests)))
    c.least.ensures
    (λ i h y. unlike_yes q i _ _ (omega arith) refl refl y)
    (λ i h y. unlike_no q i _ _ (omega arith) refl refl y)

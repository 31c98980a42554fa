-- `rules::turned` meets its contract: the search through the rows. Assumes nothing.
use Rattle.std.proofs.Common.{rules, refl, sym, arith, ◌≡◌, ◌∙◌, ◌%◌, min, true, false, get_or}
use Rattle.std.proofs.lemmas.Iterator.{first_from_Range}
use borrow.Author.Tests.{tests}
use Rattle.sets.specs.Mask.{slots, mem}
use Rattle.cells.proofs.FirstLaws.{some_from_range}
use Rattle.tables.specs.Tables.{row_room, row_in}
use Rattle.rules.specs.Rules.{turned_in}
use Rattle.rules.proofs.RulesLaws.{turned_is}
use Rattle.rules.proofs.turned.Goals as goal

pub returns : goal.returns
returns c =
    let q = c.args.q.now in
    let s = c.args.succ.now in
    some_from_range (turned_in q s) (min c.args.n row_room) c.find.result c.least.result
    (λ k. mem (get_or s ((row_in q (k % row_room)).reader % slots) 0) ((row_in q (k % row_room)).writer % slots) ≡ true)
    (λ k. mem (get_or s ((row_in q (k % row_room)).reader % slots) 0) ((row_in q (k % row_room)).writer % slots) ≡ false)
    (first_from_Range _ _ _ c.find.result
    (λ k. mem (get_or s ((row_in q (k % row_room)).reader % slots) 0) ((row_in q (k % row_room)).writer % slots) ≡ true)
    (λ k. mem (get_or s ((row_in q (k % row_room)).reader % slots) 0) ((row_in q (k % row_room)).writer % slots) ≡ false)
    c.find.ensures.ran (λ x q k. search (rules, tests)) (λ x q k. search (rules, tests)))
    c.least.ensures
    (λ i h y. sym (turned_is q i (omega arith) (row_in q (i % row_room)) refl s) ∙ y)
    (λ i h y. sym (turned_is q i (omega arith) (row_in q (i % row_room)) refl s) ∙ y)

-- `rules::cyclic` meets its contract: the search through the events. Assumes nothing.
use Rattle.std.proofs.Common.{rules, sym, arith, ◌≡◌, ◌∙◌, ◌%◌, min, true, false, get_or}
use Rattle.std.proofs.lemmas.Iterator.{first_from_Range}
use borrow.Author.Tests.{tests}
use Rattle.sets.specs.Mask.{slots, mem}
use Rattle.sets.proofs.MaskLaws.{at_slot}
use Rattle.cells.proofs.FirstLaws.{some_from_range}
use Rattle.rules.specs.Rules.{cyclic_in}
use Rattle.rules.proofs.cyclic.Goals as goal

pub returns : goal.returns
unfolding cyclic_in
returns c =
    let s = c.args.succ.now in
    some_from_range (cyclic_in s) (min c.args.n slots) c.find.result c.least.result (λ k. mem (get_or s k 0) (k % slots) ≡ true) (λ k. mem (get_or s k 0) (k % slots) ≡ false)
    (first_from_Range _ _ _ c.find.result (λ k. mem (get_or s k 0) (k % slots) ≡ true) (λ k. mem (get_or s k 0) (k % slots) ≡ false) c.find.ensures.ran (λ x q k. search (rules, tests)) (λ x q k. search (rules, tests)))
    c.least.ensures
    (λ i h y. sym (at_slot (mem (get_or s i 0)) i (omega arith)) ∙ y)
    (λ i h y. sym (at_slot (mem (get_or s i 0)) i (omega arith)) ∙ y)

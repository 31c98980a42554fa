-- `log_order::early` meets its contract: the search through the list. Assumes nothing.
use Rattle.std.proofs.Common.{rules, refl, sym, arith, ◌≡◌, ◌∙◌, ℕ, ◌%◌, ◌<◌, true, false, Bool, List, length, get_or}
use Rattle.std.specs.Prelude.{Option, Some, None, MatchOption}
use Rattle.std.specs.List.{AllWithin, HoldsAt}
use Rattle.std.specs.Int.Bits.{bit_and}
use Rattle.std.proofs.lemmas.Iterator.{IsFirst-from_position, YieldsList-from_slice}
use borrow.Author.Tests.{tests}
use Rattle.sets.specs.Mask.{slots, insert}
use Rattle.cells.specs.First.{first_some}
use Rattle.cells.proofs.FirstLaws.{some_here, some_none}
use Rattle.log_order.specs.steps.Masks.{lacks, late_in}
use Rattle.log_order.proofs.MasksLaws.{late_is}
use Rattle.log_order.proofs.early.Goals as goal

-- `position`, said of the numbers of the list
at_place : (p : ℕ → Bool) (l : List ℕ) (r : Option ℕ) (Yes No : ℕ → Type 0)
    → MatchOption r (AllWithin No l 0 (length l)) (λ (i : ℕ). (i < length l) × HoldsAt Yes l i × AllWithin No l 0 i)
    → ((i : ℕ) → Yes (get_or l i 0) → p i ≡ true) → ((i : ℕ) → No (get_or l i 0) → p i ≡ false) → r ≡ first_some p (length l)
at_place p l (Some j) Yes No m good bad = some_here p (length l) j m.0 (λ d h. bad d (m.2 d 0 (omega arith) h)) (good j (m.1 0))
at_place p l None Yes No m good bad = some_none p (length l) (λ d h. bad d (m d 0 (omega arith) h))

pub returns : goal.returns
returns c =
    let a = c.args in
    let f : ℕ → Bool = λ (x : ℕ). lacks (bit_and (get_or a.pred.now (x % slots) 0) a.all) (insert (get_or a.earlier.now (x % slots) 0) (x % slots % slots)) in
    at_place (late_in a.all a.pred.now a.earlier.now a.list.now) a.list.now c.position.result (λ x. f x ≡ true) (λ x. f x ≡ false)
    (IsFirst-from_position _ _ c.position.result (λ x. f x ≡ true) (λ x. f x ≡ false) c.position.ensures.ran (YieldsList-from_slice a.list.now cc) (λ x q k. search (rules, tests)) (λ x q k. search (rules, tests)))
    (λ i y. sym (late_is a.all a.pred.now a.earlier.now a.list.now i _ refl refl) ∙ y)
    (λ i y. sym (late_is a.all a.pred.now a.earlier.now a.list.now i _ refl refl) ∙ y)

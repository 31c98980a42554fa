-- What is Judged of a sheet is Judged of another, where the definitions say the same of what both describe. Assumes nothing.
--     Same x y           needed bytes, number of events, happens-before, orders, pair; and what breaks no rule in x breaks none in y
--     judged_carried     and the rule that is answered is the one that y breaks first
use mathlib.Core.Path.{◌≡◌, refl, sym, ap, subst, ◌∙◌}
use mathlib.Core.Logic.{inl, inr}
use mathlib.Core.Bool.{Bool, true, false, cond}
use mathlib.Core.List.{List}
use mathlib.Core.Option.{none, some}
use Prim.Native.Nat.{ℕ, ◌≤◌}
use lib.Dec.{ltb}
use lib.ListN.{length, take, drop}
use Rattle.format.specs.Execution.{Execution}
use Rattle.parse.specs.Parse.{refused, whole, parse}
use Rattle.marks.specs.Table.{cleared}
use Rattle.orders.specs.Problem.{Problem}
use Rattle.orders.specs.Order.{Meets}
use Rattle.orders.specs.First.{FirstOf}
use Rattle.answer.specs.declared.Names.{Names}
use Rattle.answer.specs.declared.Answer.{Answer}
use Rattle.answer.specs.declared.Answer.TheVariants.{Refused, Broken, Consistent}
use Rattle.model.specs.Happens.{Tests}
use Rattle.model.specs.Rules.{faulty, fault}
use Rattle.model.specs.Order.{problem}
use Rattle.model.specs.Unsettled.{unsettled_pair}
use Rattle.model.specs.Judged.{needed, lent, admitted, Breaks, settled_of, Judged}
use Rattle.model.proofs.JudgedLaws.{Admitted, admitted_whole, whole_admitted, same_whole, never_both}

pub record Same (x y : Execution) : Type 1 where
  pub scratch : needed x ≡ needed y
  pub events : length x.events ≡ length y.events
  pub tests : (hb : ℕ → ℕ → Bool) → Tests x hb → Tests y hb
  pub orders : (hb : ℕ → ℕ → Bool) → problem x hb ≡ problem y hb
  pub pair : (hb : ℕ → ℕ → Bool) → unsettled_pair x hb ≡ unsettled_pair y hb
  pub unbroken : (hb : ℕ → ℕ → Bool) → fault x hb ≡ none → fault y hb ≡ none

-- the rule that is answered is broken first in y too
abbrev pub Kept : Execution → Execution → Answer → Type 0
Kept x y answer =
    (n : ℕ) (names : Names) (hb : ℕ → ℕ → Bool) → answer ≡ Broken n names → fault x hb ≡ some (faulty n names) → fault y hb ≡ some (faulty n names)

module _ (s t : List ℕ) (x y : Execution) (d : parse s ≡ whole x) (e : parse t ≡ whole y) (same : Same x y) (scratch order : List ℕ) where
  -- refused for a short buffer, and so both
  says_there : (n p : ℕ) → admitted s (length scratch) (length order) ≡ refused n p → admitted t (length scratch) (length order) ≡ refused n p
  unfolding admitted lent
  says_there n p q =
      ap (lent (length scratch) (length order)) e
      ∙ ap (λ (i : ℕ). cond (ltb (length scratch) i) (refused 12 0) (cond (ltb (length order) (length y.events)) (refused 13 0) (whole y))) (sym same.scratch)
      ∙ ap (λ (i : ℕ). cond (ltb (length scratch) (needed x)) (refused 12 0) (cond (ltb (length order) i) (refused 13 0) (whole y))) (sym same.events)
      ∙ go (ltb (length scratch) (needed x)) (ltb (length order) (length x.events)) (sym (ap (lent (length scratch) (length order)) d) ∙ q)
    where
      go : (a b : Bool) → cond a (refused 12 0) (cond b (refused 13 0) (whole x)) ≡ refused n p → cond a (refused 12 0) (cond b (refused 13 0) (whole y)) ≡ refused n p
      go true b k = k
      go false true k = k
      go false false k = absurd (never_both refl k)

  there : (z : Execution) → admitted s (length scratch) (length order) ≡ whole z → (z ≡ x) × (admitted t (length scratch) (length order) ≡ whole y)
  there z q =
      let a = admitted_whole s (length scratch) (length order) z q in
      let i : z ≡ x = same_whole a.describes d in
      let b = subst (λ (u : Execution). Admitted s (length scratch) (length order) u) i a in
      (i, whole_admitted t (length scratch) (length order) y e (subst (λ (n : ℕ). n ≤ length scratch) same.scratch b.scratch) (subst (λ (n : ℕ). n ≤ length order) same.events b.order))

  breaks_there : (n : ℕ) (names : Names) (hb : ℕ → ℕ → Bool) → Kept x y (Broken n names) → Breaks x hb (faulty n names) → Breaks y hb (faulty n names)
  breaks_there n names hb h (inl k) = inl (h n names hb refl k)
  breaks_there n names hb h (inr u) =
      inr (record { names = u.names; unbroken = same.unbroken hb u.unbroken; no_order = λ o m. u.no_order o (subst (λ (r : Problem). Meets r o) (sym (same.orders hb)) m) })

  pub judged_carried : (answer : Answer) (p q : List ℕ) → Kept x y answer → Judged s scratch order answer p q → Judged t scratch order answer p q
  judged_carried (Refused n k) p q h j = record { says = says_there n k j.says; scratch_kept = j.scratch_kept; order_kept = j.order_kept }
  judged_carried (Broken n names) p q h j =
      let w = there j.execution j.describes in
      record {
        execution = y;
        describes = w.1;
        hb = j.hb;
        tests = same.tests j.hb (subst (λ (u : Execution). Tests u j.hb) w.0 j.tests);
        breaks = breaks_there n names j.hb h (subst (λ (u : Execution). Breaks u j.hb (faulty n names)) w.0 j.breaks);
        scratch_cleared = subst (λ (u : Execution). p ≡ cleared (needed u) scratch) w.0 j.scratch_cleared ∙ ap (λ (m : ℕ). cleared m scratch) same.scratch;
        order_kept = j.order_kept;
      }
  judged_carried (Consistent settled) p q h j =
      let w = there j.execution j.describes in
      let first : FirstOf (Meets (problem x j.hb)) (take (length x.events) q) =
      subst (λ (u : Execution). FirstOf (Meets (problem u j.hb)) (take (length u.events) q)) w.0 j.first in
      record {
        execution = y;
        describes = w.1;
        hb = j.hb;
        tests = same.tests j.hb (subst (λ (u : Execution). Tests u j.hb) w.0 j.tests);
        unbroken = same.unbroken j.hb (subst (λ (u : Execution). fault u j.hb ≡ none) w.0 j.unbroken);
        first = subst (λ (n : ℕ). FirstOf (Meets (problem y j.hb)) (take n q)) same.events
            (subst (λ (r : Problem). FirstOf (Meets r) (take (length x.events) q)) (same.orders j.hb) first);
        pair = subst (λ (u : Execution). settled ≡ settled_of (unsettled_pair u j.hb)) w.0 j.pair ∙ ap settled_of (same.pair j.hb);
        scratch_cleared = subst (λ (u : Execution). p ≡ cleared (needed u) scratch) w.0 j.scratch_cleared ∙ ap (λ (m : ℕ). cleared m scratch) same.scratch;
        order_rest = subst (λ (n : ℕ). drop n q ≡ drop n order) same.events (subst (λ (u : Execution). drop (length u.events) q ≡ drop (length u.events) order) w.0 j.order_rest);
      }

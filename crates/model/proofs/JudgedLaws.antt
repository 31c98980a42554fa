-- The laws of specs/Judged.antt. Assumes nothing.
--     admitted_whole, whole_admitted     what is judged: the sheet describes it and both buffers are long enough, and back
--     Short, refused_cases               what is refused: by the sheet itself, or for a short buffer
--     moved                              a fact about an execution and a test of its happens-before, with another test
--     breaks_unique, judged_unique       two results that are Judged for the same inputs are equal
use mathlib.Core.Path.{◌≡◌, refl, sym, ◌∙◌, ap, subst}
use mathlib.Core.Logic.{◌⊎◌, inl, inr}
use mathlib.Core.Bool.{Bool, true, false, cond}
use mathlib.Core.List.{List, ◌++◌}
use mathlib.Core.Option.{none}
use Prim.Native.Nat.{ℕ, ◌≤◌, ◌<◌}
use native.Mathlib.Omega.{arith}
use borrow.Author.Tests.{ltb-true, ltb-false}
use lib.Dec.{ltb, ltb→lt}
use lib.ListN.{length, take, drop, take-append-drop}
use Rattle.basis.proofs.BoolLaws.{T_false}
use Rattle.format.specs.Execution.{Execution}
use Rattle.parse.specs.Parse.{Parsed, refused, whole, parse}
use Rattle.marks.specs.Table.{cleared}
use Rattle.orders.specs.Order.{Meets}
use Rattle.orders.specs.First.{FirstOf}
use Rattle.orders.proofs.FirstLaws.{first_unique}
use Rattle.answer.specs.declared.Settled.{Settled}
use Rattle.answer.specs.declared.Answer.{Answer}
use Rattle.answer.specs.declared.Answer.TheVariants.{Refused, Broken, Consistent}
use Rattle.model.specs.Happens.{Tests}
use Rattle.model.specs.Rules.{Fault, faulty, fault}
use Rattle.model.specs.Order.{problem}
use Rattle.model.specs.Unsettled.{unsettled_pair}
use Rattle.model.specs.Judged.{needed, lent, admitted, Breaks, settled_of, JudgedBroken, JudgedConsistent, Judged}
use Rattle.model.proofs.HappensLaws.{tests_unique}

-- ---- what is admitted

pub record Admitted (s : List ℕ) (room places : ℕ) (x : Execution) : Type 0 where
  pub describes : parse s ≡ whole x
  pub scratch : needed x ≤ room
  pub order : length x.events ≤ places

lent_whole : (room places : ℕ) (p : Parsed) (x : Execution) → lent room places p ≡ whole x → (p ≡ whole x) × (needed x ≤ room) × (length x.events ≤ places)
unfolding lent
lent_whole room places (refused n p) x h = let z : ◌≡◌ {A = ℕ} 0 1 = cc in absurd (omega arith)
lent_whole room places (whole y) x h = go (ltb room (needed y)) (ltb places (length y.events)) refl refl h
  where
    go : (a b : Bool) → ltb room (needed y) ≡ a → ltb places (length y.events) ≡ b → cond a (refused 12 0) (cond b (refused 13 0) (whole y)) ≡ whole x
        → (whole y ≡ whole x) × (needed x ≤ room) × (length x.events ≤ places)
    go true b p q k = let z : ◌≡◌ {A = ℕ} 0 1 = cc in absurd (omega arith)
    go false true p q k = let z : ◌≡◌ {A = ℕ} 0 1 = cc in absurd (omega arith)
    go false false p q k =
        let e : y ≡ x = cc in
        let u : needed y ≤ room = ltb-false room (needed y) p in
        let v : length y.events ≤ places = ltb-false places (length y.events) q in
        (k, subst (λ (z : Execution). needed z ≤ room) e u, subst (λ (z : Execution). length z.events ≤ places) e v)

pub admitted_whole : (s : List ℕ) (room places : ℕ) (x : Execution) → admitted s room places ≡ whole x → Admitted s room places x
unfolding admitted
admitted_whole s room places x h = let w = lent_whole room places (parse s) x h in record { describes = w.0; scratch = w.1; order = w.2 }

-- a buffer is too short for what the sheet describes
pub data Short (s : List ℕ) (room places : ℕ) : ℕ → ℕ → Type 0 where
  scratch_short : (x : Execution) → parse s ≡ whole x → room < needed x → Short s room places 12 0
  order_short : (x : Execution) → parse s ≡ whole x → needed x ≤ room → places < length x.events → Short s room places 13 0

-- refused by the sheet itself, or for a short buffer
pub refused_cases : (s : List ℕ) (room places n p : ℕ) → admitted s room places ≡ refused n p → (parse s ≡ refused n p) ⊎ Short s room places n p
unfolding admitted lent
refused_cases s room places n p e = go (parse s) refl e
  where
    said : (m : ℕ) → refused m 0 ≡ refused n p → Short s room places m 0 → Short s room places n p
    said m q h = let a : m ≡ n = cc in let b : 0 ≡ p = cc in subst (λ (k : ℕ). Short s room places n k) b (subst (λ (k : ℕ). Short s room places k 0) a h)

    go : (q : Parsed) → parse s ≡ q → lent room places q ≡ refused n p → (parse s ≡ refused n p) ⊎ Short s room places n p
    go (refused m o) h k = inl (h ∙ k)
    go (whole x) h k = at (ltb room (needed x)) refl (ltb places (length x.events)) refl k
      where
        at : (a : Bool) → ltb room (needed x) ≡ a → (b : Bool) → ltb places (length x.events) ≡ b
            → cond a (refused 12 0) (cond b (refused 13 0) (whole x)) ≡ refused n p → (parse s ≡ refused n p) ⊎ Short s room places n p
        at true a b c d = inr (said 12 d (scratch_short x h (ltb-true _ _ a)))
        at false a true c d = inr (said 13 d (order_short x h (ltb-false _ _ a) (ltb-true _ _ c)))
        at false a false c d = absurd (let z : ◌≡◌ {A = ℕ} 0 1 = cc in omega arith)

pub whole_admitted : (s : List ℕ) (room places : ℕ) (x : Execution) → parse s ≡ whole x → needed x ≤ room → length x.events ≤ places
    → admitted s room places ≡ whole x
unfolding admitted lent
whole_admitted s room places x h p q =
    let a = T_false (ltb room (needed x)) (λ t. let l : room < needed x = ltb→lt _ _ t in omega arith) in
    let b = T_false (ltb places (length x.events)) (λ t. let l : places < length x.events = ltb→lt _ _ t in omega arith) in
    rw (h, a, b)

-- ---- agreement

pub moved : {x y : Execution} → x ≡ y → (f g : ℕ → ℕ → Bool) → Tests x f → Tests y g → (P : Execution → (ℕ → ℕ → Bool) → Type 0) → P x f → P y g
moved {x} {y} e f g s t P p =
    subst (λ (h : ℕ → ℕ → Bool). P y h) (tests_unique y f g (subst (λ (z : Execution). Tests z f) e s) t) (subst (λ (z : Execution). P z f) e p)

pub same_whole : {p : Parsed} {x y : Execution} → p ≡ whole x → p ≡ whole y → x ≡ y
same_whole h k = cc

pub never_both : {p : Parsed} {x : Execution} {n m : ℕ} → p ≡ whole x → p ≡ refused n m → ⊥
never_both h k = let z : ◌≡◌ {A = ℕ} 0 1 = cc in omega arith

pub breaks_unique : (x : Execution) (hb : ℕ → ℕ → Bool) (f g : Fault) → Breaks x hb f → Breaks x hb g → f ≡ g
breaks_unique x hb f g (inl a) (inl b) = cc
breaks_unique x hb f g (inl a) (inr b) = let z : ◌≡◌ {A = ℕ} 0 1 = cc in absurd (omega arith)
breaks_unique x hb f g (inr a) (inl b) = let z : ◌≡◌ {A = ℕ} 0 1 = cc in absurd (omega arith)
breaks_unique x hb f g (inr a) (inr b) = cc

-- a broken one is not consistent
pub breaks_not : (x : Execution) (hb : ℕ → ℕ → Bool) (f : Fault) (o : List ℕ) → Breaks x hb f → fault x hb ≡ none → Meets (problem x hb) o → ⊥
breaks_not x hb f o (inl a) b m = let z : ◌≡◌ {A = ℕ} 0 1 = cc in omega arith
breaks_not x hb f o (inr a) b m = a.no_order o m

module _ (s scratch order : List ℕ) where
  module _ (f g : Fault) (p q p' q' : List ℕ) (j : JudgedBroken s scratch order f p q) (k : JudgedBroken s scratch order g p' q') where
    execution_broken : j.execution ≡ k.execution
    execution_broken = same_whole j.describes k.describes

    broken_same : (f ≡ g) × (p ≡ p') × (q ≡ q')
    broken_same = (
      breaks_unique k.execution k.hb f g (moved execution_broken j.hb k.hb j.tests k.tests (λ x hb. Breaks x hb f) j.breaks) k.breaks,
      j.scratch_cleared ∙ ap (λ (x : Execution). cleared (needed x) scratch) execution_broken ∙ sym k.scratch_cleared,
      j.order_kept ∙ sym k.order_kept,
    )

  broken_consistent : (f : Fault) (t : Settled) (p q p' q' : List ℕ) → JudgedBroken s scratch order f p q → JudgedConsistent s scratch order t p' q' → ⊥
  broken_consistent f t p q p' q' j k =
      breaks_not k.execution k.hb f (take (length k.execution.events) q')
      (moved (same_whole j.describes k.describes) j.hb k.hb j.tests k.tests (λ x hb. Breaks x hb f) j.breaks) k.unbroken k.first.is

  module _ (t u : Settled) (p q p' q' : List ℕ) (j : JudgedConsistent s scratch order t p q) (k : JudgedConsistent s scratch order u p' q') where
    execution_same : j.execution ≡ k.execution
    execution_same = same_whole j.describes k.describes

    front_same : take (length k.execution.events) q ≡ take (length k.execution.events) q'
    front_same =
        first_unique (Meets (problem k.execution k.hb)) _ _
        (moved execution_same j.hb k.hb j.tests k.tests (λ x hb. FirstOf (Meets (problem x hb)) (take (length x.events) q)) j.first) k.first

    rest_same : drop (length k.execution.events) q ≡ drop (length k.execution.events) q'
    rest_same =
        subst (λ (x : Execution). drop (length x.events) q ≡ drop (length x.events) order) execution_same j.order_rest ∙ sym k.order_rest

    consistent_same : (t ≡ u) × (p ≡ p') × (q ≡ q')
    consistent_same = (
      moved execution_same j.hb k.hb j.tests k.tests (λ x hb. t ≡ settled_of (unsettled_pair x hb)) j.pair ∙ sym k.pair,
      j.scratch_cleared ∙ ap (λ (x : Execution). cleared (needed x) scratch) execution_same ∙ sym k.scratch_cleared,
      sym (take-append-drop (length k.execution.events) q) ∙ ap (λ (l : List ℕ). l ++ drop (length k.execution.events) q) front_same
          ∙ ap (λ (l : List ℕ). take (length k.execution.events) q' ++ l) rest_same ∙ take-append-drop (length k.execution.events) q',
    )

  pub judged_unique : (a b : Answer) (p q p' q' : List ℕ) → Judged s scratch order a p q → Judged s scratch order b p' q' → (a ≡ b) × (p ≡ p') × (q ≡ q')
  judged_unique (Refused n m) (Refused n' m') p q p' q' j k = (
    (let e : refused n m ≡ refused n' m' = sym j.says ∙ k.says in let d : n ≡ n' = cc in let c : m ≡ m' = cc in cc),
    j.scratch_kept ∙ sym k.scratch_kept,
    j.order_kept ∙ sym k.order_kept,
  )
  judged_unique (Refused n m) (Broken n' w) p q p' q' j k = absurd (never_both k.describes j.says)
  judged_unique (Refused n m) (Consistent t) p q p' q' j k = absurd (never_both k.describes j.says)
  judged_unique (Broken n w) (Refused n' m') p q p' q' j k = absurd (never_both j.describes k.says)
  judged_unique (Broken n w) (Broken n' w') p q p' q' j k =
      let h = broken_same (faulty n w) (faulty n' w') p q p' q' j k in (ap (λ (f : Fault). Broken f.number f.names) h.0, h.1, h.2)
  judged_unique (Broken n w) (Consistent t) p q p' q' j k = absurd (broken_consistent (faulty n w) t p q p' q' j k)
  judged_unique (Consistent t) (Refused n' m') p q p' q' j k = absurd (never_both j.describes k.says)
  judged_unique (Consistent t) (Broken n' w') p q p' q' j k = absurd (broken_consistent (faulty n' w') t p' q' p q k j)
  judged_unique (Consistent t) (Consistent u) p q p' q' j k =
      let h = consistent_same t u p q p' q' j k in (ap Consistent h.0, h.1, h.2)

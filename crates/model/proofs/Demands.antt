-- Each claim of specs/Demands.antt. Assumes nothing.
use mathlib.Core.Path.{◌≡◌, refl, sym, subst, ◌∙◌, ap, ap₂}
use mathlib.Core.Logic.{inl, inr, ⊎_elim}
use mathlib.Core.Bool.{Bool}
use mathlib.Core.List.{List, ◌++◌}
use mathlib.Core.Option.{Option, none, some}
use Prim.Native.Nat.{ℕ, zero, ◌≤◌}
use native.Mathlib.Omega.{arith}
use lib.ListN.{length, get_or, take, drop}
use lib.Seq.{take-take}
use Rattle.basis.specs.Test.{from}
use Rattle.basis.proofs.ListLaws.{zeros_at}
use Rattle.format.specs.Execution.{Execution, inits}
use Rattle.parse.specs.Parse.{whole, parse}
use Rattle.parse.specs.Described.{described, Rowless}
use Rattle.parse.specs.WellSheet.{WellSheet}
use Rattle.parse.proofs.DescribedLaws.{rowless_refused}
use Rattle.parse.specs.Promise.{EachAppears}
use Rattle.parse.proofs.PromiseLaws.{promise}
use Rattle.parse.proofs.WellSheetLaws.{exactly}
use Rattle.parse.proofs.RefusalLaws.{refusal, refusal_number}
use Rattle.marks.specs.Table.{cleared}
use Rattle.marks.proofs.TableLaws.{cleared_within, cleared_rest, length_cleared}
use Rattle.orders.specs.Order.{Meets}
use Rattle.orders.specs.First.{FirstOf}
use Rattle.orders.proofs.InitsLaws.{first_inits}
use Rattle.answer.specs.declared.Settled.{Settled}
use Rattle.answer.specs.declared.Settled.TheVariants.{Orderly as AllSettled, Unsettled}
use Rattle.answer.specs.declared.Answer.{Answer}
use Rattle.answer.specs.declared.Answer.TheVariants.{Refused, Broken, Consistent}
use Rattle.model.specs.Happens.{Tests}
use Rattle.model.specs.Rules.{faulty, fault}
use Rattle.model.specs.Order.{problem}
use Rattle.model.specs.Unsettled.{unsettled_pair}
use Rattle.model.specs.Judged.{needed, Breaks, settled_of, JudgedConsistent, Judged}
use Rattle.model.specs.Demands.{IsRefused, IsConsistent, Result, Refuses, by_sheet, short_scratch, short_order, Demand1, Allowed, Meant, Demand2, Testable, Demand3, Agreement, SaysTheVerdict, OneVerdict, NeverShort, LargestSheet, OneRowEach, EveryAgent, Leaves, LeavesZero, FitsWord, SameWord, InitsFirst, FirstNamed, LowestPair, Reduction}
use Rattle.model.proofs.Sound.{Sound, sound}
use Rattle.model.proofs.UnsettledLaws.{none_orderly, orderly_none}
use Rattle.model.proofs.Serial.{explains}
use Rattle.model.proofs.JudgedLaws.{admitted_whole, whole_admitted, Short, scratch_short, order_short, refused_cases, moved, same_whole, never_both, breaks_not, judged_unique}
use Rattle.model.proofs.Outcome.{outcome, look, hb_table}
use Rattle.model.proofs.ClosureLaws.{table_tests}
use Rattle.model.proofs.OutcomeLaws.{outcome_judged}
use Rattle.model.proofs.OrderLaws.{inits_others, begins}
use Rattle.model.proofs.FirstLaws.{pair_lowest}
use Rattle.model.proofs.LowestLaws.{breaks_first}
use Rattle.model.proofs.VerdictLaws.{few_events, few_scratch, judged_verdict, verdict_unique}
use Rattle.model.proofs.FitLaws.{judged_fits, same_word}
use Rattle.model.proofs.Single.{one_access, reduced}

-- a well-formed sheet is read as what it describes
whole_of : (s : List ℕ) (x : Execution) → WellSheet s x → parse s ≡ whole x
whole_of s x w = (exactly s x).1 w

sounds : (s : List ℕ) (x : Execution) → parse s ≡ whole x → Sound x
sounds s x e = sound x (promise s x e)

-- ---- demand 2

settled_cases : (o : Option (ℕ × ℕ)) → AllSettled ≡ settled_of o → o ≡ none
unfolding settled_of
settled_cases none e = refl
settled_cases (some p) e = let z : ◌≡◌ {A = ℕ} 0 1 = cc in absurd (omega arith)

unsettled_is : (o : Option (ℕ × ℕ)) (e d : ℕ) → Unsettled e d ≡ settled_of o → o ≡ some (e, d)
unfolding settled_of
unsettled_is none e d q = let z : ◌≡◌ {A = ℕ} 0 1 = cc in absurd (omega arith)
unsettled_is (some p) e d q = let a : p.0 ≡ e = cc in let b : p.1 ≡ d = cc in ap₂ (λ (i j : ℕ). some (i, j)) a b

module _ (s scratch order : List ℕ) (x : Execution) (hb : ℕ → ℕ → Bool) (tests : Tests x hb) (scratch' order' : List ℕ) where
  -- what a consistent answer says, in terms of x and hb
  pub record Holds (t : Settled) : Type 0 where
    pub unbroken : fault x hb ≡ none
    pub first : FirstOf (Meets (problem x hb)) (take (length x.events) order')
    pub pair : t ≡ settled_of (unsettled_pair x hb)

  pub holds : (t : Settled) → parse s ≡ whole x → JudgedConsistent s scratch order t scratch' order' → Holds t
  holds t d j =
      let e = same_whole (admitted_whole s (length scratch) (length order) j.execution j.describes).describes d in
      record {
        unbroken = moved e j.hb hb j.tests tests (λ y f. fault y f ≡ none) j.unbroken;
        first = moved e j.hb hb j.tests tests (λ y f. FirstOf (Meets (problem y f)) (take (length y.events) order')) j.first;
        pair = moved e j.hb hb j.tests tests (λ y f. t ≡ settled_of (unsettled_pair y f)) j.pair;
      }

  meant : (answer : Answer) → parse s ≡ whole x → needed x ≤ length scratch → length x.events ≤ length order
      → Judged s scratch order answer scratch' order' → Meant x hb answer order'
  unfolding settled_of
  meant (Refused n p) d a b j = absurd (never_both (whole_admitted s (length scratch) (length order) x d a b) j.says)
  meant (Broken n names) d a b j =
      let e = same_whole j.describes (whole_admitted s (length scratch) (length order) x d a b) in
      let k : Breaks x hb (faulty n names) = moved e j.hb hb j.tests tests (λ y f. Breaks y f (faulty n names)) j.breaks in
      let not : Allowed x hb → ⊥ = λ l. breaks_not x hb (faulty n names) l.1.0 k l.0 l.1.1 in
      record {
        not_refused = λ r. none_refused r.0 r.1 r.2;
        consistent = ((λ c. other c.0 c.1), λ l. absurd (not l));
        first = λ c. other c.0 c.1;
        broken = λ c. (faulty n names, k, refl);
        orderly = ((λ c. other AllSettled c), λ l. absurd (not l.0));
      }
    where
      other : {A : Type 0} (t : Settled) → Broken n names ≡ Consistent t → A
      other t e = let z : ◌≡◌ {A = ℕ} 0 1 = cc in absurd (omega arith)

      none_refused : (m q : ℕ) → Broken n names ≡ Refused m q → ⊥
      none_refused m q e = let z : ◌≡◌ {A = ℕ} 0 1 = cc in omega arith
  meant (Consistent t) d a b j =
      let h = holds t d j in
      let l : Allowed x hb = (h.unbroken, (take (length x.events) order', h.first.is)) in
      record {
        not_refused = λ r. none_refused r.0 r.1 r.2;
        consistent = ((λ c. l), λ l. (t, refl));
        first = λ c. h.first;
        broken = λ c. absurd (c (t, refl));
        orderly = (
          λ c. let e : AllSettled ≡ t = cc in (l, none_orderly x hb (settled_cases (unsettled_pair x hb) (e ∙ h.pair))),
          λ o. ap Consistent (h.pair ∙ ap settled_of (orderly_none x hb o.1)),
        );
      }
    where
      none_refused : (m q : ℕ) → Consistent t ≡ Refused m q → ⊥
      none_refused m q e = let z : ◌≡◌ {A = ℕ} 0 1 = cc in omega arith

-- ---- demand 1

short_refuses : (s : List ℕ) (room places n p : ℕ) → Short s room places n p → Refuses s room places n p
short_refuses s room places n p (scratch_short x d h) = short_scratch x ((exactly s x).0 d) h
short_refuses s room places n p (order_short x d h k) = short_order x ((exactly s x).0 d) h k

refuses : (s : List ℕ) (scratch order : List ℕ) (n p : ℕ) (scratch' order' : List ℕ) → Judged s scratch order (Refused n p) scratch' order'
    → Refuses s (length scratch) (length order) n p
refuses s scratch order n p scratch' order' j =
    ⊎_elim (λ e. by_sheet (refusal s n p e)) (short_refuses s (length scratch) (length order) n p)
    (refused_cases s (length scratch) (length order) n p j.says)

-- where the answer is not a refusal, the sheet is well-formed
judged_sheet : (s scratch order : List ℕ) (answer : Answer) (scratch' order' : List ℕ) → (IsRefused answer → ⊥) → Judged s scratch order answer scratch' order'
    → (x : Execution) × (parse s ≡ whole x)
judged_sheet s scratch order (Refused n p) scratch' order' h j = absurd (h (n, p, refl))
judged_sheet s scratch order (Broken n names) scratch' order' h j =
    (j.execution, (admitted_whole s (length scratch) (length order) j.execution j.describes).describes)
judged_sheet s scratch order (Consistent t) scratch' order' h j =
    (j.execution, (admitted_whole s (length scratch) (length order) j.execution j.describes).describes)

no_row_refused : (s scratch order : List ℕ) (answer : Answer) (scratch' order' : List ℕ) → Rowless (described s) → Judged s scratch order answer scratch' order'
    → IsRefused answer
no_row_refused s scratch order (Refused n p) scratch' order' r j = (n, p, refl)
no_row_refused s scratch order (Broken n names) scratch' order' r j =
    absurd (rowless_refused s r j.execution (admitted_whole s (length scratch) (length order) j.execution j.describes).describes)
no_row_refused s scratch order (Consistent t) scratch' order' r j =
    absurd (rowless_refused s r j.execution (admitted_whole s (length scratch) (length order) j.execution j.describes).describes)

result : (s scratch order : List ℕ) → Result s scratch order
result s scratch order =
    let o = outcome s (length scratch) (length order) in
    record {
      answer = o.answer;
      scratch' = cleared o.used scratch;
      order' = o.order ++ drop (length o.order) order;
      judged = outcome_judged sounds s scratch order;
    }

-- ---- the buffers

left : (s scratch scratch' : List ℕ) (y x : Execution) → y ≡ x → needed y ≤ length scratch → scratch' ≡ cleared (needed y) scratch
    → (answer : Answer) (order order' : List ℕ) → ((IsConsistent answer → ⊥) → order' ≡ order)
    → (IsConsistent answer → drop (length x.events) order' ≡ drop (length x.events) order) → Leaves x scratch order answer scratch' order'
left s scratch scratch' y x e fits c answer order order' b d =
    let q : scratch' ≡ cleared (needed x) scratch = c ∙ ap (λ (z : Execution). cleared (needed z) scratch) e in
    let f : needed x ≤ length scratch = subst (λ (z : Execution). needed z ≤ length scratch) e fits in
    let w = cleared_within (needed x) scratch f in
    record {
      size = ap length q ∙ length_cleared (needed x) scratch f;
      zero = λ i h. ap (λ (l : List ℕ). get_or l i 1) (q ∙ w) ∙ zeros_at (needed x) (drop (needed x) scratch) i h;
      rest = ap (drop (needed x)) q ∙ cleared_rest (needed x) scratch f;
      broken = b;
      consistent = d;
    }

-- ---- the claims

pub demand1 : Demand1
demand1 =
    record {
      answered = result;
      refused = λ s scratch order n p scratch' order' j.
          record { by_table = refuses s scratch order n p scratch' order' j; scratch_kept = j.scratch_kept; order_kept = j.order_kept };
      no_row = no_row_refused;
    }

pub demand2 : Demand2
demand2 s scratch order answer scratch' order' x hb w a b tests j = meant s scratch order x hb tests scratch' order' answer (whole_of s x w) a b j

pub testable : Testable
testable s x w = (look (hb_table x), table_tests x (sound x w.well_formed))

pub demand3 : Demand3
demand3 s scratch order scratch' order' x hb w tests j o m =
    let h = holds s scratch order x hb tests scratch' order' AllSettled (whole_of s x w) j in
    explains x hb (sound x w.well_formed) tests h.unbroken (none_orderly x hb (settled_cases (unsettled_pair x hb) h.pair)) o m

pub agreement : Agreement
agreement s scratch order a b p q p' q' = judged_unique s scratch order a b p q p' q'

pub says_the_verdict : SaysTheVerdict
says_the_verdict s scratch order answer scratch' order' enough fit = judged_verdict s scratch order enough fit scratch' order' answer

pub one_verdict : OneVerdict
one_verdict = verdict_unique

pub never_short : NeverShort
never_short s n p o v = (refusal s n p v.says, ⊎_elim (λ w. inl w.1) inr (refusal_number s n p v.says))

pub largest_sheet : LargestSheet
largest_sheet s x w =
    let p = w.well_formed in
    record { others_few = p.others_few; events_few = few_events x p; scratch_small = few_scratch x p }

pub one_row_each : OneRowEach
one_row_each s scratch order answer scratch' order' h j =
    let d = judged_sheet s scratch order answer scratch' order' h j in
    let w = (exactly s d.0).0 d.1 in
    record { execution = d.0; sheet = w; one_row = w.well_formed.row_for_each }

pub every_agent : EveryAgent
every_agent s scratch order answer scratch' order' h j =
    let d = judged_sheet s scratch order answer scratch' order' h j in
    let w = (exactly s d.0).0 d.1 in
    subst EachAppears (sym w.describes) w.well_formed.each_appears

pub leaves_zero : LeavesZero
leaves_zero s scratch order (Refused n p) scratch' order' x w h j = absurd (h (n, p, refl))
leaves_zero s scratch order (Broken n names) scratch' order' x w h j =
    let a = admitted_whole s (length scratch) (length order) j.execution j.describes in
    left s scratch scratch' j.execution x (same_whole a.describes (whole_of s x w)) a.scratch j.scratch_cleared (Broken n names) order order'
    (λ c. j.order_kept) (λ c. ap (drop (length x.events)) j.order_kept)
leaves_zero s scratch order (Consistent t) scratch' order' x w h j =
    let a = admitted_whole s (length scratch) (length order) j.execution j.describes in
    let e = same_whole a.describes (whole_of s x w) in
    left s scratch scratch' j.execution x e a.scratch j.scratch_cleared (Consistent t) order order'
    (λ c. absurd (c (t, refl))) (λ c. subst (λ (y : Execution). drop (length y.events) order' ≡ drop (length y.events) order) e j.order_rest)

pub fits_word : FitsWord
fits_word = judged_fits

pub one_word : SameWord
one_word = same_word

pub inits_first : InitsFirst
inits_first s scratch order t scratch' order' x w j =
    let y = j.execution in
    let d = (admitted_whole s (length scratch) (length order) y j.describes).describes in
    let e : y ≡ x = same_whole d (whole_of s x w) in
    let f = first_inits (problem y j.hb) (inits y.events) (begins y j.hb (sounds s y d) j.tests) (take (length y.events) order') j.first in
    subst (λ (z : Execution). take (inits z.events) order' ≡ from 0 (inits z.events)) e
    (sym (take-take (inits y.events) (length y.events) order' (omega (arith, inits_others y))) ∙ f)

pub first_named : FirstNamed
first_named s scratch order n names scratch' order' x hb w tests j =
    let e = same_whole (admitted_whole s (length scratch) (length order) j.execution j.describes).describes (whole_of s x w) in
    breaks_first x hb w.well_formed (sound x w.well_formed) tests (faulty n names)
    (moved e j.hb hb j.tests tests (λ y f. Breaks y f (faulty n names)) j.breaks)

pub lowest_pair : LowestPair
lowest_pair s scratch order e d scratch' order' x hb w tests j =
    let h = holds s scratch order x hb tests scratch' order' (Unsettled e d) (whole_of s x w) j in
    pair_lowest x hb e d (unsettled_is (unsettled_pair x hb) e d h.pair)

pub reduction : Reduction
reduction s x hb w = reduced x (one_access x w.well_formed) (sound x w.well_formed) hb

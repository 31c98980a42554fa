-- 02 §4: the head is not judged, so that two sheets with the same events, rows and pairs get the same answer; and whoever 25 names is tear-free.
-- No definition from happens-before on looks at the head. Assumes nothing.
--     by_record        the claim ByRecord of specs/Editions.antt            never_torn     the claim NeverTorn
use mathlib.Core.Path.{◌≡◌, refl, sym, subst, ◌∙◌}
use mathlib.Core.Bool.{Bool}
use mathlib.Core.List.{Memᴰ}
use Prim.Native.Nat.{ℕ}
use native.Mathlib.Omega.{arith}
use lib.Dec.{T, eqb→eq}
use Rattle.basis.proofs.BoolLaws.{and_elim}
use Rattle.basis.proofs.LoopLaws.{any_elim}
use Rattle.format.specs.declared.Head.{Head}
use Rattle.format.specs.declared.Row.{Row}
use Rattle.format.specs.declared.Shape.{Shape}
use Rattle.format.specs.Shape.{tear_free}
use Rattle.format.specs.Execution.{Execution, with_head, event}
use Rattle.format.proofs.ExecutionLaws.{shape_mem, reads_covers, writes_covers}
use Rattle.parse.proofs.WellSheetLaws.{exactly}
use Rattle.answer.specs.declared.Names.{Names}
use Rattle.answer.specs.declared.Names.TheVariants.{Torn}
use Rattle.model.specs.Events.{numbers, at_row}
use Rattle.model.specs.Happens.{agent_order, row_syncs, synchronises, init_first, step, Happens, one, more, Tests}
use Rattle.model.specs.Rules.{breaks21, breaks24, untorn, untorn_from, breaks25, fault21, fault22, fault23, fault24, fault25, fault}
use Rattle.model.specs.Bar.{bar_a, bar_b, bar_c, row_bars, bar}
use Rattle.model.specs.Order.{problem}
use Rattle.model.specs.Unsettled.{unsettled, unsettled_pair}
use Rattle.model.specs.Lowest.{LowestNames, at_21, at_22, at_23, at_24, at_25, at_26}
use Rattle.model.specs.Editions.{ByRecord, MayTear, NeverTorn}
use Rattle.model.proofs.Sound.{Sound, sound}
use Rattle.model.proofs.JudgedLaws.{judged_unique}
use Rattle.model.proofs.Carried.{Same, judged_carried}
use Rattle.model.proofs.Demands.{testable, first_named}

-- ---- the same events, rows and pairs

module _ (x : Execution) (h : Head) where
  abbrev y : Execution
  y = with_head x h

  step_same : (a b : ℕ) → step x a b ≡ step y a b
  unfolding step agent_order synchronises init_first row_syncs at_row event
  step_same a b = refl

  happens_there : {a b : ℕ} → Happens x a b → Happens y a b
  happens_there {a} {b} (one s) = one (subst T (step_same a b) s)
  happens_there {a} {b} (more {d = c} s l) = more (subst T (step_same a c) s) (happens_there l)

  happens_back : {a b : ℕ} → Happens y a b → Happens x a b
  happens_back {a} {b} (one s) = one (subst T (sym (step_same a b)) s)
  happens_back {a} {b} (more {d = c} s l) = more (subst T (sym (step_same a c)) s) (happens_back l)

  module _ (hb : ℕ → ℕ → Bool) where
    tests_there : Tests x hb → Tests y hb
    tests_there t a b = ((λ k. happens_there ((t a b).0 k)), (λ k. (t a b).1 (happens_back k)))

    fault_same : fault x hb ≡ fault y hb
    unfolding fault fault21 fault22 fault23 fault24 fault25 breaks21 breaks24 breaks25 untorn_from untorn numbers at_row event
    fault_same = refl

    problem_same : problem x hb ≡ problem y hb
    unfolding bar row_bars bar_a bar_b bar_c row_syncs at_row event
    problem_same = refl

    pair_same : unsettled_pair x hb ≡ unsettled_pair y hb
    unfolding unsettled_pair unsettled numbers event
    pair_same = refl

  same : Same x y
  same = record { scratch = refl; events = refl; tests = tests_there; orders = problem_same; pair = pair_same; unbroken = λ hb e. sym (fault_same hb) ∙ e }

pub by_record : ByRecord
by_record s t x h v w scratch order a b p q p' q' j k =
    judged_unique t scratch order a b p q p' q'
    (judged_carried s t x (with_head x h) ((exactly s x).1 v) ((exactly t (with_head x h)).1 w) (same x h) scratch order a p q (λ n names hb z e. sym (fault_same x h hb) ∙ e) j) k

-- ---- 25 names tear-free events

-- a row's reader and writer have an access at its byte
module _ (x : Execution) (so : Sound x) (p : Row) (m : Memᴰ p x.rows) where
  not_reader : T (tear_free (at_row x p p.reader)) → MayTear x p.reader → ⊥
  unfolding at_row
  not_reader t f = let w = shape_mem _ _ (reads_covers _ _ (so.row_reads p m)) in f w.0 w.1 (subst (λ (a : Shape). T (tear_free a)) (sym w.2) t)

  not_writer : T (tear_free (at_row x p p.writer)) → MayTear x p.writer → ⊥
  unfolding at_row
  not_writer t f = let w = shape_mem _ _ (writes_covers _ _ (so.row_writes p m)) in f w.0 w.1 (subst (λ (a : Shape). T (tear_free a)) (sym w.2) t)

  -- neither of an untorn row from w to r may tear
  untorn_both : (r w : ℕ) → T (untorn_from x r w p) → (MayTear x r → ⊥) × (MayTear x w → ⊥)
  unfolding untorn_from untorn
  untorn_both r w t =
      let a = and_elim _ _ t in
      let b = and_elim _ _ a.1 in
      let c = and_elim _ _ b.1 in
      let d = and_elim _ _ c.1 in (
        (λ f. not_reader c.0 (subst (MayTear x) (sym (eqb→eq _ _ a.0)) f)),
        (λ f. not_writer d.0 (subst (MayTear x) (sym (eqb→eq _ _ b.0)) f)),
      )

torn_of : (x : Execution) (hb : ℕ → ℕ → Bool) (n : ℕ) (names : Names) (r w v : ℕ) → LowestNames x hb n names → n ≡ 25 → names ≡ Torn r w v → T (breaks25 x r w v)
torn_of x hb n names r w v (at_21 j i t l) e q = absurd (omega arith)
torn_of x hb n names r w v (at_22 d t l) e q = absurd (omega arith)
torn_of x hb n names r w v (at_23 j i t l) e q = absurd (omega arith)
torn_of x hb n names r w v (at_24 j u i t l) e q = absurd (omega arith)
torn_of x hb n names r w v (at_25 r₁ w₁ v₁ t l) e q =
    let a : r₁ ≡ r = cc in let b : w₁ ≡ w = cc in let c : v₁ ≡ v = cc in
    subst (λ (i : ℕ). T (breaks25 x i w v)) a (subst (λ (i : ℕ). T (breaks25 x r₁ i v)) b (subst (λ (i : ℕ). T (breaks25 x r₁ w₁ i)) c t))
torn_of x hb n names r w v (at_26 o) e q = absurd (omega arith)

none_may_tear : (x : Execution) → Sound x → (r w v : ℕ) → T (breaks25 x r w v) → (MayTear x r → ⊥) × (MayTear x w → ⊥) × (MayTear x v → ⊥)
unfolding breaks25
none_may_tear x so r w v t =
    let a = any_elim _ x.rows (and_elim _ _ t).1 in
    let b = and_elim _ _ a.2 in
    let c = any_elim _ x.rows b.1 in
    let d = untorn_both x so a.0 a.1 r w b.0 in
    let e = untorn_both x so c.0 c.1 r v (and_elim _ _ c.2).0 in (d.0, d.1, e.1)

pub never_torn : NeverTorn
never_torn s scratch order r w v scratch' order' x well j e may =
    let hb = testable s x well in
    let f = first_named s scratch order 25 (Torn r w v) scratch' order' x hb.0 well hb.1 j in
    let n = none_may_tear x (sound x well.well_formed) r w v (torn_of x hb.0 25 (Torn r w v) r w v f.lowest refl refl) in (
      (λ q. n.0 (subst (MayTear x) q may)),
      (λ q. n.1 (subst (MayTear x) q may)),
      (λ q. n.2 (subst (MayTear x) q may)),
    )

-- 02 §12: with pairs removed, what was consistent stays so, its order still meets the rules, and what is orderly with fewer is orderly with more.
-- Fewer pairs, fewer steps: happens-before shrinks, and so do broken rules and bars. Assumes nothing.
--     still_allowed, still_meets     fewer pairs keep an order that meets the rules, and no rule is broken
--     still_orderly                  orderly with fewer pairs is orderly with more
--     more_pairs                     the claim of specs/Fewer.antt, of two sheets
use mathlib.Core.Path.{◌≡◌, refl, subst}
use mathlib.Core.Logic.{◌⊎◌, inl, inr}
use mathlib.Core.Bool.{Bool}
use mathlib.Core.List.{List, Memᴰ}
use mathlib.Core.Option.{none}
use Prim.Native.Nat.{ℕ}
use lib.ListN.{length, take}
use lib.Dec.{T, eqb}
use Rattle.basis.specs.Test.{◌and◌, ◌or◌, any}
use Rattle.basis.proofs.BoolLaws.{and_elim, and_intro, or_cases, or_left, or_right, non_elim, non_intro}
use Rattle.basis.proofs.LoopLaws.{any_elim, any_intro}
use Rattle.basis.proofs.FindLaws.{find_fewer}
use Rattle.format.specs.declared.Row.{Row}
use Rattle.format.specs.declared.Pair.{Pair}
use Rattle.format.specs.Execution.{Execution, event}
use Rattle.answer.specs.declared.Settled.{Settled}
use Rattle.answer.specs.declared.Settled.TheVariants.{Orderly as AllSettled}
use Rattle.answer.specs.declared.Answer.TheVariants.{Consistent}
use Rattle.orders.specs.Order.{Meets}
use Rattle.orders.proofs.OrderLaws.{meets_fewer}
use Rattle.parse.proofs.WellSheetLaws.{exactly}
use Rattle.model.specs.Events.{numbers, at_row}
use Rattle.model.specs.Happens.{agent_order, row_syncs, synchronises, init_first, step, Happens, one, more, Tests}
use Rattle.model.specs.Rules.{breaks21, breaks22, breaks23, breaks24, untorn, untorn_from, breaks25, fault}
use Rattle.model.specs.Bar.{bar_a, bar_b, bar_c, row_bars, bar}
use Rattle.model.specs.Order.{problem}
use Rattle.model.specs.Unsettled.{unsettled, Orderly}
use Rattle.model.specs.Fewer.{with_pairs, MorePairs}
use Rattle.model.proofs.Sound.{sound}
use Rattle.model.proofs.Outcome.{look, hb_table}
use Rattle.model.proofs.ClosureLaws.{table_tests}
use Rattle.model.proofs.JudgedLaws.{Admitted, admitted_whole, same_whole}
use Rattle.model.proofs.Demands.{demand2}
use Rattle.model.proofs.RulesLaws.{clean, fault_none, test24}
use Rattle.model.proofs.BarLaws.{bar_elim, bar_intro}

settled_same : (t u : Settled) → Consistent t ≡ Consistent u → t ≡ u
settled_same t u e = cc

module _ (x : Execution) (ps : List Pair) (fewer : (p : Pair) → Memᴰ p ps → Memᴰ p x.pairs) where
  step_fewer : (a b : ℕ) → T (step (with_pairs x ps) a b) → T (step x a b)
  unfolding step agent_order synchronises init_first row_syncs at_row event
  step_fewer a b t = on (or_cases _ _ t)
    where
      sync : T (any (λ (p : Pair). eqb p.first a and eqb p.second b) ps) ⊎ T (any (λ (r : Row). eqb r.writer a and eqb r.reader b and row_syncs x r) x.rows) → T (synchronises x a b)
      sync (inl s) = let w = any_elim (λ (p : Pair). eqb p.first a and eqb p.second b) ps s in
          or_left _ _ (any_intro (λ (p : Pair). eqb p.first a and eqb p.second b) x.pairs w.0 (fewer w.0 w.1) w.2)
      sync (inr s) = or_right _ _ s

      rest : T (synchronises (with_pairs x ps) a b) ⊎ T (init_first (with_pairs x ps) a b) → T (synchronises x a b or init_first x a b)
      rest (inl s) = or_left _ _ (sync (or_cases _ _ s))
      rest (inr s) = or_right _ _ s

      on : T (agent_order (with_pairs x ps) a b) ⊎ T (synchronises (with_pairs x ps) a b or init_first (with_pairs x ps) a b) → T (step x a b)
      on (inl s) = or_left _ _ s
      on (inr s) = or_right _ _ (rest (or_cases _ _ s))

  pub happens_fewer : {a b : ℕ} → Happens (with_pairs x ps) a b → Happens x a b
  happens_fewer {a} {b} (one s) = one (step_fewer a b s)
  happens_fewer {a} {b} (more {d = c} s h) = more (step_fewer a c s) (happens_fewer h)

  module _ (hb hb' : ℕ → ℕ → Bool) (tests : Tests x hb) (tests' : Tests (with_pairs x ps) hb') where
    below : (a b : ℕ) → T (hb' a b) → T (hb a b)
    below a b h = (tests a b).1 (happens_fewer ((tests' a b).0 h))

    -- 02 §12: no rule of 21 to 25 is broken with fewer
    pub still_allowed : fault x hb ≡ none → fault (with_pairs x ps) hb' ≡ none
    unfolding numbers breaks21 breaks22 breaks23 breaks24 breaks25 untorn_from untorn at_row event
    still_allowed e =
        let c = clean x hb e in
        fault_none (with_pairs x ps) hb' (record {
          c21 = c.c21;
          c22 = find_fewer (breaks22 hb) (breaks22 hb') _ (λ a t. below a a t) c.c22;
          c23 = find_fewer (breaks23 hb) (breaks23 hb') _ (λ r t. below _ _ t) c.c23;
          c24 = find_fewer (test24 x hb) (test24 (with_pairs x ps) hb') _
              (λ p t. let w = and_elim _ _ t in let v = and_elim _ _ w.1 in and_intro _ _ w.0 (and_intro _ _ (below _ _ v.0) (below _ _ v.1))) c.c24;
          c25 = c.c25;
        })

    row_fewer : (r : Row) (v : ℕ) → T (row_bars (with_pairs x ps) hb' r v) → T (row_bars x hb r v)
    unfolding row_bars bar_a bar_b bar_c row_syncs at_row event
    row_fewer r v t =
        let a = and_elim _ _ t in
        let b = and_elim _ _ a.1 in
        let c = and_elim _ _ b.1 in
        let d = and_elim _ _ c.1 in
        and_intro _ _ a.0 (and_intro _ _ b.0 (and_intro _ _ c.0 (and_intro _ _ d.0 (on (or_cases _ _ d.1)))))
      where
        two : (a b c d : ℕ) (k : Bool) → T (hb' a b and hb' c d and k) → T (hb a b and hb c d and k)
        two a b c d k s = let w = and_elim _ _ s in let u = and_elim _ _ w.1 in and_intro _ _ (below _ _ w.0) (and_intro _ _ (below _ _ u.0) u.1)

        rest : T (bar_b (with_pairs x ps) hb' r v) ⊎ T (bar_c (with_pairs x ps) hb' r v) → T (bar_b x hb r v or bar_c x hb r v)
        rest (inl s) = or_left _ _ (two _ _ _ _ _ s)
        rest (inr s) = or_right _ _ (two _ _ _ _ _ s)

        on : T (bar_a (with_pairs x ps) r v) ⊎ T (bar_b (with_pairs x ps) hb' r v or bar_c (with_pairs x ps) hb' r v) → T (bar_a x r v or bar_b x hb r v or bar_c x hb r v)
        on (inl s) = or_left _ _ s
        on (inr s) = or_right _ _ (rest (or_cases _ _ s))

    bar_fewer : (r w v : ℕ) → T (bar (with_pairs x ps) hb' r w v) → T (bar x hb r w v)
    bar_fewer r w v t =
        let k = bar_elim (with_pairs x ps) hb' r w v t in
        subst (λ (i : ℕ). T (bar x hb i w v)) k.2 (subst (λ (i : ℕ). T (bar x hb k.0.reader i v)) k.3 (bar_intro x hb k.0 v k.1 (row_fewer k.0 v k.4)))

    -- 02 §12: "the order reported for the fuller sheet still meets its rules"
    pub still_meets : (o : List ℕ) → Meets (problem x hb) o → Meets (problem (with_pairs x ps) hb') o
    still_meets = meets_fewer (problem x hb) (problem (with_pairs x ps) hb') refl below bar_fewer

    -- 02 §12: "if the smaller sheet is orderly and the fuller one consistent, the fuller one is orderly"
    pub still_orderly : Orderly (with_pairs x ps) hb' → Orderly x hb
    unfolding unsettled event
    still_orderly h e d t =
        let w = and_elim _ _ t in
        let u = and_elim _ _ w.1 in
        let v = and_elim _ _ u.1 in
        h e d (and_intro _ _ w.0 (and_intro _ _ (non_intro _ (λ k. non_elim _ u.0 (below _ _ k))) (and_intro _ _ (non_intro _ (λ k. non_elim _ v.0 (below _ _ k))) v.1)))

-- ---- of two sheets

pub more_pairs : MorePairs
more_pairs s s' x ps w w' fewer scratch order t u v answer u' v' j k =
    let hb : ℕ → ℕ → Bool = look (hb_table x) in
    let hb' : ℕ → ℕ → Bool = look (hb_table (with_pairs x ps)) in
    let tests = table_tests x (sound x w.well_formed) in
    let tests' = table_tests (with_pairs x ps) (sound (with_pairs x ps) w'.well_formed) in
    let q = same_whole (admitted_whole s (length scratch) (length order) j.execution j.describes).describes ((exactly s x).1 w) in
    let a = subst (λ (y : Execution). Admitted s (length scratch) (length order) y) q (admitted_whole s (length scratch) (length order) j.execution j.describes) in
    let m = demand2 s scratch order (Consistent t) u v x hb w a.scratch a.order tests j in
    let n = demand2 s' scratch order answer u' v' (with_pairs x ps) hb' w' a.scratch a.order tests' k in
    let l = m.consistent.0 (t, refl) in
    let o = (m.first (t, refl)).is in
    record {
      consistent = n.consistent.1 (still_allowed x ps fewer hb hb' tests tests' l.0, (take (length x.events) v, still_meets x ps fewer hb hb' tests tests' _ o));
      meets = λ f g. still_meets x ps fewer hb f tests g (take (length x.events) v) o;
      orderly = λ e. let r = m.orderly.1 (l, still_orderly x ps fewer hb hb' tests tests' (n.orderly.0 e).1) in settled_same t AllSettled r;
    }

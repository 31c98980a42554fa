-- The laws of specs/Happens.antt. Assumes nothing.
--     happens_trans                    a chain after a chain
--     row_step_lem                         a row whose two accesses synchronise is one step
--     step_inside, happens_inside      both ends are events
--     no-step, init_earliest           nothing happens before an init
--     tests_unique                     two tests of happens-before are one
--     closed_tests                     the closed rows of successors of the crate sets are such a test
use mathlib.Core.Path.{◌≡◌, sym, ap, ◌∙◌, subst, fun_ext}
use mathlib.Core.Logic.{◌⊎◌, inl, inr, ◌↔◌}
use mathlib.Core.Bool.{Bool}
use mathlib.Core.List.{List, Memᴰ}
use Prim.Native.Nat.{ℕ, ◌-◌, ◌≤◌, ◌<◌}
use native.Mathlib.Omega.{arith}
use native.Mathlib.Decide.{dec_lt}
use lib.Dec.{T, eqb, ltb→lt, eqb→eq, eqb_refl}
use lib.ListN.{length, get_or}
use lib.Seq.{get_or-drop}
use Rattle.basis.specs.Test.{◌and◌, ◌or◌, any}
use Rattle.basis.proofs.BoolLaws.{and_elim, and_intro, or_cases, or_left, or_right, non_elim, same_test, true_T, T_true, false_T}
use Rattle.basis.proofs.LoopLaws.{any_elim, any_intro}
use Rattle.format.specs.declared.Row.{Row}
use Rattle.format.specs.declared.Pair.{Pair}
use Rattle.format.specs.declared.Shape.{Shape}
use Rattle.format.specs.Shape.{reads, sc, overlap}
use Rattle.format.specs.Event.{is_init, reads_at, shape_at, writes_at}
use Rattle.format.specs.Execution.{Execution, event}
use Rattle.format.proofs.ExecutionLaws.{shape_mem, reads_covers, reads_reads, writes_covers, access_inside, agent_inside, covering_inside}
use Rattle.sets.specs.Mask.{mem, Has}
use Rattle.closing.specs.Closure.{Reach, Closed, step as reach_step, more as reach-more}
use Rattle.sets.proofs.MaskLaws.{mem_empty}
use Rattle.model.specs.Events.{any_two}
use Rattle.model.specs.Happens.{agent_order, row_syncs, synchronises, init_first, step, Happens, one, more, Tests}
use Rattle.model.proofs.EventsLaws.{two_elim}
use Rattle.model.proofs.Sound.{Sound}

pub happens_trans : {x : Execution} {a b c : ℕ} → Happens x a b → Happens x b c → Happens x a c
happens_trans (one s) k = more s k
happens_trans (more s h) k = more s (happens_trans h k)

pub tests_unique : (x : Execution) (f g : ℕ → ℕ → Bool) → Tests x f → Tests x g → f ≡ g
tests_unique x f g s t = fun_ext (λ e. fun_ext (λ d. same_test (f e d) (g e d) (λ p. (t e d).1 ((s e d).0 p)) (λ p. (s e d).1 ((t e d).0 p))))

-- how a step comes about
pub data Step (x : Execution) (e d : ℕ) : Type 0 where
  by_agent : 0 < (event x e).agent → (event x e).agent ≡ (event x d).agent → e < d → Step x e d
  by_pair : (p : Pair) → Memᴰ p x.pairs → p.first ≡ e → p.second ≡ d → Step x e d
  by_row : (r : Row) → Memᴰ r x.rows → r.writer ≡ e → r.reader ≡ d → T (row_syncs x r) → Step x e d
  by_init : T (is_init (event x e)) → (e ≡ d → ⊥) → T (any_two overlap (event x e) (event x d)) → Step x e d

module _ (x : Execution) where
  pub step_cases : (e d : ℕ) → T (step x e d) → Step x e d
  unfolding step agent_order synchronises init_first
  step_cases e d t = first (or_cases _ _ t)
    where
      sync : T (any (λ (p : Pair). eqb p.first e and eqb p.second d) x.pairs)
          ⊎ T (any (λ (r : Row). eqb r.writer e and eqb r.reader d and row_syncs x r) x.rows) → Step x e d
      sync (inl s) =
          let w = any_elim (λ (p : Pair). eqb p.first e and eqb p.second d) x.pairs s in
          by_pair w.0 w.1 (eqb→eq _ _ (and_elim _ _ w.2).0) (eqb→eq _ _ (and_elim _ _ w.2).1)
      sync (inr s) =
          let w = any_elim (λ (r : Row). eqb r.writer e and eqb r.reader d and row_syncs x r) x.rows s in
          let q = and_elim _ _ (and_elim _ _ w.2).1 in
          by_row w.0 w.1 (eqb→eq _ _ (and_elim _ _ w.2).0) (eqb→eq _ _ q.0) q.1

      rest : T (synchronises x e d) ⊎ T (init_first x e d) → Step x e d
      rest (inl s) = sync (or_cases _ _ s)
      rest (inr s) =
          let q = and_elim _ _ (and_elim _ _ s).1 in
          by_init (and_elim _ _ s).0 (λ k. non_elim _ q.0 (subst (λ (i : ℕ). T (eqb e i)) k (eqb_refl e))) q.1

      first : T (agent_order x e d) ⊎ T (synchronises x e d or init_first x e d) → Step x e d
      first (inl s) =
          let q = and_elim _ _ (and_elim _ _ s).1 in
          by_agent (ltb→lt _ _ (and_elim _ _ s).0) (eqb→eq _ _ q.0) (ltb→lt _ _ q.1)
      first (inr s) = rest (or_cases _ _ s)

  pub row_step_lem : (r : Row) → Memᴰ r x.rows → T (row_syncs x r) → T (step x r.writer r.reader)
  unfolding step synchronises
  row_step_lem r m t = or_right _ _ (or_left _ _ (or_right _ _
      (any_intro (λ (s : Row). eqb s.writer r.writer and eqb s.reader r.reader and row_syncs x s) x.rows r m
      (and_intro _ _ (eqb_refl r.writer) (and_intro _ _ (eqb_refl r.reader) t)))))

module _ (x : Execution) (so : Sound x) where
  pub reader_inside : (r : Row) → Memᴰ r x.rows → r.reader < length x.events
  reader_inside r m = covering_inside x r.reader r.address (reads_covers _ _ (so.row_reads r m))

  pub writer_inside : (r : Row) → Memᴰ r x.rows → r.writer < length x.events
  writer_inside r m = covering_inside x r.writer r.address (writes_covers _ _ (so.row_writes r m))

  ends : {e d : ℕ} → Step x e d → (e < length x.events) × (d < length x.events)
  ends {e} {d} (by_agent h k l) = (agent_inside x e h, agent_inside x d (subst (λ (i : ℕ). 0 < i) k h))
  ends (by_pair p m h k) = (subst (λ (i : ℕ). i < length x.events) h (so.pair_first p m), subst (λ (i : ℕ). i < length x.events) k (so.pair_second p m))
  ends (by_row r m h k s) = (subst (λ (i : ℕ). i < length x.events) h (writer_inside r m), subst (λ (i : ℕ). i < length x.events) k (reader_inside r m))
  ends {e} {d} (by_init h k o) = let w = two_elim overlap (event x e) (event x d) o in (access_inside x e w.0 w.1, access_inside x d w.2 w.3)

  pub step_inside : (e d : ℕ) → T (step x e d) → (e < length x.events) × (d < length x.events)
  step_inside e d t = ends (step_cases x e d t)

  pub happens_inside : {e d : ℕ} → Happens x e d → (e < length x.events) × (d < length x.events)
  happens_inside {e} {d} (one s) = step_inside e d s
  happens_inside {e} {d} (more {d = c} s h) = ((step_inside e c s).0, (happens_inside h).1)

  -- an init reads nothing and is not sc
  pub init_reads : (e n : ℕ) → T (is_init (event x e)) → T (reads_at (event x e) n) → ⊥
  unfolding reads
  init_reads e n h t =
      let w = shape_mem (event x e) n (reads_covers _ _ t) in
      let k : (shape_at (event x e) n).kind ≡ 2 = subst (λ (a : Shape). a.kind ≡ 2) w.2 (so.init_access e h w.0 w.1).0 in
      kinds k (or_cases _ _ (reads_reads _ _ t))
    where
      kinds : (shape_at (event x e) n).kind ≡ 2 → T (eqb (shape_at (event x e) n).kind 1) ⊎ T (eqb (shape_at (event x e) n).kind 3) → ⊥
      kinds k (inl q) = let z : (shape_at (event x e) n).kind ≡ 1 = eqb→eq _ _ q in omega arith
      kinds k (inr q) = let z : (shape_at (event x e) n).kind ≡ 3 = eqb→eq _ _ q in omega arith

  pub init_not_sc : (e n : ℕ) → T (is_init (event x e)) → T (writes_at (event x e) n) → T (sc (shape_at (event x e) n)) → ⊥
  unfolding sc
  init_not_sc e n h t s =
      let w = shape_mem (event x e) n (writes_covers _ _ t) in
      let k : (shape_at (event x e) n).mode ≡ 0 = subst (λ (a : Shape). a.mode ≡ 0) w.2 (so.init_access e h w.0 w.1).1 in
      let z : (shape_at (event x e) n).mode ≡ 2 = eqb→eq _ _ s in
      omega arith

  init_agent : (e : ℕ) → T (is_init (event x e)) → (event x e).agent ≡ 0
  unfolding is_init
  init_agent e t = eqb→eq _ _ t

  none_before : {d e : ℕ} → T (is_init (event x e)) → Step x d e → ⊥
  none_before {d} {e} h (by_agent k q l) = omega (arith, init_agent e h)
  none_before {d} {e} h (by_pair p m k q) =
      let z : 0 < (event x e).agent = subst (λ (i : ℕ). 0 < (event x i).agent) q (so.pair_agent p m) in omega (arith, init_agent e h)
  none_before {d} {e} h (by_row r m k q s) = init_reads e r.address h (subst (λ (i : ℕ). T (reads_at (event x i) r.address)) q (so.row_reads r m))
  none_before {d} {e} h (by_init k q o) = so.init_apart d e k h q o

  pub init_earliest : {d e : ℕ} → T (is_init (event x e)) → Happens x d e → ⊥
  init_earliest {d} {e} h (one s) = none_before h (step_cases x d e s)
  init_earliest {d} {e} h (more s k) = init_earliest h k

  -- The closed rows of successors test happens-before; the rows behind the events are empty.
  module _ (rows closed : List ℕ) (steps : (e d : ℕ) → e < length x.events → Has (get_or rows e 0) d ↔ T (step x e d))
      (idle : (e : ℕ) → length x.events ≤ e → get_or rows e 0 ≡ 0) (c : Closed (length x.events) rows closed) where
    into : {e d : ℕ} → e < length x.events → Reach (length x.events) rows e d → Happens x e d
    into {e} {d} h (reach_step q) = one ((steps e d h).0 q)
    into {e} {d} h (reach-more {m = m} q l r) = more ((steps e m h).0 q) (into l r)

    back : {e d : ℕ} → Happens x e d → Reach (length x.events) rows e d
    back {e} {d} (one s) = reach_step ((steps e d (step_inside e d s).0).1 s)
    back {e} {d} (more {d = m} s k) = reach-more ((steps e m (step_inside e m s).0).1 s) (step_inside e m s).1 (back k)

    behind : (e : ℕ) → length x.events ≤ e → get_or closed e 0 ≡ 0
    behind e h =
        let n = length x.events in
        ap (λ (i : ℕ). get_or closed i 0) (omega arith) ∙ sym (get_or-drop n closed (e - n) 0) ∙ ap (λ (l : List ℕ). get_or l (e - n) 0) c.rest
        ∙ get_or-drop n rows (e - n) 0 ∙ ap (λ (i : ℕ). get_or rows i 0) (omega arith) ∙ idle e h

    pub closed_tests : Tests x (λ e d. mem (get_or closed e 0) d)
    closed_tests e d = (λ t. go t (dec_lt e (length x.events)), λ h. true_T _ ((c.reach e (happens_inside h).0 d).1 (back h)))
      where
        go : T (mem (get_or closed e 0) d) → Dec (e < length x.events) → Happens x e d
        go t (yes h) = into h ((c.reach e h d).0 (T_true _ t))
        go t (no h) = absurd (false_T _ (mem_empty d) (subst (λ (i : ℕ). T (mem i d)) (behind e (omega arith)) t))

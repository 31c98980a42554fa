-- The masks of successors are the model's happens-before, for events with any number of accesses. Assumes nothing.
--     overlap_byte          two ranges that overlap share a byte
--     meets_is              two events meet by the tables and by the model
--     direct_is, row_is     what two events make by themselves; what a row adds
--     step_is               the direct steps are the model's
--     ordered               closed they test happens-before, and the columns are theirs
use mathlib.Core.Path.{◌≡◌, refl, sym, ap, ap₂, ◌∙◌, subst}
use mathlib.Core.Bool.{Bool, true, false, cond}
use mathlib.Core.Logic.{◌⊎◌, inl, inr, ⊎_elim}
use mathlib.Core.List.{List}
use Prim.Native.Nat.{ℕ, zero, suc, ◌+◌, ◌*◌, ◌<◌, ◌≤◌}
use native.Mathlib.Nat.{mod-eq_of_lt}
use native.Mathlib.Omega.{arith}
use native.Mathlib.Decide.{dec_lt}
use borrow.Author.Tests.{ltb-true, le-leb, lt-ltb, le-ltb}
use lib.Dec.{T, eqb, leb, ltb, eqb-suc-zero}
use lib.ListN.{length, get_or, replicate, length-replicate}
use Rattle.basis.specs.Test.{◌and◌, ◌or◌, non, any, from}
use Rattle.basis.proofs.BoolLaws.{and_elim, and_intro, or_cases, or_left, or_right, same_test, true_T, T_true, T_false, and_holds, and_fails, or_none, by_bool, and_false}
use Rattle.basis.proofs.LoopLaws.{any_same, any_each}
use Rattle.format.specs.declared.Shape.{Shape}
use Rattle.format.specs.declared.Row.{Row}
use Rattle.format.specs.declared.Pair.{Pair}
use Rattle.format.specs.Shape.{covers, overlap, both_sc}
use Rattle.format.specs.Event.{is_init, shape_at}
use Rattle.format.specs.Execution.{Execution, event}
use Rattle.format.proofs.ShapeLaws.{both_cover}
use Rattle.format.proofs.ExecutionLaws.{shape_covers}
use Rattle.sets.specs.Mask.{slots, mem}
use Rattle.closing.specs.Closure.{taken, Closed}
use Rattle.sets.proofs.MaskLaws.{mem_empty, ext_all}
use Rattle.model.specs.Events.{any_two, at_row}
use Rattle.model.specs.Happens.{agent_order, row_syncs, synchronises, init_first, step, Tests}
use Rattle.model.proofs.EventsLaws.{two_elim, two_at}
use Rattle.model.proofs.Sound.{Sound}
use Rattle.model.proofs.HappensLaws.{step_inside, happens_inside, closed_tests}
use Rattle.tables.specs.Tables.{agent_in, shape_in, at_in, row_in, pair_in}
use Rattle.tables.proofs.TablesLaws.{reader_slot, writer_slot}
use Rattle.own.specs.Own.{meets_in, met_in, later_in}
use Rattle.before.specs.Before.{sync_in, direct_in, row_step, pair_step, step_in, steps_in, ClosedSteps}
use Rattle.before.proofs.BeforeLaws.{steps_length, columns_mem}
use Rattle.before.proofs.StepsLaws.{empty_at, steps_mem}
use Rattle.front.specs.Tabled.{Tabled, Agents, Rowed, Paired, hb_of, Turned}
use Rattle.front.proofs.TabledLaws.{at_first, at_second, at_cases}

-- ---- a byte that two ranges share

pub overlap_byte : (a b : Shape) → T (overlap a b) → (k : ℕ) × T (covers a k) × T (covers b k)
unfolding overlap covers
overlap_byte a b h =
    let p = and_elim (ltb 0 a.width) _ h in
    let q = and_elim (ltb 0 b.width) _ p.1 in
    let r = and_elim (ltb a.start (b.start + b.width)) _ q.1 in
    go (ltb-true 0 a.width (T_true _ p.0)) (ltb-true 0 b.width (T_true _ q.0)) (ltb-true a.start (b.start + b.width) (T_true _ r.0)) (ltb-true b.start (a.start + a.width) (T_true _ r.1)) (dec_lt a.start b.start)
  where
    in_range : (s : Shape) (k : ℕ) → s.start ≤ k → k < s.start + s.width → T (leb s.start k and ltb k (s.start + s.width))
    in_range s k l u = and_intro _ _ (true_T _ (le-leb s.start k l)) (true_T _ (lt-ltb k (s.start + s.width) u))

    go : 0 < a.width → 0 < b.width → a.start < b.start + b.width → b.start < a.start + a.width → Dec (a.start < b.start)
        → (k : ℕ) × T (leb a.start k and ltb k (a.start + a.width)) × T (leb b.start k and ltb k (b.start + b.width))
    go wa wb ab ba (yes l) = (b.start, in_range a b.start (omega arith) (omega arith), in_range b b.start (omega arith) (omega arith))
    go wa wb ab ba (no l) = (a.start, in_range a a.start (omega arith) (omega arith), in_range b a.start (omega (arith, l)) (omega arith))

module _ (t : List ℕ) (v k : ℕ) where
  slot_covers : T (covers (shape_in t (2 * v)) k) ⊎ T (covers (shape_in t (2 * v + 1)) k) → T (covers (at_in t v k) k)
  slot_covers (inl h) = subst (λ (s : Shape). T (covers s k)) (sym (at_first t v k (T_true _ h))) h
  slot_covers (inr h) =
      by_bool (covers (shape_in t (2 * v)) k)
      (λ c. subst (λ (s : Shape). T (covers s k)) (sym (at_first t v k c)) (true_T _ c))
      (λ c. subst (λ (s : Shape). T (covers s k)) (sym (at_second t v k c (T_true _ h))) h)

  covers_slot : T (covers (at_in t v k) k) → T (covers (shape_in t (2 * v)) k) ⊎ T (covers (shape_in t (2 * v + 1)) k)
  covers_slot h =
      ⊎_elim (λ e. inl (subst (λ (s : Shape). T (covers s k)) e h)) (λ e. inr (subst (λ (s : Shape). T (covers s k)) e h)) (at_cases t v k (T_true _ h))

module _ (x : Execution) (t : List ℕ) (n : ℕ) (tb : Tabled x t n) where
  -- ---- two events that meet

  module _ (e d : ℕ) (he : e < slots) (hd : d < slots) where
    share : (k : ℕ) → T (covers (shape_in t (2 * e)) k) ⊎ T (covers (shape_in t (2 * e + 1)) k) → T (covers (shape_in t (2 * d)) k) ⊎ T (covers (shape_in t (2 * d + 1)) k) → T (meets_in t e d)
    unfolding meets_in
    share k (inl a) (inl b) = or_left _ _ (or_left _ _ (both_cover (shape_in t (2 * e)) (shape_in t (2 * d)) k a b))
    share k (inl a) (inr b) = or_left _ _ (or_right _ _ (both_cover (shape_in t (2 * e)) (shape_in t (2 * d + 1)) k a b))
    share k (inr a) (inl b) = or_right _ _ (or_left _ _ (both_cover (shape_in t (2 * e + 1)) (shape_in t (2 * d)) k a b))
    share k (inr a) (inr b) = or_right _ _ (or_right _ _ (both_cover (shape_in t (2 * e + 1)) (shape_in t (2 * d + 1)) k a b))

    at_table : (v k : ℕ) → v < slots → T (covers (shape_at (event x v) k) k) → T (covers (at_in t v k) k)
    at_table v k h c = subst (λ (s : Shape). T (covers s k)) (tb.shape_at_lem v k h) c

    at_event : (v k : ℕ) → v < slots → T (covers (at_in t v k) k) → T (covers (shape_at (event x v) k) k)
    at_event v k h c = subst (λ (s : Shape). T (covers s k)) (sym (tb.shape_at_lem v k h)) c

    forth : T (any_two overlap (event x e) (event x d)) → T (meets_in t e d)
    forth h =
        let w = two_elim overlap (event x e) (event x d) h in
        let b = overlap_byte w.0.shape w.2.shape w.4 in
        share b.0
        (covers_slot t e b.0 (at_table e b.0 he (shape_covers (event x e) w.0 b.0 w.1 b.1)))
        (covers_slot t d b.0 (at_table d b.0 hd (shape_covers (event x d) w.2 b.0 w.3 b.2)))

    by_byte : (k : ℕ) → T (covers (at_in t e k) k) → T (covers (at_in t d k) k) → T (any_two overlap (event x e) (event x d))
    by_byte k a b =
        let p = at_event e k he a in
        let q = at_event d k hd b in
        two_at overlap (event x e) (event x d) k p q (both_cover (shape_at (event x e) k) (shape_at (event x d) k) k p q)

    back : T (meets_in t e d) → T (any_two overlap (event x e) (event x d))
    unfolding meets_in
    back h =
        ⊎_elim
        (λ g. ⊎_elim
        (λ f. let b = overlap_byte (shape_in t (2 * e)) (shape_in t (2 * d)) f in by_byte b.0 (slot_covers t e b.0 (inl b.1)) (slot_covers t d b.0 (inl b.2)))
        (λ f. let b = overlap_byte (shape_in t (2 * e)) (shape_in t (2 * d + 1)) f in by_byte b.0 (slot_covers t e b.0 (inl b.1)) (slot_covers t d b.0 (inr b.2)))
        (or_cases _ _ g))
        (λ g. ⊎_elim
        (λ f. let b = overlap_byte (shape_in t (2 * e + 1)) (shape_in t (2 * d)) f in by_byte b.0 (slot_covers t e b.0 (inr b.1)) (slot_covers t d b.0 (inl b.2)))
        (λ f. let b = overlap_byte (shape_in t (2 * e + 1)) (shape_in t (2 * d + 1)) f in by_byte b.0 (slot_covers t e b.0 (inr b.1)) (slot_covers t d b.0 (inr b.2)))
        (or_cases _ _ g))
        (or_cases _ _ h)

    pub meets_is : any_two overlap (event x e) (event x d) ≡ meets_in t e d
    meets_is = same_test _ _ forth back

  -- ---- the direct steps

  later_is : (e d a b : ℕ) (c : Bool) → (cond (eqb a 0) c (eqb a b and ltb e d)) ≡ ((ltb 0 a and eqb a b and ltb e d) or (eqb a 0 and c))
  unfolding ◌or◌ ◌and◌
  later_is e d zero b c = refl
  later_is e d (suc a) b c =
      ap (λ (z : Bool). cond z c (eqb (suc a) b and ltb e d)) (eqb-suc-zero a)
      ∙ sym (ap₂ (λ (y z : Bool). (y and eqb (suc a) b and ltb e d) or (z and c)) (lt-ltb 0 (suc a) (omega arith)) (eqb-suc-zero a) ∙ or_none (eqb (suc a) b and ltb e d))

  module _ (ag : Agents x t n) (so : Sound x) where
    own_step : (e d : ℕ) → T (agent_order x e d or init_first x e d) → T (step x e d)
    unfolding step
    own_step e d s = ⊎_elim (λ p. or_left _ _ p) (λ p. or_right _ _ (or_right _ _ p)) (or_cases (agent_order x e d) (init_first x e d) s)

    inside_is : (e d : ℕ) → e < n → d < n → cond (eqb (agent_in t e) 0) (met_in t e d) (later_in t e d) ≡ (agent_order x e d or init_first x e d)
    unfolding met_in later_in agent_order init_first is_init
    inside_is e d he hd =
        let few = tb.few in
        later_is e d (agent_in t e) (agent_in t d) (non (eqb e d) and meets_in t e d)
        ∙ sym (ap₂ ◌or◌
        (ap₂ (λ (a b : ℕ). ltb 0 a and eqb a b and ltb e d) (ag e he) (ag d hd))
        (ap₂ (λ (a : ℕ) (b : Bool). eqb a 0 and non (eqb e d) and b) (ag e he) (meets_is e d (omega arith) (omega arith))))

    outside : (e d : ℕ) → ((e < n) × (d < n) → ⊥) → (agent_order x e d or init_first x e d) ≡ false
    outside e d f = T_false _ (λ s. let w = step_inside x so e d (own_step e d s) in let z = tb.count in f (omega (arith, w.0), omega (arith, w.1)))

    pub direct_is : (e d : ℕ) → direct_in t n e d ≡ (agent_order x e d or init_first x e d)
    unfolding direct_in
    direct_is e d = go (dec_lt e n) (dec_lt d n)
      where
        go : Dec (e < n) → Dec (d < n) → (ltb e n and ltb d n and cond (eqb (agent_in t e) 0) (met_in t e d) (later_in t e d)) ≡ (agent_order x e d or init_first x e d)
        go (yes h) (yes k) = and_holds (ltb e n) _ (lt-ltb e n h) ∙ and_holds (ltb d n) _ (lt-ltb d n k) ∙ inside_is e d h k
        go (yes h) (no k) = and_holds (ltb e n) _ (lt-ltb e n h) ∙ and_fails (ltb d n) _ (le-ltb d n (omega (arith, k))) ∙ sym (outside e d (λ w. k w.1))
        go (no h) k = and_fails (ltb e n) _ (le-ltb e n (omega (arith, h))) ∙ sym (outside e d (λ w. h w.0))

    pub row_is : (q : List ℕ) (j e d : ℕ) → row_step t e d (row_in q j) ≡ (eqb (row_in q j).writer e and eqb (row_in q j).reader d and row_syncs x (row_in q j))
    unfolding row_step sync_in row_syncs at_row
    row_is q j e d =
        let r = row_in q j in
        let w = tb.shape_at_lem r.writer r.address (writer_slot q j) in
        let v = tb.shape_at_lem r.reader r.address (reader_slot q j) in
        let i = mod-eq_of_lt (writer_slot q j) in
        let k = mod-eq_of_lt (reader_slot q j) in
        ap (λ (b : Bool). eqb r.writer e and eqb r.reader d and b)
        (ap₂ (λ (y z : ℕ). both_sc (at_in t y r.address) (at_in t z r.address)) i k ∙ sym (ap₂ both_sc w v))

    sorted : (a p r i : Bool) → (((a or i) or r) or p) ≡ (a or ((p or r) or i))
    unfolding ◌or◌
    sorted true p r i = refl
    sorted false true true true = refl
    sorted false true true false = refl
    sorted false true false true = refl
    sorted false true false false = refl
    sorted false false true true = refl
    sorted false false true false = refl
    sorted false false false true = refl
    sorted false false false false = refl

    module _ (q : List ℕ) (m : ℕ) (rowed : Rowed x q m) (p : List ℕ) (k : ℕ) (paired : Paired x p k) where
      rows_are : (e d : ℕ) → any (λ (j : ℕ). row_step t e d (row_in q j)) (from 0 m) ≡ any (λ (r : Row). eqb r.writer e and eqb r.reader d and row_syncs x r) x.rows
      rows_are e d =
          any_same (λ (j : ℕ). row_step t e d (row_in q j)) (λ (j : ℕ). eqb (row_in q j).writer e and eqb (row_in q j).reader d and row_syncs x (row_in q j)) (from 0 m) (λ j i. row_is q j e d)
          ∙ sym (any_each (λ (r : Row). eqb r.writer e and eqb r.reader d and row_syncs x r) (row_in q) (from 0 m))
          ∙ ap (any (λ (r : Row). eqb r.writer e and eqb r.reader d and row_syncs x r)) (sym rowed)

      pairs_are : (e d : ℕ) → any (λ (j : ℕ). pair_step e d (pair_in p j)) (from 0 k) ≡ any (λ (r : Pair). eqb r.first e and eqb r.second d) x.pairs
      unfolding pair_step
      pairs_are e d =
          sym (any_each (λ (r : Pair). eqb r.first e and eqb r.second d) (pair_in p) (from 0 k))
          ∙ ap (any (λ (r : Pair). eqb r.first e and eqb r.second d)) (sym paired)

      abbrev S : List ℕ
      S = steps_in t n q m p k (replicate slots 0)

      pub step_is : (e d : ℕ) → mem (get_or S e 0) d ≡ step x e d
      unfolding step_in step synchronises
      step_is e d =
          steps_mem t n tb.few e d q m p k
          ∙ ap₂ ◌or◌ (ap₂ ◌or◌ (direct_is e d) (rows_are e d)) (pairs_are e d)
          ∙ sorted (agent_order x e d) (any (λ (r : Pair). eqb r.first e and eqb r.second d) x.pairs)
          (any (λ (r : Row). eqb r.writer e and eqb r.reader d and row_syncs x r) x.rows) (init_first x e d)

      idle : (e : ℕ) → length x.events ≤ e → get_or S e 0 ≡ 0
      idle e h = ext_all (get_or S e 0) 0 (λ d. step_is e d ∙ T_false _ (λ s. let w = (step_inside x so e d s).0 in omega arith) ∙ sym (mem_empty d))

      long : length S ≡ slots
      long = steps_length t n q m p k (replicate slots 0) ∙ length-replicate {A = ℕ} slots 0

      module _ (succ pred : List ℕ) (o : ClosedSteps t n q m p k (replicate slots 0) succ (replicate slots 0) pred) where
        all_taken : taken n S ≡ length x.events
        all_taken = let z = tb.count in let y = tb.few in let l = long in omega arith

        pub ordered_tests : Tests x (hb_of succ)
        ordered_tests =
            closed_tests x so S succ (λ e d h. (λ g. true_T _ (sym (step_is e d) ∙ g), λ s. step_is e d ∙ T_true _ s)) idle
            (subst (λ (i : ℕ). Closed i S succ) all_taken o.closed)

        none : (e d : ℕ) → ((e < n) × (d < n) → ⊥) → mem (get_or succ e 0) d ≡ false
        none e d f = T_false _ (λ s. let w = happens_inside x so ((ordered_tests e d).0 s) in let z = tb.count in f (omega (arith, w.0), omega (arith, w.1)))

        succ_taken : taken n succ ≡ n
        succ_taken = let y = tb.few in let l = o.closed.size ∙ long in omega arith

        pub ordered_turned : Turned succ pred
        unfolding ◌or◌
        ordered_turned e d =
            ap (λ (l : List ℕ). mem (get_or l d 0) e) o.turned
            ∙ columns_mem succ (replicate slots 0) (length-replicate {A = ℕ} slots 0) n d e
            ∙ ap (λ (b : Bool). b or (ltb e (taken n succ) and (ltb d slots and mem (get_or succ e 0) d))) (ap (λ (i : ℕ). mem i e) (empty_at d) ∙ mem_empty e)
            ∙ ap (λ (i : ℕ). ltb e i and (ltb d slots and mem (get_or succ e 0) d)) succ_taken
            ∙ go (dec_lt e n) (dec_lt d n)
          where
            go : Dec (e < n) → Dec (d < n) → (ltb e n and (ltb d slots and mem (get_or succ e 0) d)) ≡ mem (get_or succ e 0) d
            go (yes h) (yes i) = let y = tb.few in and_holds (ltb e n) _ (lt-ltb e n h) ∙ and_holds (ltb d slots) _ (lt-ltb d slots (omega arith))
            go (yes h) (no i) =
                let z = none e d (λ w. i w.1) in ap (λ (b : Bool). ltb e n and (ltb d slots and b)) z ∙ ap (λ (b : Bool). ltb e n and b) (and_false (ltb d slots)) ∙ and_false (ltb e n) ∙ sym z
            go (no h) i = and_fails (ltb e n) _ (le-ltb e n (omega (arith, h))) ∙ sym (none e d (λ w. h w.0))

        -- happens-before, by rows and by columns
        pub ordered : Tests x (hb_of succ) × Turned succ pred
        ordered = (ordered_tests, ordered_turned)

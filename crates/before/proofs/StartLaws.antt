-- Where happens-before starts: the agents' orders, which are closed; and what inits add to them. Assumes nothing.
--     linked_start     the masks of later events are closed, those of earlier ones their columns
--     linked_from, linked_own, linked_steps     the same as the code makes it, whatever comes on top, and the whole
--     inits_own        with what each init meets they are the steps that events make by themselves
use mathlib.Core.Path.{◌≡◌, refl, sym, ap, subst, ◌∙◌}
use mathlib.Core.Bool.{Bool, true, false, cond, ◌||◌}
use mathlib.Core.List.{List}
use Prim.Native.Nat.{ℕ, zero, suc, ◌<◌, ◌≤◌}
use native.Mathlib.Omega.{arith}
use native.Mathlib.Decide.{ℕ_discrete, dec_lt}
use borrow.Author.Tests.{lt-ltb, ltb-true, eq-eqb, eqb-true}
use lib.Bits.{bit_or}
use lib.Dec.{eqb, ltb}
use lib.ListN.{length, get_or, set, replicate, length-set, length-replicate, get_or-replicate}
use lib.Seq.{get_or-set_same, get_or-set_other, ext_get_or}
use Rattle.basis.proofs.BoolLaws.{and_holds, and_both, by_bool, not_both_ways}
use Rattle.sets.specs.Mask.{slots, mem, Has}
use Rattle.sets.proofs.MaskLaws.{mem_or, mem_empty, ext_all}
use Rattle.closing.specs.Closure.{taken, Reach, step, more, Closed}
use Rattle.cells.specs.Walk.{up_to, picked}
use Rattle.cells.specs.Cells.{placing}
use Rattle.cells.proofs.WalkLaws.{mem_picked}
use Rattle.cells.proofs.CellsLaws.{placing_length, placing_beyond, placing_at}
use Rattle.tables.specs.Tables.{agent_in}
use Rattle.own.specs.Own.{met_in, later_in, own_in, later_of, earlier_of}
use Rattle.before.specs.Before.{row_steps_in, pair_steps_in, steps_in, ClosedSteps}
use Rattle.before.specs.steps.Linked.{Linked, Merged, init_at, inits_in}
use Rattle.before.proofs.LinkedLaws.{linked_turned}

-- e is no init, and d, below n, is later in its agent's order
abbrev Later : List ℕ → ℕ → ℕ → ℕ → Type 0
Later t n e d = (eqb (agent_in t e) 0 ≡ false) × (d < n) × (agent_in t e ≡ agent_in t d) × (e < d)

module _ (t : List ℕ) (n : ℕ) where
  later_out : (e d : ℕ) → Has (later_of t n e) d → Later t n e d
  unfolding later_of later_in
  later_out e d h =
      by_bool (eqb (agent_in t e) 0)
      (λ q. absurd (not_both_ways (subst (λ (b : Bool). Has (cond b 0 (picked n (later_in t e))) d) q h) (mem_empty d)))
      (λ q.
      let p = and_both (ltb d n) (later_in t e d) (sym (mem_picked n (later_in t e) d) ∙ subst (λ (b : Bool). Has (cond b 0 (picked n (later_in t e))) d) q h) in
      let r = and_both (eqb (agent_in t e) (agent_in t d)) (ltb e d) p.1 in
      (q, ltb-true d n p.0, eqb-true _ _ r.0, ltb-true e d r.1))

  later_in_lem : (e d : ℕ) → Later t n e d → Has (later_of t n e) d
  unfolding later_of later_in
  later_in_lem e d (q, a, b, c) =
      subst (λ (x : Bool). Has (cond x 0 (picked n (later_in t e))) d) (sym q)
      (mem_picked n (later_in t e) d ∙ and_holds (ltb d n) _ (lt-ltb d n a) ∙ and_holds (eqb (agent_in t e) (agent_in t d)) _ (eq-eqb _ _ b) ∙ lt-ltb e d c)

  earlier_out : (d e : ℕ) → Has (earlier_of t n d) e → (eqb (agent_in t d) 0 ≡ false) × (e < n) × (agent_in t e ≡ agent_in t d) × (e < d)
  unfolding earlier_of later_in
  earlier_out d e h =
      by_bool (eqb (agent_in t d) 0)
      (λ q. absurd (not_both_ways (subst (λ (b : Bool). Has (cond b 0 (picked n (λ (i : ℕ). later_in t i d))) e) q h) (mem_empty e)))
      (λ q.
      let p = and_both (ltb e n) (later_in t e d) (sym (mem_picked n (λ (i : ℕ). later_in t i d) e) ∙ subst (λ (b : Bool). Has (cond b 0 (picked n (λ (i : ℕ). later_in t i d))) e) q h) in
      let r = and_both (eqb (agent_in t e) (agent_in t d)) (ltb e d) p.1 in
      (q, ltb-true e n p.0, eqb-true _ _ r.0, ltb-true e d r.1))

  earlier_in : (d e : ℕ) → eqb (agent_in t d) 0 ≡ false → e < n → agent_in t e ≡ agent_in t d → e < d → Has (earlier_of t n d) e
  unfolding earlier_of later_in
  earlier_in d e q a b c =
      subst (λ (x : Bool). Has (cond x 0 (picked n (λ (i : ℕ). later_in t i d))) e) (sym q)
      (mem_picked n (λ (i : ℕ). later_in t i d) e ∙ and_holds (ltb e n) _ (lt-ltb e n a) ∙ and_holds (eqb (agent_in t e) (agent_in t d)) _ (eq-eqb _ _ b) ∙ lt-ltb e d c)

  module _ (few : n ≤ slots) (l : List ℕ) (size : length l ≡ slots) where
    abbrev rows : List ℕ
    rows = placing (later_of t n) n l

    abbrev cols : List ℕ
    cols = placing (earlier_of t n) n (replicate slots 0)

    row : (e : ℕ) → e < n → get_or rows e 0 ≡ later_of t n e
    row e h = placing_at (later_of t n) l n e h (omega arith)

    later : (e d : ℕ) → e < n → Has (get_or rows e 0) d → Later t n e d
    later e d h q = later_out e d (subst (λ (x : ℕ). Has x d) (row e h) q)

    whole : (e d : ℕ) → e < n → Reach n rows e d → Has (get_or rows e 0) d
    whole e d h (step q) = q
    whole e d h (more {m = m} q j r) =
        let a = later e m h q in
        let b = later m d j (whole m d j r) in
        subst (λ (x : ℕ). Has x d) (sym (row e h)) (later_in_lem e d (a.0, b.1, a.2 ∙ b.2, (let x = a.3 in let y = b.3 in omega arith)))

    agent : (e d : ℕ) → agent_in t e ≡ agent_in t d → eqb (agent_in t e) 0 ≡ false → eqb (agent_in t d) 0 ≡ false
    agent e d q h = ap (λ (x : ℕ). eqb x 0) (sym q) ∙ h

    columns : (d : ℕ) → d < slots → (e : ℕ) → Has (get_or cols d 0) e → (e < n) × Has (get_or rows e 0) d
    columns d s e h = go (dec_lt d n)
      where
        go : Dec (d < n) → (e < n) × Has (get_or rows e 0) d
        go (yes q) =
            let a = earlier_out d e (subst (λ (x : ℕ). Has x e) (placing_at (earlier_of t n) (replicate slots 0) n d q (let z = length-replicate {A = ℕ} slots 0 in omega arith)) h) in
            (a.1, subst (λ (x : ℕ). Has x d) (sym (row e a.1)) (later_in_lem e d (agent d e (sym a.2) a.0, q, a.2, a.3)))
        go (no q) = absurd (not_both_ways h (ap (λ (x : ℕ). mem x e) (placing_beyond (earlier_of t n) (replicate slots 0) n d (omega (arith, q)) ∙ get_or-replicate slots d 0 0 s) ∙ mem_empty e))

    turn : (d : ℕ) → d < slots → (e : ℕ) → (e < n) × Has (get_or rows e 0) d → Has (get_or cols d 0) e
    turn d s e h =
        let a = later e d h.0 h.1 in
        subst (λ (x : ℕ). Has x e) (sym (placing_at (earlier_of t n) (replicate slots 0) n d a.1 (let z = length-replicate {A = ℕ} slots 0 in omega arith)))
        (earlier_in d e (agent e d a.2 a.0) h.0 a.2 a.3)

    pub linked_start : Linked n (placing (later_of t n) n l) (placing (later_of t n) n l) (placing (earlier_of t n) n (replicate slots 0))
    linked_start =
        record {
          size = placing_length (later_of t n) l n ∙ size;
          width = placing_length (earlier_of t n) (replicate slots 0) n ∙ length-replicate {A = ℕ} slots 0;
          closed = record { size = refl; reach = λ e h d. (step, whole e d h); rest = refl };
          turned = λ d s e. (columns d s e, turn d s e);
        }

  -- ---- inits

  abbrev init_mask : ℕ → ℕ → ℕ
  init_mask e y = cond (eqb (agent_in t e) 0) (bit_or y (picked n (met_in t e))) y

  inits_length : (m : ℕ) (l : List ℕ) → length (inits_in t n m l) ≡ length l
  unfolding inits_in up_to init_at
  inits_length zero l = refl
  inits_length (suc m) l = go (eqb (agent_in t m) 0) ∙ inits_length m l
    where
      go : (b : Bool) → length (cond b (set (inits_in t n m l) m (bit_or (get_or (inits_in t n m l) m 0) (picked n (met_in t m)))) (inits_in t n m l)) ≡ length (inits_in t n m l)
      go true = length-set (inits_in t n m l) m (bit_or (get_or (inits_in t n m l) m 0) (picked n (met_in t m)))
      go false = refl

  module _ (l : List ℕ) (e : ℕ) (here : e < length l) where
    inits_later : (m : ℕ) → m ≤ e → get_or (inits_in t n m l) e 0 ≡ get_or l e 0
    unfolding inits_in up_to init_at
    inits_later zero h = refl
    inits_later (suc m) h = go (eqb (agent_in t m) 0) ∙ inits_later m (omega arith)
      where
        go : (b : Bool) → get_or (cond b (set (inits_in t n m l) m (bit_or (get_or (inits_in t n m l) m 0) (picked n (met_in t m)))) (inits_in t n m l)) e 0 ≡ get_or (inits_in t n m l) e 0
        go true = get_or-set_other (inits_in t n m l) m e (bit_or (get_or (inits_in t n m l) m 0) (picked n (met_in t m))) 0 (λ q. absurd (omega arith))
        go false = refl

    inits_done : (m : ℕ) → e < m → get_or (inits_in t n m l) e 0 ≡ init_mask e (get_or l e 0)
    unfolding inits_in up_to init_at
    inits_done zero h = absurd (omega (arith, h))
    inits_done (suc m) h = pick (ℕ_discrete e m) (λ q. inits_done m q)
      where
        there : m < length l → (b : Bool) → get_or (cond b (set (inits_in t n m l) m (bit_or (get_or (inits_in t n m l) m 0) (picked n (met_in t m)))) (inits_in t n m l)) m 0 ≡ cond b (bit_or (get_or (inits_in t n m l) m 0) (picked n (met_in t m))) (get_or (inits_in t n m l) m 0)
        there i true = get_or-set_same (inits_in t n m l) m (bit_or (get_or (inits_in t n m l) m 0) (picked n (met_in t m))) 0 (let z = inits_length m l in omega arith)
        there i false = refl

        other : (e ≡ m → ⊥) → (b : Bool) → get_or (cond b (set (inits_in t n m l) m (bit_or (get_or (inits_in t n m l) m 0) (picked n (met_in t m)))) (inits_in t n m l)) e 0 ≡ get_or (inits_in t n m l) e 0
        other q true = get_or-set_other (inits_in t n m l) m e (bit_or (get_or (inits_in t n m l) m 0) (picked n (met_in t m))) 0 q
        other q false = refl

        pick : Dec (e ≡ m) → (e < m → get_or (inits_in t n m l) e 0 ≡ init_mask e (get_or l e 0)) → get_or (init_at t n m (inits_in t n m l)) e 0 ≡ init_mask e (get_or l e 0)
        pick (yes q) f =
            ap (λ (i : ℕ). get_or (init_at t n m (inits_in t n m l)) i 0) q ∙ there (omega arith) (eqb (agent_in t m) 0)
            ∙ ap (λ (i : ℕ). init_mask i (get_or (inits_in t n m l) i 0)) (sym q)
            ∙ ap (init_mask e) (inits_later m (omega arith))
        pick (no q) f = other q (eqb (agent_in t m) 0) ∙ f (omega (arith, q))

  -- an init's mask is empty before, and another's stays
  own : (e : ℕ) → init_mask e (later_of t n e) ≡ own_in t n e
  unfolding later_of own_in
  own e = go (eqb (agent_in t e) 0)
    where
      empty : (x : ℕ) → bit_or 0 x ≡ x
      empty x = ext_all (bit_or 0 x) x (λ d. mem_or 0 x d ∙ ap (λ (b : Bool). b || mem x d) (mem_empty d))

      go : (b : Bool) → cond b (bit_or (cond b 0 (picked n (later_in t e))) (picked n (met_in t e))) (cond b 0 (picked n (later_in t e))) ≡ cond b (picked n (met_in t e)) (picked n (later_in t e))
      go true = empty (picked n (met_in t e))
      go false = refl

  pub inits_own : n ≤ slots → (l : List ℕ) → length l ≡ slots → inits_in t n n (placing (later_of t n) n l) ≡ placing (own_in t n) n l
  inits_own few l size =
      ext_get_or 0 (inits_in t n n (placing (later_of t n) n l)) (placing (own_in t n) n l)
      (inits_length n (placing (later_of t n) n l) ∙ placing_length (later_of t n) l n ∙ sym (placing_length (own_in t n) l n))
      (λ e h. go e (let z = inits_length n (placing (later_of t n) n l) in let y = placing_length (later_of t n) l n in omega arith) (dec_lt e n))
    where
      go : (e : ℕ) → e < slots → Dec (e < n) → get_or (inits_in t n n (placing (later_of t n) n l)) e 0 ≡ get_or (placing (own_in t n) n l) e 0
      go e s (yes h) =
          inits_done (placing (later_of t n) n l) e (let y = placing_length (later_of t n) l n in omega arith) n h
          ∙ ap (init_mask e) (placing_at (later_of t n) l n e h (omega arith)) ∙ own e ∙ sym (placing_at (own_in t n) l n e h (omega arith))
      go e s (no h) =
          inits_later (placing (later_of t n) n l) e (let y = placing_length (later_of t n) l n in omega arith) n (omega (arith, h))
          ∙ placing_beyond (later_of t n) l n e (omega (arith, h)) ∙ sym (placing_beyond (own_in t n) l n e (omega (arith, h)))

  -- ---- the whole, as the code makes it

  module _ (few : n ≤ slots) (l : List ℕ) (size : length l ≡ slots) where
    pub linked_from : (s c : List ℕ) → s ≡ placing (later_of t n) n l → c ≡ placing (earlier_of t n) n (replicate slots 0) → Linked n (placing (later_of t n) n l) s c
    linked_from s c a b =
        subst (λ (x : List ℕ). Linked n (placing (later_of t n) n l) x c) (sym a)
        (subst (λ (x : List ℕ). Linked n (placing (later_of t n) n l) (placing (later_of t n) n l) x) (sym b) (linked_start few l size))

    pub linked_own : (F : List ℕ → List ℕ) {s c : List ℕ} → Linked n (F (inits_in t n n (placing (later_of t n) n l))) s c → Linked n (F (placing (own_in t n) n l)) s c
    linked_own F {s} {c} k = subst (λ (x : List ℕ). Linked n (F x) s c) (inits_own few l size) k

  pub linked_steps : n ≤ slots → (q : List ℕ) (m : ℕ) (p : List ℕ) (k : ℕ) (l s c pred pred' : List ℕ) → Linked n (pair_steps_in p k (row_steps_in t q m (placing (own_in t n) n l))) s c
      → length pred ≡ slots → Merged pred c pred' → ClosedSteps t n q m p k l s pred pred'
  unfolding steps_in
  linked_steps few q m p k l s c pred pred' i size g =
      let all : taken n (steps_in t n q m p k l) ≡ n = let z = i.closed.size in let y = i.size in omega arith in
      record { closed = subst (λ (x : ℕ). Closed x (steps_in t n q m p k l) s) (sym all) i.closed; turned = linked_turned few i pred pred' size g }

-- The search of proofs/Outcome.antt finds the first order, or there is none. A candidate is free exactly where the event is `Ready`; the laws of
-- orders/proofs/StepLaws.antt say what may be concluded. Assumes nothing.
--     kept_elim, kept_intro      the entries of a list that pass
--     search_result              what a search comes to, from the events placed so far
--     first_order_lem                so of all events: the first order that meets the rules, or there is none
use mathlib.Core.Path.{◌≡◌, refl, sym, subst}
use mathlib.Core.Logic.{◌⊎◌, inl, inr, ⊎_elim}
use mathlib.Core.Bool.{Bool, true, false}
use mathlib.Core.List.Memᴰ
use mathlib.Core.List.{List, [], ◌∷◌, ◌++◌, Memᴰ}
use mathlib.Core.Option.{Option, none, some}
use Prim.Native.Nat.{ℕ, zero, suc, ◌+◌, ◌≤◌, ◌<◌, zero-le}
use native.Mathlib.Omega.{arith}
use native.Mathlib.Decide.{ℕ_discrete, dec_lt}
use lib.Dec.{T, eqb, eqb→eq, eqb_refl}
use lib.ListN.{length}
use Rattle.basis.specs.Test.{◌and◌, non, any, ◌else◌, mapped, across, from}
use Rattle.basis.proofs.BoolLaws.{and_elim, and_intro, or_cases, or_left, or_right, non_elim, non_intro}
use Rattle.basis.proofs.ListLaws.{across_left, across_mem, from_mem, from_elim, from_length}
use Rattle.basis.proofs.LoopLaws.{any_elim, any_intro}
use Rattle.format.specs.declared.Row.{Row}
use Rattle.format.specs.Execution.{Execution, inits, others}
use Rattle.orders.specs.Problem.{Problem}
use Rattle.orders.specs.Order.{Meets}
use Rattle.orders.specs.First.{FirstOf}
use Rattle.orders.specs.Step.{With, Below, Ready, Runs, Dead}
use Rattle.orders.proofs.StepLaws.{Same, same_dead, same_first, dead_here, first_end, first_step}
use Rattle.orders.proofs.InitsLaws.{whole_first, whole_none}
use Rattle.model.specs.Events.{numbers}
use Rattle.model.specs.Happens.{Tests}
use Rattle.model.specs.Bar.{row_bars, bar}
use Rattle.model.specs.Order.{problem}
use Rattle.model.proofs.EventsLaws.{number_mem}
use Rattle.model.proofs.Sound.{Sound}
use Rattle.model.proofs.HappensLaws.{happens_inside, reader_inside}
use Rattle.model.proofs.BarLaws.{bar_elim, bar_intro}
use Rattle.model.proofs.OrderLaws.{inits_others, begins}
use Rattle.model.proofs.Outcome.{member, put, kept, without, bar_list, first_of, gated, unless_done, free, search, first_order}

-- ---- lists

module _ {A : Type 0} (f : A → Bool) where
  pub kept_elim : (l : List A) (a : A) → Memᴰ a (kept f l) → Memᴰ a l × T (f a)
  unfolding kept put
  kept_elim [] a m = absurd (Memᴰ.not-nil m)
  kept_elim (c ∷ l) a m = on (f c) (λ t. t) m (kept_elim l a)
    where
      on : (b : Bool) → (T b → T (f c)) → Memᴰ a (put b c (kept f l)) → (Memᴰ a (kept f l) → Memᴰ a l × T (f a)) → Memᴰ a (c ∷ l) × T (f a)
      on true y (Memᴰ.head q) ih = (Memᴰ.head q, subst (λ (d : A). T (f d)) (sym q) (y tt))
      on true y (Memᴰ.tail k) ih = let w = ih k in (Memᴰ.tail w.0, w.1)
      on false y k ih = let w = ih k in (Memᴰ.tail w.0, w.1)

  kept_intro_of : (a : A) (l : List A) → Memᴰ a l → T (f a) → Memᴰ a (kept f l)
  unfolding kept put
  kept_intro_of a l (Memᴰ.head {x = c} {xs = k} q) t = on (f c) (subst (λ (d : A). T (f d)) q t)
    where
      on : (b : Bool) → T b → Memᴰ a (put b c (kept f k))
      on true s = Memᴰ.head q
      on false s = absurd s
  kept_intro_of a l (Memᴰ.tail {x = c} {xs = k} m) t = on (f c) (kept_intro_of a k m t)
    where
      on : (b : Bool) → Memᴰ a (kept f k) → Memᴰ a (put b c (kept f k))
      on true ih = Memᴰ.tail ih
      on false ih = ih

  pub kept_intro : (l : List A) (a : A) → Memᴰ a l → T (f a) → Memᴰ a (kept f l)
  kept_intro l a m t = kept_intro_of a l m t

  kept_length : (l : List A) → length (kept f l) ≤ length l
  unfolding kept put
  kept_length [] = omega arith
  kept_length (c ∷ l) = on (f c) (kept_length l)
    where
      on : (b : Bool) → length (kept f l) ≤ length l → length (put b c (kept f l)) ≤ length (c ∷ l)
      on true ih = omega arith
      on false ih = omega arith

  kept_shorter_of : (a : A) (l : List A) → Memᴰ a l → (T (f a) → ⊥) → length (kept f l) < length l
  unfolding kept put
  kept_shorter_of a l (Memᴰ.head {x = c} {xs = k} q) h = on (f c) (λ t. h (subst (λ (d : A). T (f d)) (sym q) t)) (kept_length k)
    where
      on : (b : Bool) → (T b → ⊥) → length (kept f k) ≤ length k → length (put b c (kept f k)) < length (c ∷ k)
      on true n ih = absurd (n tt)
      on false n ih = omega arith
  kept_shorter_of a l (Memᴰ.tail {x = c} {xs = k} m) h = on (f c) (kept_shorter_of a k m h)
    where
      on : (b : Bool) → length (kept f k) < length k → length (put b c (kept f k)) < length (c ∷ k)
      on true ih = omega arith
      on false ih = omega arith

  kept_shorter : (l : List A) (a : A) → Memᴰ a l → (T (f a) → ⊥) → length (kept f l) < length l
  kept_shorter l a m h = kept_shorter_of a l m h

abbrev Rising : List ℕ → Type 0
Rising [] = Unit {0}
Rising (c ∷ l) = ((d : ℕ) → Memᴰ d l → c < d) × Rising l

kept_rising : (f : ℕ → Bool) (l : List ℕ) → Rising l → Rising (kept f l)
unfolding kept put
kept_rising f [] h = tt
kept_rising f (c ∷ l) h = on (f c) (kept_rising f l h.1)
  where
    on : (b : Bool) → Rising (kept f l) → Rising (put b c (kept f l))
    on true ih = ((λ d m. h.0 d (kept_elim f l d m).0), ih)
    on false ih = ih

from_rising : (n s : ℕ) → Rising (from s n)
unfolding from
from_rising zero s = tt
from_rising (suc n) s = ((λ d m. omega (arith, from_elim n (suc s) d m)), from_rising n (suc s))

member_elim : (e : ℕ) (l : List ℕ) → T (member e l) → Memᴰ e l
unfolding member
member_elim e l t = let w = any_elim (eqb e) l t in Memᴰ.cast (eqb→eq _ _ w.2) w.1

member_intro : (e : ℕ) (l : List ℕ) → Memᴰ e l → T (member e l)
unfolding member
member_intro e l m = any_intro (eqb e) l e m (eqb_refl e)

same_eqb : (e c : ℕ) → e ≡ c → T (eqb e c)
same_eqb e c q = subst (λ (i : ℕ). T (eqb e i)) q (eqb_refl e)

without_shorter : (c : ℕ) (l : List ℕ) → Memᴰ c l → length (without c l) < length l
unfolding without
without_shorter c l m = kept_shorter (λ (d : ℕ). non (eqb c d)) l c m (λ t. non_elim _ t (eqb_refl c))

-- ---- the set of the events placed

abbrev Set : List ℕ → ℕ → Type 0
Set placed d = T (member d placed)

member_more : (c : ℕ) (placed : List ℕ) → Same (Set (c ∷ placed)) (With (Set placed) c)
unfolding member any
member_more c placed d = (
  λ t. ⊎_elim (λ q. inl (eqb→eq _ _ q)) (λ s. inr s) (or_cases _ _ t),
  ⊎_elim (λ q. or_left _ _ (same_eqb d c q)) (λ s. or_right _ _ s),
)

-- what a search comes to
abbrev pub SearchResult : Problem → (ℕ → Type 0) → Option (List ℕ) → Type 0
SearchResult P S none = Dead P S
SearchResult P S (some l) = FirstOf (Runs P S) l

module _ (x : Execution) (hb : ℕ → ℕ → Bool) (so : Sound x) (tests : Tests x hb) where
  -- each event is placed or left, and not both
  record Split (placed rest : List ℕ) : Type 0 where
    event : (e : ℕ) → Memᴰ e rest → e < length x.events
    fresh : (e : ℕ) → Memᴰ e rest → T (member e placed) → ⊥
    cover : (e : ℕ) → e < length x.events → T (member e placed) ⊎ Memᴰ e rest
    rising : Rising rest

  split_more : (placed rest : List ℕ) (c : ℕ) → Split placed rest → Split (c ∷ placed) (without c rest)
  unfolding without
  split_more placed rest c s = record {
    event = λ e m. s.event e (kept_elim _ rest e m).0;
    fresh = λ e m t. let w = kept_elim (λ (d : ℕ). non (eqb c d)) rest e m in old e w ((member_more c placed e).0 t);
    cover = λ e h. new e (s.cover e h) (ℕ_discrete e c);
    rising = kept_rising _ rest s.rising;
  }
    where
      old : (e : ℕ) → Memᴰ e rest × T (non (eqb c e)) → With (Set placed) c e → ⊥
      old e w (inl q) = non_elim _ w.1 (same_eqb c e (sym q))
      old e w (inr q) = s.fresh e w.0 q

      new : (e : ℕ) → T (member e placed) ⊎ Memᴰ e rest → Dec (e ≡ c) → T (member e (c ∷ placed)) ⊎ Memᴰ e (kept (λ (d : ℕ). non (eqb c d)) rest)
      new e p (yes q) = inl ((member_more c placed e).1 (inl q))
      new e (inl p) (no q) = inl ((member_more c placed e).1 (inr p))
      new e (inr p) (no q) = inr (kept_intro (λ (d : ℕ). non (eqb c d)) rest e p (non_intro _ (λ t. q (sym (eqb→eq _ _ t)))))

  -- a bar as an entry of the list
  bar_mem : (r w v : ℕ) → v < length x.events → T (bar x hb r w v) → (p : Row × ℕ) × Memᴰ p (bar_list x hb) × (p.0.reader ≡ r) × (p.0.writer ≡ w) × (p.1 ≡ v)
  unfolding bar_list
  bar_mem r w v h t =
      let k = bar_elim x hb r w v t in (
        (k.0, v),
        kept_intro (λ (p : Row × ℕ). row_bars x hb p.0 p.1) (across x.rows (numbers x)) (k.0, v)
            (across_mem x.rows (numbers x) k.0 v k.1 (number_mem x v h)) k.4,
        k.2,
        k.3,
        refl,
      )

  mem_bar : (p : Row × ℕ) → Memᴰ p (bar_list x hb) → T (bar x hb p.0.reader p.0.writer p.1)
  unfolding bar_list
  mem_bar p m =
      let w = kept_elim (λ (q : Row × ℕ). row_bars x hb q.0 q.1) (across x.rows (numbers x)) p m in
      bar_intro x hb p.0 p.1 (across_left x.rows (numbers x) p w.0) w.1

  module _ (placed rest : List ℕ) (s : Split placed rest) (c : ℕ) (m : Memᴰ c rest) where
    free_ready : T (free hb (bar_list x hb) placed rest c) → Ready (problem x hb) (Set placed) c
    unfolding free
    free_ready t = record {
      event = s.event c m;
      fresh = s.fresh c m;
      after = λ a h. back a h (s.cover a (happens_inside x so ((tests a c).0 h)).0);
      clear = λ r w h k. let q = bar_mem r w c (s.event c m) h in reader r w h k q (s.cover r (inside r w h));
    }
      where
        back : (a : ℕ) → T (hb a c) → T (member a placed) ⊎ Memᴰ a rest → T (member a placed)
        back a h (inl p) = p
        back a h (inr p) = absurd (non_elim _ (and_elim _ _ t).0 (any_intro (λ (d : ℕ). hb d c) rest a p h))

        inside : (r w : ℕ) → T (bar x hb r w c) → r < length x.events
        inside r w h = let k = bar_elim x hb r w c h in subst (λ (i : ℕ). i < length x.events) k.2 (reader_inside x so k.0 k.1)

        reader : (r w : ℕ) → T (bar x hb r w c) → T (member w placed)
            → (p : Row × ℕ) × Memᴰ p (bar_list x hb) × (p.0.reader ≡ r) × (p.0.writer ≡ w) × (p.1 ≡ c) → T (member r placed) ⊎ Memᴰ r rest → T (member r placed)
        reader r w h k q (inl p) = p
        reader r w h k q (inr p) = absurd (non_elim _ (and_elim _ _ t).1
            (any_intro (λ (b : Row × ℕ). eqb b.1 c and member b.0.writer placed and member b.0.reader rest) (bar_list x hb) q.0 q.1
            (and_intro _ _ (same_eqb _ _ q.4) (and_intro _ _ (subst (λ (i : ℕ). T (member i placed)) (sym q.3) k)
            (subst (λ (i : ℕ). T (member i rest)) (sym q.2) (member_intro r rest p))))))

    ready_free : Ready (problem x hb) (Set placed) c → T (free hb (bar_list x hb) placed rest c)
    unfolding free
    ready_free r = and_intro _ _ (non_intro _ early) (non_intro _ barred)
      where
        early : T (any (λ (d : ℕ). hb d c) rest) → ⊥
        early t = let w = any_elim (λ (d : ℕ). hb d c) rest t in s.fresh w.0 w.1 (r.after w.0 w.2)

        barred : T (any (λ (b : Row × ℕ). eqb b.1 c and member b.0.writer placed and member b.0.reader rest) (bar_list x hb)) → ⊥
        barred t =
            let w = any_elim (λ (b : Row × ℕ). eqb b.1 c and member b.0.writer placed and member b.0.reader rest) (bar_list x hb) t in
            let p = and_elim _ _ w.2 in
            let q = and_elim _ _ p.1 in
            s.fresh w.0.0.reader (member_elim _ _ q.1)
            (r.clear w.0.0.reader w.0.0.writer
            (subst (λ (i : ℕ). T (bar x hb w.0.0.reader w.0.0.writer i)) (eqb→eq _ _ p.0) (mem_bar w.0 w.1)) q.0)

  module _ (k : ℕ) (placed rest : List ℕ) (s : Split placed rest) (e₀ : ℕ) (some_left : Memᴰ e₀ rest)
      (ih : (c : ℕ) → Memᴰ c rest → SearchResult (problem x hb) (Set (c ∷ placed)) (search hb (bar_list x hb) k (c ∷ placed) (without c rest))) where
    abbrev tried : ℕ → Option (List ℕ)
    tried c = gated (free hb (bar_list x hb) placed rest c) (mapped (λ (l : List ℕ). c ∷ l) (search hb (bar_list x hb) k (c ∷ placed) (without c rest)))

    -- of the events that can be placed, those that are no longer in the list lead to nothing
    tries : (cs : List ℕ) → ((d : ℕ) → Memᴰ d cs → Memᴰ d rest) → Rising cs
        → ((d : ℕ) → Ready (problem x hb) (Set placed) d → (Memᴰ d cs → ⊥) → Dead (problem x hb) (With (Set placed) d))
        → SearchResult (problem x hb) (Set placed) (first_of tried cs)
    unfolding first_of ◌else◌ gated mapped
    tries [] sub up done =
        dead_here (problem x hb) (Set placed) (λ h. s.fresh e₀ some_left (h e₀ (s.event e₀ some_left))) (λ e r. done e r (λ m. Memᴰ.not-nil m))
    tries (c ∷ cs) sub up done =
        on (free hb (bar_list x hb) placed rest c) (search hb (bar_list x hb) k (c ∷ placed) (without c rest)) (λ t. t) (ready_free placed rest s c (sub c (Memᴰ.head refl)))
        (ih c (sub c (Memᴰ.head refl))) (λ d. tries cs (λ e m. sub e (Memᴰ.tail m)) up.1 d)
      where
        -- with c dead, or not ready
        less : (Ready (problem x hb) (Set placed) c → Dead (problem x hb) (With (Set placed) c))
            → (d : ℕ) → Ready (problem x hb) (Set placed) d → (Memᴰ d cs → ⊥) → Dead (problem x hb) (With (Set placed) d)
        less dead d r out = same_or (ℕ_discrete d c)
          where
            same_or : Dec (d ≡ c) → Dead (problem x hb) (With (Set placed) d)
            same_or (yes q) = subst (λ (i : ℕ). Dead (problem x hb) (With (Set placed) i)) (sym q) (dead (subst (λ (i : ℕ). Ready (problem x hb) (Set placed) i) q r))
            same_or (no q) = done d r (λ m. ⊎_elim q out (Memᴰ.cases_cons m))

        on : (b : Bool) (o : Option (List ℕ)) → (T b → T (free hb (bar_list x hb) placed rest c)) → (Ready (problem x hb) (Set placed) c → T b)
            → SearchResult (problem x hb) (Set (c ∷ placed)) o
            → (((d : ℕ) → Ready (problem x hb) (Set placed) d → (Memᴰ d cs → ⊥) → Dead (problem x hb) (With (Set placed) d)) → SearchResult (problem x hb) (Set placed) (first_of tried cs))
            → SearchResult (problem x hb) (Set placed) (gated b (mapped (λ (l : List ℕ). c ∷ l) o) else first_of tried cs)
        on false none y z res go = go (less (λ r. absurd (z r)))
        on false (some l) y z res go = go (less (λ r. absurd (z r)))
        on true none y z res go = go (less (λ r. same_dead (problem x hb) (Set (c ∷ placed)) (With (Set placed) c) (member_more c placed) res))
        on true (some l) y z res go =
            first_step (problem x hb) (Set placed) c
            (record {
              ready = free_ready placed rest s c (sub c (Memᴰ.head refl)) (y tt);
              lower = λ d h r. done d r (λ m. ⊎_elim (λ q. omega (arith, h, q)) (λ n. omega (arith, h, up.0 d n)) (Memᴰ.cases_cons m));
            }) l (same_first (problem x hb) l (Set (c ∷ placed)) (With (Set placed) c) (member_more c placed) res)

  search_result : (k : ℕ) (placed rest : List ℕ) → length rest ≤ k → Split placed rest → SearchResult (problem x hb) (Set placed) (search hb (bar_list x hb) k placed rest)
  unfolding search unless_done
  search_result zero placed [] h s = first_end (problem x hb) (Set placed) (λ e g. ⊎_elim (λ t. t) (λ m. absurd (Memᴰ.not-nil m)) (s.cover e g))
  search_result zero placed (e ∷ l) h s = absurd (omega arith)
  search_result (suc k) placed [] h s = first_end (problem x hb) (Set placed) (λ e g. ⊎_elim (λ t. t) (λ m. absurd (Memᴰ.not-nil m)) (s.cover e g))
  search_result (suc k) placed (e ∷ l) h s =
      tries k placed (e ∷ l) s e (Memᴰ.head refl) (λ c m. search_result k (c ∷ placed) (without c (e ∷ l)) (omega (arith, without_shorter c (e ∷ l) m)) (split_more placed (e ∷ l) c s))
      (e ∷ l) (λ d m. m) s.rising (λ d r out. absurd (left d r (s.cover d r.event) out))
    where
      left : (d : ℕ) → Ready (problem x hb) (Set placed) d → T (member d placed) ⊎ Memᴰ d (e ∷ l) → (Memᴰ d (e ∷ l) → ⊥) → ⊥
      left d r (inl p) out = r.fresh p
      left d r (inr p) out = out p

  -- ---- from the inits on

  module _ (k m : ℕ) (whole : k + m ≡ length x.events) where
    start : Split (from 0 k) (from k m)
    start = record {
      event = λ e i. omega (arith, from_elim m k e i);
      fresh = λ e i t. omega (arith, from_elim m k e i, from_elim k 0 e (member_elim e (from 0 k) t));
      cover = λ e h. go e h (dec_lt e k);
      rising = from_rising m k;
    }
      where
        go : (e : ℕ) → e < length x.events → Dec (e < k) → T (member e (from 0 k)) ⊎ Memᴰ e (from k m)
        go e h (yes l) = inl (member_intro e (from 0 k) (from_mem k 0 e zero-le (omega arith)))
        go e h (no l) = inr (from_mem m k e (omega arith) (omega arith))

    placed_below : Same (Set (from 0 k)) (Below k)
    placed_below d = ((λ t. omega (arith, from_elim k 0 d (member_elim d (from 0 k) t))), λ h. member_intro d (from 0 k) (from_mem k 0 d zero-le (omega arith)))

  -- what the whole search comes to
  abbrev pub Found : Option (List ℕ) → Type 0
  Found none = (o : List ℕ) → Meets (problem x hb) o → ⊥
  Found (some o) = FirstOf (Meets (problem x hb)) o

  pub first_order_lem : Found (first_order x hb)
  unfolding first_order mapped
  first_order_lem = on (search hb (bar_list x hb) m (from 0 k) (from k m)) (search_result m (from 0 k) (from k m) (omega (arith, from_length k m)) (start k m (inits_others x)))
    where
      k : ℕ
      k = inits x.events

      m : ℕ
      m = others x.events

      on : (o : Option (List ℕ)) → SearchResult (problem x hb) (Set (from 0 k)) o → Found (mapped (λ (l : List ℕ). from 0 k ++ l) o)
      on none d = whole_none (problem x hb) k (begins x hb so tests) (same_dead (problem x hb) (Set (from 0 k)) (Below k) (placed_below k m (inits_others x)) d)
      on (some l) f = whole_first (problem x hb) k (begins x hb so tests) l (same_first (problem x hb) l (Set (from 0 k)) (Below k) (placed_below k m (inits_others x)) f)

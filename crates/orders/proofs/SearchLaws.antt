-- The search of proofs/Search.antt finds the first order of a posed problem (specs/Posed.antt), or there is none. A candidate is free exactly where
-- the event is `Ready`; the laws of StepLaws.antt say what may be concluded. Assumes nothing.
--     without_shorter                               one event fewer
--     Split, split_start, split_more, split_end     each event is placed or left: behind the inits; with one more placed; where none is left
--     FoundIn P o, found_same                       o is the first order that meets P, or none does; the same for an equivalent problem
--     search_result                                 what a search comes to, from the events placed so far
--     order_found, meets_from                       so of all events, where the inits may stand first; an order that meets it shows a way on from the inits
use mathlib.Core.Path.{◌≡◌, refl, sym, subst}
use mathlib.Core.Logic.{◌⊎◌, inl, inr, ⊎_elim, ◌↔◌}
use mathlib.Core.Bool.{Bool, true, false}
use mathlib.Core.List.Memᴰ
use mathlib.Core.List.{List, [], ◌∷◌, ◌++◌, Memᴰ}
use mathlib.Core.Option.{Option, none, some}
use Prim.Native.Nat.{ℕ, zero, suc, ◌+◌, ◌≤◌, ◌<◌, zero-le}
use native.Mathlib.Omega.{arith}
use native.Mathlib.Decide.{ℕ_discrete, dec_lt}
use lib.Dec.{T, eqb, eqb→eq, eqb_refl}
use lib.ListN.{length}
use Rattle.basis.specs.Test.{◌and◌, non, any, ◌else◌, mapped, from}
use Rattle.basis.proofs.BoolLaws.{and_elim, and_intro, or_cases, or_left, or_right, non_elim, non_intro}
use Rattle.basis.proofs.ListLaws.{from_mem, from_elim, from_length}
use Rattle.basis.proofs.LoopLaws.{any_elim, any_intro}
use Rattle.basis.proofs.FindLaws.{Sorted, sorted_from}
use Rattle.basis.proofs.ThoseLaws.{those_elim, those_intro, those_shorter, those_sorted}
use Rattle.orders.specs.Problem.{Problem}
use Rattle.orders.specs.Order.{Meets}
use Rattle.orders.specs.First.{FirstOf}
use Rattle.orders.specs.Step.{With, Below, Ready, Runs, Dead}
use Rattle.orders.specs.Inits.{Begins}
use Rattle.orders.specs.Posed.{Triple, posed}
use Rattle.orders.proofs.StepLaws.{Same, dead_here, first_end, first_step}
use Rattle.orders.proofs.OrderLaws.{meets_same, first_same}
use Rattle.orders.proofs.InitsLaws.{whole_first, whole_none}
use Rattle.orders.proofs.Search.{member, without, first_of, gated, unless_done, free, search, order_in}

-- ---- lists of events

same_eqb : (e c : ℕ) → e ≡ c → T (eqb e c)
same_eqb e c q = subst (λ (i : ℕ). T (eqb e i)) q (eqb_refl e)

member_elim : (e : ℕ) (l : List ℕ) → T (member e l) → Memᴰ e l
unfolding member
member_elim e l t = let w = any_elim (eqb e) l t in Memᴰ.cast (eqb→eq _ _ w.2) w.1

member_intro : (e : ℕ) (l : List ℕ) → Memᴰ e l → T (member e l)
unfolding member
member_intro e l m = any_intro (eqb e) l e m (eqb_refl e)

module _ (c : ℕ) (l : List ℕ) where
  without_elim : (e : ℕ) → Memᴰ e (without c l) → Memᴰ e l × (e ≡ c → ⊥)
  unfolding without
  without_elim e m = let w = those_elim (λ (d : ℕ). non (eqb c d)) l e m in (w.0, λ q. non_elim _ w.1 (same_eqb c e (sym q)))

  without_intro : (e : ℕ) → Memᴰ e l → (e ≡ c → ⊥) → Memᴰ e (without c l)
  unfolding without
  without_intro e m h = those_intro (λ (d : ℕ). non (eqb c d)) l e m (non_intro _ (λ t. h (sym (eqb→eq _ _ t))))

  pub without_shorter : Memᴰ c l → length (without c l) < length l
  unfolding without
  without_shorter m = those_shorter (λ (d : ℕ). non (eqb c d)) l c m (λ t. non_elim _ t (eqb_refl c))

-- ---- the events placed and those left

-- each event is placed or left, and not both; those left stand by their numbers
pub record Split (n : ℕ) (S : ℕ → Type 0) (rest : List ℕ) : Type 0 where
  pub event : (e : ℕ) → Memᴰ e rest → e < n
  pub fresh : (e : ℕ) → Memᴰ e rest → S e → ⊥
  pub cover : (e : ℕ) → e < n → S e ⊎ Memᴰ e rest
  pub rising : Sorted (λ (a b : ℕ). a < b) rest

pub split_start : (k m n : ℕ) → k + m ≡ n → Split n (Below k) (from k m)
split_start k m n whole = record {
  event = λ e i. omega (arith, from_elim m k e i);
  fresh = λ e i h. omega (arith, from_elim m k e i, h);
  cover = λ e h. go e h (dec_lt e k);
  rising = sorted_from m k;
}
  where
    go : (e : ℕ) → e < n → Dec (e < k) → Below k e ⊎ Memᴰ e (from k m)
    go e h (yes l) = inl l
    go e h (no l) = inr (from_mem m k e (omega arith) (omega arith))

pub split_more : (n : ℕ) (S : ℕ → Type 0) (rest : List ℕ) (c : ℕ) → Split n S rest → Split n (With S c) (without c rest)
unfolding without
split_more n S rest c s = record {
  event = λ e m. s.event e (without_elim c rest e m).0;
  fresh = λ e m. let w = without_elim c rest e m in ⊎_elim w.1 (s.fresh e w.0);
  cover = λ e h. moved e (s.cover e h) (ℕ_discrete e c);
  rising = those_sorted _ _ rest s.rising;
}
  where
    moved : (e : ℕ) → S e ⊎ Memᴰ e rest → Dec (e ≡ c) → With S c e ⊎ Memᴰ e (without c rest)
    moved e p (yes q) = inl (inl q)
    moved e (inl p) (no q) = inl (inr p)
    moved e (inr p) (no q) = inr (without_intro c rest e p q)

pub split_end : {n : ℕ} {S : ℕ → Type 0} → Split n S [] → (e : ℕ) → e < n → S e
split_end s e h = ⊎_elim (λ t. t) (λ m. absurd (Memᴰ.not-nil m)) (s.cover e h)

-- the set of the events of a list
abbrev Set : List ℕ → ℕ → Type 0
Set placed d = T (member d placed)

member_more : (S : ℕ → Type 0) (c : ℕ) (placed : List ℕ) → Same (Set placed) S → Same (Set (c ∷ placed)) (With S c)
unfolding member any
member_more S c placed same d = (
  λ t. ⊎_elim (λ q. inl (eqb→eq _ _ q)) (λ s. inr ((same d).0 s)) (or_cases _ _ t),
  ⊎_elim (λ q. or_left _ _ (same_eqb d c q)) (λ s. or_right _ _ ((same d).1 s)),
)

member_below : (k : ℕ) → Same (Set (from 0 k)) (Below k)
member_below k d = ((λ t. omega (arith, from_elim k 0 d (member_elim d (from 0 k) t))), λ h. member_intro d (from 0 k) (from_mem k 0 d zero-le (omega arith)))

-- ---- what is found

abbrev pub FoundIn : Problem → Option (List ℕ) → Type 0
FoundIn P none = (o : List ℕ) → Meets P o → ⊥
FoundIn P (some o) = FirstOf (Meets P) o

module _ (P Q : Problem) (events : Q.events ≡ P.events) (before : (a b : ℕ) → P.Before a b ↔ Q.Before a b)
    (bars : (r w v : ℕ) → P.Bar r w v ↔ Q.Bar r w v) where
  pub found_same : (o : Option (List ℕ)) → FoundIn P o → FoundIn Q o
  found_same none f = λ o m. f o ((meets_same P Q events before bars o).1 m)
  found_same (some o) f = first_same P Q events before bars o f

-- the same from a set of placed events on
abbrev pub SearchResult : Problem → (ℕ → Type 0) → Option (List ℕ) → Type 0
SearchResult P S none = Dead P S
SearchResult P S (some l) = FirstOf (Runs P S) l

module _ (n : ℕ) (hb : ℕ → ℕ → Bool) (l : List Triple) (earlier : (a b : ℕ) → T (hb a b) → a < n)
    (readers : (r w v : ℕ) → Memᴰ {A = Triple} (r, (w, v)) l → r < n) where
  abbrev P : Problem
  P = posed n hb l

  -- a bar that keeps c from being placed
  abbrev stops : List ℕ → List ℕ → ℕ → Triple → Bool
  stops placed rest c b = eqb b.1.1 c and member b.1.0 placed and member b.0 rest

  module _ (S : ℕ → Type 0) (placed rest : List ℕ) (same : Same (Set placed) S) (s : Split n S rest) (c : ℕ) (m : Memᴰ c rest) where
    free_ready : T (free hb l placed rest c) → Ready P S c
    unfolding free
    free_ready t = record {
      event = s.event c m;
      fresh = s.fresh c m;
      after = λ a h. ⊎_elim (λ p. p) (λ i. absurd (non_elim _ (and_elim _ _ t).0 (any_intro (λ (d : ℕ). hb d c) rest a i h))) (s.cover a (earlier a c h));
      clear = λ r w h p. ⊎_elim (λ q. q) (λ i. absurd (non_elim _ (and_elim _ _ t).1
          (any_intro (stops placed rest c) l (r, (w, c)) h
          (and_intro _ _ (eqb_refl c) (and_intro _ _ ((same w).1 p) (member_intro r rest i)))))) (s.cover r (readers r w c h));
    }

    ready_free : Ready P S c → T (free hb l placed rest c)
    unfolding free
    ready_free r = and_intro _ _ (non_intro _ early) (non_intro _ barred)
      where
        early : T (any (λ (d : ℕ). hb d c) rest) → ⊥
        early t = let w = any_elim (λ (d : ℕ). hb d c) rest t in s.fresh w.0 w.1 (r.after w.0 w.2)

        barred : T (any (stops placed rest c) l) → ⊥
        barred t =
            let w = any_elim (stops placed rest c) l t in
            let b = w.0 in
            let p = and_elim _ _ w.2 in
            let q = and_elim _ _ p.1 in
            s.fresh b.0 (member_elim _ _ q.1)
            (r.clear b.0 b.1.0 (subst (λ (i : ℕ). Memᴰ {A = Triple} (b.0, (b.1.0, i)) l) (eqb→eq _ _ p.0) w.1) ((same b.1.0).0 q.0))

  module _ (k : ℕ) (S : ℕ → Type 0) (placed rest : List ℕ) (same : Same (Set placed) S) (s : Split n S rest) (e₀ : ℕ) (some_left : Memᴰ e₀ rest)
      (ih : (c : ℕ) → Memᴰ c rest → SearchResult P (With S c) (search hb l k (c ∷ placed) (without c rest))) where
    abbrev tried : ℕ → Option (List ℕ)
    tried c = gated (free hb l placed rest c) (mapped (λ (o : List ℕ). c ∷ o) (search hb l k (c ∷ placed) (without c rest)))

    -- of the events that can be placed, those that are no longer in the list lead to nothing
    abbrev Done : List ℕ → Type 0
    Done cs = (d : ℕ) → Ready P S d → (Memᴰ d cs → ⊥) → Dead P (With S d)

    tries : (cs : List ℕ) → ((d : ℕ) → Memᴰ d cs → Memᴰ d rest) → Sorted (λ (a b : ℕ). a < b) cs → Done cs → SearchResult P S (first_of tried cs)
    unfolding first_of ◌else◌ gated mapped
    tries [] sub up done = dead_here P S (λ h. s.fresh e₀ some_left (h e₀ (s.event e₀ some_left))) (λ e r. done e r (λ m. Memᴰ.not-nil m))
    tries (c ∷ cs) sub up done =
        on (free hb l placed rest c) (search hb l k (c ∷ placed) (without c rest)) (free_ready S placed rest same s c here) (ready_free S placed rest same s c here)
        (ih c here) (λ d. tries cs (λ e m. sub e (Memᴰ.tail m)) up.1 d)
      where
        here : Memᴰ c rest
        here = sub c (Memᴰ.head refl)

        -- with c dead, or not ready
        less : (Ready P S c → Dead P (With S c)) → Done cs
        less dead d r out = by (ℕ_discrete d c)
          where
            by : Dec (d ≡ c) → Dead P (With S d)
            by (yes q) = subst (λ (i : ℕ). Dead P (With S i)) (sym q) (dead (subst (Ready P S) q r))
            by (no q) = done d r (λ m. ⊎_elim q out (Memᴰ.cases_cons m))

        on : (b : Bool) (o : Option (List ℕ)) → (T b → Ready P S c) → (Ready P S c → T b) → SearchResult P (With S c) o → (Done cs → SearchResult P S (first_of tried cs))
            → SearchResult P S (gated b (mapped (λ (o : List ℕ). c ∷ o) o) else first_of tried cs)
        on false none y z res go = go (less (λ r. absurd (z r)))
        on false (some o) y z res go = go (less (λ r. absurd (z r)))
        on true none y z res go = go (less (λ r. res))
        on true (some o) y z res go =
            first_step P S c
            (record {
              ready = y tt;
              lower = λ d h r. done d r (λ m. ⊎_elim (λ q. omega (arith, h, q)) (λ i. omega (arith, h, up.0 d i)) (Memᴰ.cases_cons m));
            }) o res

  pub search_result : (k : ℕ) (S : ℕ → Type 0) (placed rest : List ℕ) → length rest ≤ k → Same (Set placed) S → Split n S rest → SearchResult P S (search hb l k placed rest)
  unfolding search unless_done
  search_result zero S placed [] h same s = first_end P S (split_end s)
  search_result zero S placed (e ∷ rest) h same s = absurd (omega arith)
  search_result (suc k) S placed [] h same s = first_end P S (split_end s)
  search_result (suc k) S placed (e ∷ rest) h same s =
      tries k S placed (e ∷ rest) same s e (Memᴰ.head refl)
      (λ c m. search_result k (With S c) (c ∷ placed) (without c (e ∷ rest)) (omega (arith, without_shorter c (e ∷ rest) m)) (member_more S c placed same) (split_more n S (e ∷ rest) c s))
      (e ∷ rest) (λ d m. m) s.rising (λ d r out. absurd (⊎_elim r.fresh out (s.cover d r.event)))

-- from the inits on
module _ (k m n : ℕ) (whole : k + m ≡ n) (hb : ℕ → ℕ → Bool) (l : List Triple) (earlier : (a b : ℕ) → T (hb a b) → a < n) (begins : Begins (posed n hb l) k) where
  runs_found : SearchResult (posed n hb l) (Below k) (search hb l m (from 0 k) (from k m))
  runs_found =
      search_result n hb l earlier begins.bar_event m (Below k) (from 0 k) (from k m) (omega (arith, from_length k m)) (member_below k) (split_start k m n whole)

  pub order_found : FoundIn (posed n hb l) (order_in k m hb l)
  unfolding order_in mapped
  order_found = on (search hb l m (from 0 k) (from k m)) runs_found
    where
      on : (o : Option (List ℕ)) → SearchResult (posed n hb l) (Below k) o → FoundIn (posed n hb l) (mapped (λ (o : List ℕ). from 0 k ++ o) o)
      on none d = whole_none (posed n hb l) k begins d
      on (some o) f = whole_first (posed n hb l) k begins o f

  -- where some order meets the problem, there is a way on from the inits
  pub meets_from : (o : List ℕ) → Meets (posed n hb l) o → (p : List ℕ) × Runs (posed n hb l) (Below k) p
  meets_from o h = on (search hb l m (from 0 k) (from k m)) runs_found
    where
      on : (p : Option (List ℕ)) → SearchResult (posed n hb l) (Below k) p → (p : List ℕ) × Runs (posed n hb l) (Below k) p
      on none d = absurd (whole_none (posed n hb l) k begins d o h)
      on (some p) f = (p, f.is)

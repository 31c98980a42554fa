-- What `parse` accepts keeps the reader's promise: specs/Promise.antt. Kept field by field, then the tests after all fields. Assumes nothing.
--     promise : parse s ≡ whole x → WellFormed x
--     Kept, kept_blank, kept_after     what holds of an execution as far as it has been read: of nothing, of one field more
use mathlib.Core.Path.{◌≡◌, refl, sym, ◌∙◌, subst}
use mathlib.Core.Logic.{◌⊎◌, inl, inr, ⊎_elim}
use mathlib.Core.Bool.{Bool, true, false, false≢true}
use mathlib.Core.List.Memᴰ
use mathlib.Core.List.{List, [], ◌∷◌, ◌++◌, Memᴰ}
use mathlib.Core.Option.{none}
use Prim.Native.Nat.{ℕ, zero, suc, ◌-◌, ◌<◌, ◌≤◌}
use native.Mathlib.Omega.{arith}
use native.Mathlib.Nat.{eq-or-lt_of_le}
use borrow.Author.Tests.{ltb-true, ltb-false, eqb-true, eqb-false}
use lib.Dec.{T, eqb, ltb}
use lib.ListN.{length, get_or, length-append}
use Rattle.basis.specs.Test.{◌and◌, ◌or◌, non, any, all, number}
use Rattle.basis.proofs.BoolLaws.{and_elim, true_T, T_true, false_T, and_both, or_either}
use Rattle.basis.proofs.ListLaws.{each_snoc, two_snoc}
use Rattle.basis.proofs.LoopLaws.{any_elim, any_intro, number_snoc}
use Rattle.format.specs.declared.Head.{Head}
use Rattle.format.specs.declared.Row.{Row}
use Rattle.format.specs.declared.Pair.{Pair}
use Rattle.format.specs.Limits.{max_bytes, max_inits, max_others, max_pairs}
use Rattle.format.specs.Event.{Access, Event, nobody, is_init, meets, reads_at, reads_some}
use Rattle.format.specs.Execution.{Execution, event_no, event, inits, others, row_below, pair_below, blank_row, no_pair}
use Rattle.format.specs.Field.{tag_at, next_at, value_at}
use Rattle.format.specs.Layout.{edition_of, head_bytes, pair_bytes, row_bytes, head_of, agent_of, shape_of, event_of, row_of, pair_of}
use Rattle.content.specs.Content.{head_fits, joins, row_rises, row_fits, parts, pair_rises, pair_fits}
use Rattle.parse.specs.Parse.{whole, State, blank, head_fault, event_fault, row_fault, pair_fault, fault_at, taken, after, is_row, lowest_lacking, finish, fields_from, parse}
use Rattle.format.proofs.ExecutionLaws.{row_trans, pair_trans}
use Rattle.parse.specs.Promise.{WellEvent, row, OneRow, WellFormed}
use Rattle.parse.proofs.ParseLaws.{no_fault_non, not_whole, finished_whole, event_passed, was_none, was_2, was_3, was_4, known, head_clean, event_clean, row_clean, pair_clean, at_end, at_fault, at_field}
use Rattle.parse.proofs.LackLaws.{has_row}
use Rattle.parse.proofs.AppearLaws.{each_appear}
use Rattle.content.proofs.ContentLaws.{head_facts, room_init, room_other, JoinedFacts, joined, PartedFacts, parted}
use Rattle.parse.proofs.EventLaws.{well_event, stands_first_lem}

-- ---- what holds of an execution as far as it has been read

pub record KeptEvents (h : Head) (l : List Event) : Type 0 where
  pub well : (e : ℕ) → e < length l → WellEvent h (get_or l e nobody)
  first : (e d : ℕ) → e < d → d < length l → T (is_init (get_or l d nobody)) → T (is_init (get_or l e nobody))
  apart : (e d : ℕ) → e < d → d < length l → T (is_init (get_or l d nobody))
      → (a : Access) → Memᴰ a (get_or l d nobody).accesses → T (meets a.shape (get_or l e nobody)) → ⊥
  few_inits : inits l ≤ max_inits
  few_others : others l ≤ max_others

pub record KeptRows (events : List Event) (l : List Row) : Type 0 where
  pub joins : (j : ℕ) → j < length l → JoinedFacts events (get_or l j blank_row)
  pub rise : (i j : ℕ) → i < j → j < length l → T (row_below (get_or l i blank_row) (get_or l j blank_row))

record KeptPairs (events : List Event) (l : List Pair) : Type 0 where
  parts : (j : ℕ) → j < length l → PartedFacts events (get_or l j no_pair)
  rise : (i j : ℕ) → i < j → j < length l → T (pair_below (get_or l i no_pair) (get_or l j no_pair))
  few : length l ≤ max_pairs

pub record Kept (st : State) : Type 0 where
  head : 0 < st.tag → head_fits st.got.head ≡ true
  no_events : st.tag < 2 → st.got.events ≡ []
  no_rows : st.tag < 3 → st.got.rows ≡ []
  no_pairs : st.tag < 4 → st.got.pairs ≡ []
  pub events : KeptEvents st.got.head st.got.events
  pub rows : KeptRows st.got.events st.got.rows
  pairs : KeptPairs st.got.events st.got.pairs

-- ---- nothing yet

events_none : (h : Head) (l : List Event) → l ≡ [] → KeptEvents h l
unfolding inits others number
events_none h l e =
    subst (KeptEvents h) (sym e)
    (record { well = λ i j. absurd (omega arith); first = λ i j b c. absurd (omega arith); apart = λ i j b c. absurd (omega arith); few_inits = omega arith; few_others = omega arith })

rows_none : (events : List Event) (l : List Row) → l ≡ [] → KeptRows events l
rows_none events l e =
    subst (KeptRows events) (sym e) (record { joins = λ i j. absurd (omega arith); rise = λ i j b c. absurd (omega arith) })

pairs_none : (events : List Event) (l : List Pair) → l ≡ [] → KeptPairs events l
pairs_none events l e =
    subst (KeptPairs events) (sym e) (record { parts = λ i j. absurd (omega arith); rise = λ i j b c. absurd (omega arith); few = omega arith })

pub kept_blank : Kept blank
kept_blank =
    record {
      head = λ t. absurd (omega arith);
      no_events = λ _. refl;
      no_rows = λ _. refl;
      no_pairs = λ _. refl;
      events = events_none _ [] refl;
      rows = rows_none _ [] refl;
      pairs = pairs_none _ [] refl;
    }

-- ---- one event more

all_at : (l : List Event) → all is_init l ≡ true → (e : ℕ) → e < length l → T (is_init (get_or l e nobody))
unfolding all
all_at [] h e b = absurd (omega arith)
all_at (d ∷ l) h zero b = true_T _ (and_both (is_init d) (all is_init l) h).0
all_at (d ∷ l) h (suc e) b = all_at l (and_both (is_init d) (all is_init l) h).1 e (omega arith)

none_at : (p : Event → Bool) (l : List Event) → any p l ≡ false → (e : ℕ) → e < length l → T (p (get_or l e nobody)) → ⊥
none_at p [] h e b t = omega arith
none_at p (d ∷ l) h zero b t = false_T _ h (any_here t)
  where
    any_here : T (p d) → T (any p (d ∷ l))
    any_here u = any_intro p (d ∷ l) d (Memᴰ.head refl) u
none_at p (d ∷ l) h (suc e) b t = none_at p l (rest (any p l) refl) e (omega arith) t
  where
    rest : (c : Bool) → any p l ≡ c → any p l ≡ false
    rest false q = q
    rest true q = absurd (false_T _ h (let w = any_elim p l (true_T _ q) in any_intro p (d ∷ l) w.0 (Memᴰ.tail w.1) w.2))

module _ (h : Head) (l : List Event) (v : List ℕ) (k : KeptEvents h l) (e : event_fault h l v ≡ 0) where
  abbrev new : Event
  new = event_of h.edition v

  counts : (inits (l ++ (new ∷ [])) ≤ max_inits) × (others (l ++ (new ∷ [])) ≤ max_others)
  unfolding inits others is_init non
  counts = go (eqb (agent_of v) 0) refl
    where
      go : (b : Bool) → eqb (agent_of v) 0 ≡ b → (inits (l ++ (new ∷ [])) ≤ max_inits) × (others (l ++ (new ∷ [])) ≤ max_others)
      go true p =
          let r = room_init (inits l) (others l) (agent_of v) (event_passed h l v e).room p in
          let i = k.few_inits in
          let o = k.few_others in
          (rw (number_snoc is_init l new, p) (omega arith), rw (number_snoc (λ (d : Event). non (is_init d)) l new, p) (omega arith))
      go false p =
          let r = room_other (inits l) (others l) (agent_of v) (event_passed h l v e).room p in
          let i = k.few_inits in
          let o = k.few_others in
          (rw (number_snoc is_init l new, p) (omega arith), rw (number_snoc (λ (d : Event). non (is_init d)) l new, p) (omega arith))

  events_more : KeptEvents h (l ++ (new ∷ []))
  events_more =
      record {
        well = each_snoc nobody (WellEvent h) l new k.well (well_event h l v e);
        first = two_snoc nobody (λ (c d : Event). T (is_init d) → T (is_init c)) l new k.first (λ i b t. all_at l (stands_first_lem h l v e t).0 i b);
        apart =
            two_snoc nobody (λ (c d : Event). T (is_init d) → (a : Access) → Memᴰ a d.accesses → T (meets a.shape c) → ⊥) l new k.apart
            (λ i b t a m u. none_at (meets (shape_of h.edition v)) l (stands_first_lem h l v e t).1 i b (subst (λ (c : Access). T (meets c.shape (get_or l i nobody))) (Memᴰ.eq_of_singleton m) u));
        few_inits = counts.0;
        few_others = counts.1;
      }

-- ---- one row, one pair more

-- what is above the last of a rising list is above each of it
module _ {A : Type 0} (d : A) (below : A → A → Bool) (trans : (a b c : A) → T (below a b) → T (below b c) → T (below a c)) where
  above_each : (l : List A) (a : A) → ((i j : ℕ) → i < j → j < length l → T (below (get_or l i d) (get_or l j d)))
      → (eqb (length l) 0 or below (get_or l (length l - 1) d) a) ≡ true → (i : ℕ) → i < length l → T (below (get_or l i d) a)
  above_each l a r h i b = go (or_either (eqb (length l) 0) (below (get_or l (length l - 1) d) a) h) split
    where
      split : (i ≡ length l - 1) ⊎ (i < length l - 1)
      split = eq-or-lt_of_le (omega arith)

      go : (eqb (length l) 0 ≡ true) ⊎ (below (get_or l (length l - 1) d) a ≡ true) → (i ≡ length l - 1) ⊎ (i < length l - 1) → T (below (get_or l i d) a)
      go (inl z) s = absurd (let q = eqb-true (length l) 0 z in omega arith)
      go (inr t) (inl q) = subst (λ (j : ℕ). T (below (get_or l j d) a)) (sym q) (true_T _ t)
      go (inr t) (inr q) = trans (get_or l i d) (get_or l (length l - 1) d) a (r i (length l - 1) q (omega arith)) (true_T _ t)

rows_more : (h : Head) (events : List Event) (l : List Row) (v : List ℕ) → KeptRows events l → row_fault h events l v ≡ 0 → KeptRows events (l ++ (row_of h.edition v ∷ []))
unfolding row_fault row_fits row_rises
rows_more h events l v k e =
    let a = (no_fault_non (eqb (length v) (row_bytes h.edition)) 3 _ e).1 in
    let b = (no_fault_non (joins events (row_of h.edition v) and row_rises l (row_of h.edition v)) 6 _ a).0 in
    let w = and_both (joins events (row_of h.edition v)) (row_rises l (row_of h.edition v)) b in
    record {
      joins = each_snoc blank_row (JoinedFacts events) l (row_of h.edition v) k.joins (joined events (row_of h.edition v) w.0);
      rise = two_snoc blank_row (λ (q r : Row). T (row_below q r)) l (row_of h.edition v) k.rise (above_each blank_row row_below row_trans l (row_of h.edition v) k.rise w.1);
    }

pairs_more : (events : List Event) (l : List Pair) (v : List ℕ) → KeptPairs events l → pair_fault events l v ≡ 0 → KeptPairs events (l ++ (pair_of v ∷ []))
unfolding pair_fault pair_fits pair_rises
pairs_more events l v k e =
    let a = (no_fault_non (eqb (length v) pair_bytes) 3 _ e).1 in
    let b = no_fault_non (parts events (pair_of v) and pair_rises l (pair_of v)) 7 _ a in
    let w = and_both (parts events (pair_of v)) (pair_rises l (pair_of v)) b.0 in
    let c = ltb-true (length l) max_pairs (no_fault_non (ltb (length l) max_pairs) 8 _ b.1).0 in
    record {
      parts = each_snoc no_pair (PartedFacts events) l (pair_of v) k.parts (parted events (pair_of v) w.0);
      rise = two_snoc no_pair (λ (q r : Pair). T (pair_below q r)) l (pair_of v) k.rise (above_each no_pair pair_below pair_trans l (pair_of v) k.rise w.1);
      few = rw (length-append l (pair_of v ∷ [])) (omega arith);
    }

-- ---- one field more

module _ (s : List ℕ) (p : ℕ) (st : State) (f : fault_at s p st ≡ 0) (k : Kept st) where
  abbrev v : List ℕ
  v = value_at s p

  after_head : tag_at s p ≡ 1 → Kept (after s p st)
  unfolding after taken head_fault
  after_head e =
      let w = was_none s p st f e in
      let a = (no_fault_non (eqb (length v) (head_bytes (edition_of v))) 3 _ (head_clean s p st f e)).1 in
      let n = k.no_events (omega arith) in
      let o = k.no_rows (omega arith) in
      let q = k.no_pairs (omega arith) in
      simp e
      (record {
        head = λ _. (no_fault_non (head_fits (head_of (edition_of v) v)) 4 _ a).0;
        no_events = λ _. n;
        no_rows = λ _. o;
        no_pairs = λ _. q;
        events = events_none (head_of (edition_of v) v) st.got.events n;
        rows = k.rows;
        pairs = k.pairs;
      })

  after_event : tag_at s p ≡ 2 → Kept (after s p st)
  unfolding after taken
  after_event e =
      let w = was_2 s p st f e in
      let o = k.no_rows (omega arith) in
      let q = k.no_pairs (omega arith) in
      simp e
      (record {
        head = λ _. k.head (omega arith);
        no_events = λ t. absurd (omega arith);
        no_rows = λ _. o;
        no_pairs = λ _. q;
        events = events_more st.got.head st.got.events v k.events (event_clean s p st f e);
        rows = rows_none _ st.got.rows o;
        pairs = pairs_none _ st.got.pairs q;
      })

  after_row : tag_at s p ≡ 3 → Kept (after s p st)
  unfolding after taken
  after_row e =
      let w = was_3 s p st f e in
      let q = k.no_pairs (omega arith) in
      simp e
      (record {
        head = λ _. k.head (omega arith);
        no_events = λ t. absurd (omega arith);
        no_rows = λ t. absurd (omega arith);
        no_pairs = λ _. q;
        events = k.events;
        rows = rows_more st.got.head st.got.events st.got.rows v k.rows (row_clean s p st f e);
        pairs = k.pairs;
      })

  after_pair : tag_at s p ≡ 4 → Kept (after s p st)
  unfolding after taken
  after_pair e =
      let w = was_4 s p st f e in
      simp e
      (record {
        head = λ _. k.head (omega arith);
        no_events = λ t. absurd (omega arith);
        no_rows = λ t. absurd (omega arith);
        no_pairs = λ t. absurd (omega arith);
        events = k.events;
        rows = k.rows;
        pairs = pairs_more st.got.events st.got.pairs v k.pairs (pair_clean s p st f e);
      })

  pub kept_after : Kept (after s p st)
  kept_after = go (eqb (tag_at s p) 1) refl (eqb (tag_at s p) 2) refl (eqb (tag_at s p) 3) refl (eqb (tag_at s p) 4) refl
    where
      go : (a : Bool) → eqb (tag_at s p) 1 ≡ a → (b : Bool) → eqb (tag_at s p) 2 ≡ b → (c : Bool) → eqb (tag_at s p) 3 ≡ c → (d : Bool) → eqb (tag_at s p) 4 ≡ d
          → Kept (after s p st)
      go true q b r c t d u = after_head (eqb-true _ _ q)
      go false q true r c t d u = after_event (eqb-true _ _ r)
      go false q false r true t d u = after_row (eqb-true _ _ t)
      go false q false r false t true u = after_pair (eqb-true _ _ u)
      go false q false r false t false u = absurd (known s p st f (eqb-false _ _ q) (eqb-false _ _ r) (eqb-false _ _ t) (eqb-false _ _ u))

-- ---- all fields

-- an accepted sheet ends in a kept state
record Ends (s : List ℕ) (x : Execution) : Type 0 where
  state : State
  kept : Kept state
  ends : finish s state ≡ whole x

module _ (s : List ℕ) (x : Execution) where
  ended : (k p : ℕ) (st : State) → Kept st → fields_from s k p st ≡ whole x → Ends s x
  unfolding fields_from
  ended zero p st k e = not_whole e
  ended (suc n) p st k e = turn (λ st₁ k₁ e₁. ended n (next_at s p) st₁ k₁ e₁) (ltb p (length s)) refl (fault_at s p st) refl
    where
      turn : ((st₁ : State) → Kept st₁ → fields_from s n (next_at s p) st₁ ≡ whole x → Ends s x)
          → (b : Bool) → ltb p (length s) ≡ b → (f : ℕ) → fault_at s p st ≡ f → Ends s x
      turn again false q f r = record { state = st; kept = k; ends = sym (at_end s n p st (ltb-false _ _ q)) ∙ e }
      turn again true q zero r = again (after s p st) (kept_after s p st r k) (sym (at_field s n p st (ltb-true _ _ q) r) ∙ e)
      turn again true q (suc f) r = not_whole (sym (at_fault s n p st (suc f) (ltb-true _ _ q) r (λ d. omega arith)) ∙ e)

-- ---- after all fields

-- one that passes stands somewhere
some_at : {A : Type 0} (d : A) (p : A → Bool) (l : List A) → any p l ≡ true → (i : ℕ) × (i < length l) × T (p (get_or l i d))
unfolding any
some_at d p [] h = absurd (false≢true h)
some_at d p (a ∷ l) h = go (some_at d p l) (or_either (p a) (any p l) h)
  where
    go : (any p l ≡ true → (i : ℕ) × (i < length l) × T (p (get_or l i d))) → (p a ≡ true) ⊎ (any p l ≡ true)
        → (i : ℕ) × (i < suc (length l)) × T (p (get_or (a ∷ l) i d))
    go ih (inl t) = (0, omega arith, true_T _ t)
    go ih (inr t) = let w = ih t in let b = w.1 in (suc w.0, omega arith, w.2)

-- no number is below itself, lexicographically
not_below : (q r : Row) → q.reader ≡ r.reader → q.address ≡ r.address → T (row_below q r) → ⊥
unfolding row_below
not_below q r d e t =
    ⊎_elim (λ x. let y = ltb-true q.reader r.reader x in omega arith)
    (λ x. let w = and_both (eqb q.reader r.reader) (ltb q.address r.address) x in let y = ltb-true q.address r.address w.1 in omega arith)
    (or_either (ltb q.reader r.reader) _ (T_true _ t))

one_row : (x : Execution) → lowest_lacking x ≡ none → ((i j : ℕ) → i < j → j < length x.rows → T (row_below (row x i) (row x j)))
    → (e n : ℕ) → T (reads_at (event x e) n) → OneRow x e n
unfolding is_row
one_row x l rise e n t =
    let w = some_at blank_row (is_row e n) x.rows (has_row x l e n t) in
    let k = and_elim (eqb (row x w.0).reader e) (eqb (row x w.0).address n) w.2 in
    let r : (row x w.0).reader ≡ e = eqb-true _ _ (T_true _ k.0) in
    let a : (row x w.0).address ≡ n = eqb-true _ _ (T_true _ k.1) in
    record { number = w.0; there = w.1; reader = r; address = a; only = λ j b q m. same j w.0 b w.1 (q ∙ sym r) (m ∙ sym a) }
  where
    same : (i j : ℕ) → i < length x.rows → j < length x.rows → (row x i).reader ≡ (row x j).reader → (row x i).address ≡ (row x j).address → i ≡ j
    same i j b c q m = go (ltb i j) refl (ltb j i) refl
      where
        go : (u : Bool) → ltb i j ≡ u → (v : Bool) → ltb j i ≡ v → i ≡ j
        go true p v o = absurd (not_below (row x i) (row x j) q m (rise i j (ltb-true _ _ p) c))
        go false p true o = absurd (not_below (row x j) (row x i) (sym q) (sym m) (rise j i (ltb-true _ _ o) b))
        go false p false o = let y = ltb-false i j p in let z = ltb-false j i o in omega arith

-- the state's parts as the promise names them
well_formed : (s : List ℕ) (x : Execution) (st : State) → Kept st → finish s st ≡ whole x → WellFormed x
unfolding event event_no
well_formed s x st k e =
    let f = finished_whole s st x e in
    let h = head_facts st.got.head (k.head f.tagged) in
    subst WellFormed f.got
    (record {
      edition = h.edition;
      agents = h.agents;
      size = h.size;
      events = k.events.well;
      inits_first = k.events.first;
      inits_apart = k.events.apart;
      inits_few = k.events.few_inits;
      others_few = k.events.few_others;
      row_reads = λ j b. (k.rows.joins j b).reads;
      row_writes = λ j b. (k.rows.joins j b).writes;
      row_differs = λ j b. (k.rows.joins j b).differ;
      rows_rise = k.rows.rise;
      row_for_each = one_row st.got f.no_lack k.rows.rise;
      pair_markers = λ j b. ((k.pairs.parts j b).first, (k.pairs.parts j b).second);
      pair_agents = λ j b. (k.pairs.parts j b).agents;
      pairs_rise = k.pairs.rise;
      pairs_few = k.pairs.few;
      each_appears = each_appear st.got f.none_missing;
      some_read = some_at nobody reads_some st.got.events f.some_reads;
    })

-- the promise
pub promise : (s : List ℕ) (x : Execution) → parse s ≡ whole x → WellFormed x
unfolding parse
promise s x e = go (ltb max_bytes (length s)) refl
  where
    go : (b : Bool) → ltb max_bytes (length s) ≡ b → WellFormed x
    go true p = not_whole {n = 1} {p = 0} (simp p at e)
    go false p = let d = ended s x (suc (length s)) 0 blank kept_blank (simp p at e) in well_formed s x d.state d.kept d.ends

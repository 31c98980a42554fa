-- The laws of specs/Between.antt: the counts with a field taken stand for the state behind it; the loop over the fields. Assumes nothing.
--     ready_next, event_few, row_few, pair_few     what the code needs to take a field
--     head_taken, event_taken, row_taken_lem, pair_taken     a field taken, by its tag
--     turn_start, turn_through, turn_fault, turn_ready, turn_reach, turn_next     the loop's invariant
use Prim.Native.Nat.{ℕ, zero, suc, ◌+◌, ◌*◌, ◌-◌, ◌≤◌, ◌<◌}
use mathlib.Core.Path.{◌≡◌, refl, sym, ap, ◌∙◌, subst}
use mathlib.Core.Logic.{◌⊎◌, ⊎_elim}
use mathlib.Core.List.{List, [], ◌∷◌, ◌++◌, map, map-append}
use mathlib.Core.Bool.{Bool, true, false, cond}
use native.Mathlib.Omega.{arith}
use native.Mathlib.Nat.{add-mul, one-mul, eq-or-lt_of_le, le-mul_of_pos_right}
use native.Mathlib.Numerals.{add-one}
use lib.Dec.{eqb}
use lib.ListN.{length, get_or, take, drop, set, replicate, length-set}
use lib.Seq.{take-suc-set, drop-set-lt, drop-drop, get_or-set_same, get_or-set_other}
use Rattle.basis.specs.Test.{number}
use Rattle.basis.proofs.LoopLaws.{number_snoc}
use Rattle.format.specs.declared.Head.{Head}
use Rattle.format.specs.declared.Row.{Row}
use Rattle.format.specs.declared.Pair.{Pair}
use Rattle.sets.specs.Mask.{slots}
use Rattle.format.specs.Limits.{max_bytes, max_inits, max_others}
use Rattle.format.specs.Event.{Event, is_init}
use Rattle.format.specs.Execution.{inits, others}
use Rattle.format.specs.Field.{tag_at, next_at, value_at, field_place}
use Rattle.format.specs.Layout.{edition_of, head_of, agent_of, event_of, row_gap, pair_gap}
use Rattle.content.specs.Content.{room_for}
use Rattle.content.proofs.ContentLaws.{room_init, room_other}
use Rattle.parse.specs.Parse.{State, refused, place_of, fault_at, taken, after, fields_from, parse}
use Rattle.parse.proofs.ParseLaws.{event_passed, inside, was_none, was_2, was_3, was_4, event_clean, row_length, pair_length, at_start, at_end, at_fault, at_next}
use Rattle.entries.specs.declared.Counts.{Counts}
use Rattle.entries.specs.Entries.{spaced, event_at, row_at, pair_at, events_on, rows_on, pairs_on, events_in}
use Rattle.entries.proofs.EntriesLaws.{spaced_more}
use Rattle.faults.specs.Faults.{view, Counted, fault_in}
use Rattle.faults.proofs.FaultsLaws.{others_count, inits_fit, fault_in_lem}
use Rattle.spot.specs.Between.{blank_counts, blank_places}
use Rattle.spot.specs.Between.{Between, Ready, Advanced, Reached, at_first, one_more, Turn, with_head, with_event, with_row, with_pair, Through}
use Rattle.spot.proofs.TakenLaws.{value_event, value_row, value_pair}

-- ---- lists, one thing more

-- the states that differ in these four lists alone
state_path : (tag : ℕ) (h : Head) {ps qs : List ℕ} {es ds : List Event} {rs ts : List Row} {ks js : List Pair}
    → ps ≡ qs → es ≡ ds → rs ≡ ts → ks ≡ js
    → ◌≡◌ {A = State}
    (record { tag = tag; places = ps; got = record { head = h; events = es; rows = rs; pairs = ks } })
    (record { tag = tag; places = qs; got = record { head = h; events = ds; rows = ts; pairs = js } })
state_path tag h p e r a = λ i. record { tag = tag; places = p i; got = record { head = h; events = e i; rows = r i; pairs = a i } }

take_none : (n : ℕ) (l : List ℕ) → n ≡ 0 → ◌≡◌ {A = List ℕ} [] (take n l)
take_none n l e = rw e refl

rows_none : (s : List ℕ) (edition p n : ℕ) → n ≡ 0 → ◌≡◌ {A = List Row} [] (rows_on s edition p n)
unfolding rows_on spaced
rows_none s edition p n e = rw e refl

pairs_none : (s : List ℕ) (p n : ℕ) → n ≡ 0 → ◌≡◌ {A = List Pair} [] (pairs_on s p n)
unfolding pairs_on spaced
pairs_none s p n e = rw e refl

pub events_none : (s : List ℕ) (edition n : ℕ) (at : List ℕ) → n ≡ 0 → ◌≡◌ {A = List Event} [] (events_on s edition n at)
unfolding events_on
events_none s edition n at e = rw e refl

places_more : (at : List ℕ) (n p : ℕ) → n < length at → take (n + 1) (set at n p) ≡ take n at ++ (p ∷ [])
places_more at n p h = rw add-one (take-suc-set at n p h)

pub events_more : (s : List ℕ) (edition : ℕ) (at : List ℕ) (n p : ℕ) → n < length at
    → events_on s edition (n + 1) (set at n p) ≡ events_on s edition n at ++ (event_at s edition p ∷ [])
unfolding events_on
events_more s edition at n p h = ap (map (event_at s edition)) (places_more at n p h) ∙ map-append (event_at s edition) (take n at) (p ∷ [])

-- a gap more
gap_more : (a n g p : ℕ) → a + n * g ≡ p → a + (n + 1) * g ≡ p + g
gap_more a n g p e = let d : (n + 1) * g ≡ n * g + g = add-mul n 1 g ∙ ap (λ (k : ℕ). n * g + k) (one-mul g) in omega arith

-- the place behind field number k, and one that is counted another way
place_next : (s : List ℕ) (p k j : ℕ) → p ≡ field_place s k → suc k ≡ j → next_at s p ≡ field_place s j
unfolding field_place
place_next s p k j e q = ap (next_at s) e ∙ ap (field_place s) q

place_same : (s : List ℕ) (p k j : ℕ) → p ≡ field_place s k → k ≡ j → p ≡ field_place s j
place_same s p k j e q = e ∙ ap (field_place s) q

-- zeros behind a place, one fewer
zeros_less : (m : ℕ) → 0 < m → drop {A = ℕ} 1 (replicate m 0) ≡ replicate (m - 1) 0
zeros_less zero h = absurd (omega arith)
zeros_less (suc m) h = let e : m ≡ suc m - 1 = omega arith in ap (λ (k : ℕ). replicate {A = ℕ} k 0) e

unused_more : (at : List ℕ) (n m p : ℕ) → n < m → drop n at ≡ replicate (m - n) 0 → drop (n + 1) (set at n p) ≡ replicate (m - (n + 1)) 0
unused_more at n m p h e =
    drop-set-lt (n + 1) at n p (omega arith) ∙ sym (drop-drop 1 n at) ∙ ap (drop {A = ℕ} 1) e ∙ zeros_less (m - n) (omega arith)
    ∙ (let d : m - n - 1 ≡ m - (n + 1) = omega arith in ap (λ (k : ℕ). replicate {A = ℕ} k 0) d)

-- ---- a field taken, by its tag

pub counted_of : (s : List ℕ) (p last : ℕ) (x : Counts) (at : List ℕ) → Between s p last x at → Counted s x at
counted_of s p last x at b =
    record { room = let z = b.size in let i = b.few_inits in let o = b.few_others in omega arith; inits = b.inits }

module _ (s : List ℕ) (p last : ℕ) (x : Counts) (at : List ℕ) (r : Ready s p last x at) where
  abbrev b : Between s p last x at
  b = r.between

  abbrev next : ℕ
  next = next_at s p

  abbrev st : State
  st = view s last x at

  pub ready_next : next ≤ max_bytes
  ready_next = let i = inside s p st r.clean in let k = r.short in omega arith

  pub head_taken : tag_at s p ≡ 1 → Advanced s p last x at (with_head (head_of (edition_of (value_at s p)) (value_at s p)) next) at
  unfolding after taken inits events_on number field_place rows_on pairs_on spaced
  head_taken e =
      let w = was_none s p st r.clean e in
      let n : x.events ≡ 0 = b.no_events (omega arith) in
      let o : x.rows ≡ 0 = b.no_rows (omega arith) in
      let q : x.pairs ≡ 0 = b.no_pairs (omega arith) in
      let f : next ≡ next_at s 0 = ap (next_at s) (b.start w) in
      record {
        between =
            record {
              size = b.size;
              few_inits = omega arith;
              few_others = omega arith;
              inits = refl;
              unused = rw n at b.unused;
              no_events = λ _. refl;
              no_rows = λ _. refl;
              no_pairs = λ _. refl;
              rows_end = λ _. omega arith;
              pairs_end = omega arith;
              start = λ t. absurd (omega arith);
              here = λ _. f;
              places = λ i l. absurd (omega arith);
              rows_at_lem = λ _. f;
              pairs_at_lem = λ _. f;
            };
        seen = simp e (state_path 1 (head_of (edition_of (value_at s p)) (value_at s p)) (take_none x.events at n) (events_none s _ x.events at n) (rows_none s _ _ x.rows o) (pairs_none s _ x.pairs q));
      }

  abbrev agent : ℕ
  agent = agent_of (value_at s p)

  room : tag_at s p ≡ 2 → room_for (events_in s x at) agent ≡ true
  room e = (event_passed x.head (events_in s x at) (value_at s p) (event_clean s p st r.clean e)).room

  counted : Counted s x at
  counted = counted_of s p last x at b

  -- how many there are with it
  counts : tag_at s p ≡ 2 → (x.events < slots) × (cond (eqb agent 0) (x.inits + 1) x.inits ≤ max_inits) × (x.events + 1 ≤ cond (eqb agent 0) (x.inits + 1) x.inits + max_others)
  counts e = go (eqb agent 0) refl
    where
      go : (c : Bool) → eqb agent 0 ≡ c → (x.events < slots) × (cond c (x.inits + 1) x.inits ≤ max_inits) × (x.events + 1 ≤ cond c (x.inits + 1) x.inits + max_others)
      go true d =
          let k : x.inits < max_inits = rw (← b.inits) at (room_init (inits (events_in s x at)) (others (events_in s x at)) agent (room e) d) in
          let o = b.few_others in
          (omega arith, omega arith, omega arith)
      go false d =
          let k : x.events - x.inits < max_others = rw (others_count s x at counted) at (room_other (inits (events_in s x at)) (others (events_in s x at)) agent (room e) d) in
          let i = b.few_inits in
          (omega arith, i, omega arith)

  pub event_few : tag_at s p ≡ 2 → (x.events < slots) × (x.inits ≤ x.events)
  event_few e = ((counts e).0, inits_fit s x at counted)

  pub event_here : tag_at s p ≡ 2 → x.events < length at
  event_here e = let k = (counts e).0 in let z = b.size in omega arith

  split : (i n : ℕ) → i < n + 1 → (i ≡ n) ⊎ (i < n)
  split i n j = eq-or-lt_of_le (omega arith)

  pub event_taken : tag_at s p ≡ 2 → Advanced s p last x at (with_event x agent next) (set at x.events p)
  unfolding after taken inits is_init rows_on pairs_on spaced
  event_taken e =
      let w = was_2 s p st r.clean e in
      let o : x.rows ≡ 0 = b.no_rows (omega arith) in
      let q : x.pairs ≡ 0 = b.no_pairs (omega arith) in
      let k = counts e in
      let l = event_here e in
      let here : p ≡ field_place s (suc x.events) = place_same s p _ (suc x.events) (b.here (omega arith)) (omega arith) in
      let more : events_on s x.head.edition (x.events + 1) (set at x.events p) ≡ events_in s x at ++ (event_of x.head.edition (value_at s p) ∷ []) =
      events_more s x.head.edition at x.events p l
      ∙ ap (λ (d : Event). events_in s x at ++ (d ∷ [])) (sym (value_event s p st r.clean e)) in
      record {
        between =
            record {
              size = length-set at x.events p ∙ b.size;
              few_inits = k.1;
              few_others = k.2;
              inits = ap (λ (j : ℕ). cond (eqb agent 0) (j + 1) j) b.inits ∙ sym (number_snoc is_init (events_in s x at) (event_of x.head.edition (value_at s p))) ∙ sym (ap (number is_init) more);
              unused = unused_more at x.events slots p k.0 b.unused;
              no_events = λ t. absurd (omega arith);
              no_rows = λ _. refl;
              no_pairs = λ _. refl;
              rows_end = λ _. omega arith;
              pairs_end = omega arith;
              start = λ t. absurd (omega arith);
              here = λ _. place_next s p (suc x.events) _ here (omega arith);
              places = λ i j. ⊎_elim
                  (λ q. ap (λ (m : ℕ). get_or (set at x.events p) m 0) q ∙ get_or-set_same at x.events p 0 l ∙ here ∙ ap (λ (m : ℕ). field_place s (suc m)) (sym q))
                  (λ q. get_or-set_other at x.events i p 0 (λ t. omega arith) ∙ b.places i q)
                  (split i x.events j);
              rows_at_lem = λ _. place_next s p (suc x.events) _ here (omega arith);
              pairs_at_lem = λ _. place_next s p (suc x.events) _ here (omega arith);
            };
        seen = simp e (state_path 2 x.head (places_more at x.events p l) more (rows_none s _ _ x.rows o) (pairs_none s _ x.pairs q));
      }

  pub row_few : tag_at s p ≡ 3 → x.rows < max_bytes
  row_few e =
      let w = was_3 s p st r.clean e in
      let o = b.rows_end (omega arith) in
      let d : x.rows ≤ x.rows * row_gap x.head.edition = le-mul_of_pos_right x.rows (omega arith) in
      let n = ready_next in
      omega arith

  pub pair_few : x.pairs < max_bytes
  pair_few = let o = b.pairs_end in let n = ready_next in omega arith

  pub row_taken_lem : tag_at s p ≡ 3 → Advanced s p last x at (with_row x next) at
  unfolding after taken pairs_on spaced rows_on
  row_taken_lem e =
      let w = was_3 s p st r.clean e in
      let o = b.rows_end (omega arith) in
      let q : x.pairs ≡ 0 = b.no_pairs (omega arith) in
      let n = row_length s p st r.clean e in
      let here = b.here (omega arith) in
      record {
        between =
            record {
              size = b.size;
              few_inits = b.few_inits;
              few_others = b.few_others;
              inits = b.inits;
              unused = b.unused;
              no_events = λ t. absurd (omega arith);
              no_rows = λ t. absurd (omega arith);
              no_pairs = λ _. refl;
              rows_end = λ _. gap_more x.rows_at x.rows (row_gap x.head.edition) p o ∙ omega arith;
              pairs_end = omega arith;
              start = λ t. absurd (omega arith);
              here = λ _. place_next s p (suc (x.events + x.rows + x.pairs)) _ here (omega arith);
              places = b.places;
              rows_at_lem = λ _. b.rows_at_lem (omega arith);
              pairs_at_lem = λ _. place_next s p (suc (x.events + x.rows + x.pairs)) _ here (omega arith);
            };
        seen = simp e (state_path 3 x.head refl refl (spaced_more (row_at s x.head.edition) (row_gap x.head.edition) x.rows_at x.rows p o ∙ ap (λ (q : Row). rows_on s x.head.edition x.rows_at x.rows ++ (q ∷ [])) (sym (value_row s p st r.clean e))) (pairs_none s _ x.pairs q));
      }

  pub pair_taken : tag_at s p ≡ 4 → Advanced s p last x at (with_pair x) at
  unfolding after taken pairs_on
  pair_taken e =
      let w = was_4 s p st r.clean e in
      let o = b.pairs_end in
      let n = pair_length s p st r.clean e in
      let here = b.here (omega arith) in
      record {
        between =
            record {
              size = b.size;
              few_inits = b.few_inits;
              few_others = b.few_others;
              inits = b.inits;
              unused = b.unused;
              no_events = λ t. absurd (omega arith);
              no_rows = λ t. absurd (omega arith);
              no_pairs = λ t. absurd (omega arith);
              rows_end = λ t. absurd (omega arith);
              pairs_end = gap_more x.pairs_at x.pairs pair_gap p o ∙ omega arith;
              start = λ t. absurd (omega arith);
              here = λ _. place_next s p (suc (x.events + x.rows + x.pairs)) _ here (omega arith);
              places = b.places;
              rows_at_lem = λ _. b.rows_at_lem (omega arith);
              pairs_at_lem = λ _. b.pairs_at_lem (omega arith);
            };
        seen = simp e (state_path 4 x.head refl refl refl (spaced_more (pair_at s) pair_gap x.pairs_at x.pairs p o ∙ ap (λ (q : Pair). pairs_on s x.pairs_at x.pairs ++ (q ∷ [])) (sym (value_pair s p st r.clean e))));
      }

-- ---- the loop over the fields

pub between_start : (s : List ℕ) → Between s 0 0 blank_counts blank_places
unfolding inits events_on number
between_start s =
    record {
      size = refl;
      few_inits = omega arith;
      few_others = omega arith;
      inits = refl;
      unused = refl;
      no_events = λ _. refl;
      no_rows = λ _. refl;
      no_pairs = λ _. refl;
      rows_end = λ _. omega arith;
      pairs_end = refl;
      start = λ _. refl;
      here = λ t. absurd (omega arith);
      places = λ i l. absurd (omega arith);
      rows_at_lem = λ t. absurd (omega arith);
      pairs_at_lem = λ t. absurd (omega arith);
    }

pub turn_start : (s : List ℕ) → length s ≤ max_bytes → Turn s 0 0 blank_counts blank_places
unfolding events_on rows_on pairs_on spaced
turn_start s h =
    record { fuel = length s; goes = at_start s h; enough = omega arith; within_s = omega arith; short = h; between = between_start s; reached = at_first }

module _ (s : List ℕ) (p last : ℕ) (x : Counts) (at : List ℕ) (t : Turn s p last x at) where
  pub turn_through : length s ≤ p → Through s last x at
  turn_through h =
      let w = t.within_s in
      let e : p ≡ length s = omega arith in
      record {
        goes = t.goes ∙ at_end s t.fuel p (view s last x at) h;
        between = subst (λ (q : ℕ). Between s q last x at) e t.between;
        short = t.short;
        reached = subst (λ (q : ℕ). Reached s q (view s last x at)) e t.reached;
      }

  -- the counts are right, so the fault that they tell is parse's
  turn_told : (n : ℕ) → n ≡ fault_in s p last x at → fault_at s p (view s last x at) ≡ n
  turn_told n e = sym (e ∙ fault_in_lem s x at (counted_of s p last x at t.between) p last)

  pub turn_fault : (n : ℕ) → p < length s → n ≡ fault_in s p last x at → (n ≡ 0 → ⊥) → parse s ≡ refused n (place_of n p)
  turn_fault n h e d = t.goes ∙ at_fault s t.fuel p (view s last x at) n h (turn_told n e) d

  pub turn_ready : (n : ℕ) → n ≡ fault_in s p last x at → n ≡ 0 → Ready s p last x at
  turn_ready n e z = record { between = t.between; short = t.short; clean = turn_told n e ∙ z }

  pub turn_reach : (n : ℕ) → n ≡ fault_in s p last x at → n ≡ 0 → next_at s p ≤ max_bytes
  turn_reach n e z = ready_next s p last x at (turn_ready n e z)

  pub turn_next : (y : Counts) (at' : List ℕ) (n : ℕ) → p < length s → n ≡ fault_in s p last x at → n ≡ 0 → Advanced s p last x at y at'
      → Turn s (next_at s p) (tag_at s p) y at'
  turn_next y at' n h e z a =
      let k = t.enough in
      let f = turn_told n e ∙ z in
      record {
        fuel = t.fuel - 1;
        goes = t.goes ∙ at_next s t.fuel p (view s last x at) h k f ∙ ap (fields_from s (suc (t.fuel - 1)) (next_at s p)) (sym a.seen);
        enough = omega arith;
        within_s = inside s p (view s last x at) f;
        short = t.short;
        between = a.between;
        reached = subst (Reached s (next_at s p)) (sym a.seen) (one_more t.reached f);
      }

-- The tables that are filled from a sheet hold its execution. Assumes nothing.
--     laid_count, laid_inits           the events laid down are counted, and there are no more inits
--     laid_need                        the bytes of scratch that are asked for are those that 01 asks for
--     spaced_each                      things a gap apart, by number
--     laid_tabled, laid_agents         the events
--     laid_rowed, laid_seen            the rows, with what was seen and written
--     pairs_few, laid_paired           the pairs: each has a place
use mathlib.Core.Path.{◌≡◌, refl, sym, ap, ap₂, ◌∙◌, subst}
use mathlib.Core.List.{List, [], ◌∷◌, Memᴰ}
use Prim.Native.Nat.{ℕ, zero, suc, ◌+◌, ◌-◌, ◌*◌, ◌%◌, ◌<◌, ◌≤◌, min}
use native.Mathlib.Nat.{mod-eq_of_lt}
use native.Mathlib.Omega.{arith}
use lib.Dec.{T}
use lib.ListN.{length, get_or, replicate, length-replicate, get_or-replicate}
use Rattle.basis.specs.Test.{each, from}
use Rattle.basis.proofs.BoolLaws.{T_true, and_both}
use Rattle.basis.proofs.ListLaws.{from_elim, get_or_mem}
use Rattle.format.specs.declared.Shape.{Shape}
use Rattle.format.specs.declared.Row.{Row}
use Rattle.format.specs.declared.Pair.{Pair}
use Rattle.format.specs.Shape.{reads, writes, covers}
use Rattle.format.specs.Event.{Event, reads_at, writes_at, saw, wrote}
use Rattle.format.specs.Execution.{event, others, blank_row, no_pair}
use Rattle.format.specs.Field.{rest_at}
use Rattle.format.specs.Layout.{agent_of, shape_of, access_of, seen_of, written_of, row_gap, pair_gap}
use Rattle.format.proofs.EventLaws.{one, reads_at_one, writes_at_one}
use Rattle.entries.specs.declared.Counts.{Counts}
use Rattle.entries.specs.Entries.{spaced, event_at, row_at, pair_at, rows_on, pairs_on, rows_in, pairs_in, execution, row_no, pair_no}
use Rattle.sheet.specs.Handed.{Laid}
use Rattle.parse.specs.Promise.{WellFormed}
use Rattle.entries.proofs.EntriesLaws.{events_count, event_at_lem, rows_count, row_at_lem, pairs_count, pair_at_lem}
use Rattle.sets.specs.Mask.{slots}
use Rattle.marks.specs.Table.{bytes_for}
use Rattle.model.specs.Judged.{needed}
use Rattle.model.proofs.Sound.{Sound, sound}
use Rattle.model.proofs.HappensLaws.{reader_inside, writer_inside}
use Rattle.model.proofs.OrderLaws.{inits_others}
use Rattle.tables.specs.Tables.{accesses, columns, agent_in, shape_in, row_room, row_cells, row_in, pair_room, pair_in, agent_room}
use Rattle.row_data.specs.RowData.{laid_shape, data_at, passed, seen_at, wrote_at}
use Rattle.lay.specs.Lay.{events_put, rows_put, pairs_put, Layered}
use Rattle.lay.proofs.CellLaws.{agent_at, kind_at, mode_at, start_at, width_at, tear_at, width_beyond, second_kept, reader_at, address_at, writer_at, seen_at_lem, wrote_at_lem, first_at, second_at}
use Rattle.front.specs.Tabled.{Agents, Rowed, Paired, Seen}
use Rattle.front.proofs.TabledLaws.{OneTabled}
use Rattle.front.proofs.DataLaws.{saw_byte, wrote_byte}

-- ---- lists by number

module _ {A : Type 0} where
  each_same : (g h : ℕ → A) (l : List ℕ) → ((j : ℕ) → Memᴰ j l → g j ≡ h j) → each g l ≡ each h l
  unfolding each
  each_same g h [] e = refl
  each_same g h (j ∷ l) e = ap₂ (λ (a : A) (k : List A). a ∷ k) (e j (mathlib.Core.List.Memᴰ.head refl)) (each_same g h l (λ i m. e i (mathlib.Core.List.Memᴰ.tail m)))

  spaced_from : (f : ℕ → A) (gap p s n : ℕ) → spaced f gap (p + s * gap) n ≡ each (λ (j : ℕ). f (p + j * gap)) (from s n)
  unfolding spaced each from
  spaced_from f gap p s zero = refl
  spaced_from f gap p s (suc n) =
      let e : p + s * gap + gap ≡ p + suc s * gap = omega arith in
      ap (λ (k : List A). f (p + s * gap) ∷ k) (ap (λ (i : ℕ). spaced f gap i n) e ∙ spaced_from f gap p (suc s) n)

  pub spaced_each : (f : ℕ → A) (gap p n : ℕ) (h : ℕ → A) → ((j : ℕ) → j < n → f (p + j * gap) ≡ h j) → spaced f gap p n ≡ each h (from 0 n)
  spaced_each f gap p n h e =
      let z : p ≡ p + 0 * gap = omega arith in
      ap (λ (i : ℕ). spaced f gap i n) z ∙ spaced_from f gap p 0 n
      ∙ each_same (λ (j : ℕ). f (p + j * gap)) h (from 0 n) (λ j m. e j (let w = from_elim n 0 j m in omega (arith, w.1)))

shape_path : {k l m n o p q r u v : ℕ} → k ≡ l → m ≡ n → o ≡ p → q ≡ r → u ≡ v
    → ◌≡◌ {A = Shape} (record { kind = k; mode = m; start = o; width = q; tear = u }) (record { kind = l; mode = n; start = p; width = r; tear = v })
shape_path a b c d e = λ i. record { kind = a i; mode = b i; start = c i; width = d i; tear = e i }

row_path : {k l m n o p : ℕ} → k ≡ l → m ≡ n → o ≡ p
    → ◌≡◌ {A = Row} (record { reader = k; address = m; writer = o }) (record { reader = l; address = n; writer = p })
row_path a b c = λ i. record { reader = a i; address = b i; writer = c i }

pair_path : {k l m n : ℕ} → k ≡ l → m ≡ n → ◌≡◌ {A = Pair} (record { first = k; second = m }) (record { first = l; second = n })
pair_path a b = λ i. record { first = a i; second = b i }

-- the events laid down are counted
pub laid_count : {s : List ℕ} {x : Counts} {at : List ℕ} → Laid s x at → length (execution s x at).events ≡ x.events
laid_count {s} {x} {at} laid = let z = laid.size in let y = laid.few in events_count s x.head.edition x.events at (omega arith)

module _ {s : List ℕ} {x : Counts} {at : List ℕ} (laid : Laid s x at) where
  pub laid_inits : x.inits ≤ x.events
  laid_inits = let e = inits_others (execution s x at) in let i = laid.inits in let n = laid_count laid in omega arith

  pub laid_need : {need : ℕ} → need ≡ bytes_for (min (x.events - x.inits) slots) → need ≡ needed (execution s x at)
  laid_need k =
      let f = laid.few in
      let e = inits_others (execution s x at) in
      let i = laid.inits in
      let n = laid_count laid in
      let w : min (x.events - x.inits) slots ≡ others (execution s x at).events = omega arith in
      k ∙ ap bytes_for w

module _ (s : List ℕ) (x : Counts) (at : List ℕ) (laid : Laid s x at) (well : WellFormed (execution s x at)) (t q p : List ℕ)
    (ly : Layered s x at (replicate columns 0) t (replicate row_cells 0) q (replicate 64 0) p) where
  so : Sound (execution s x at)
  so = sound (execution s x at) well

  fits : x.events ≤ length at
  fits = let z = laid.size in let y = laid.few in omega arith

  counted : length (execution s x at).events ≡ x.events
  counted = laid_count laid

  event_is : (e : ℕ) → e < x.events → event (execution s x at) e ≡ event_at s x.head.edition (get_or at e 0)
  unfolding event
  event_is e h = event_at_lem s x.head.edition x.events at e h fits

  -- ---- events

  t_is : t ≡ events_put s x.head.edition at x.events (replicate columns 0)
  t_is = let y = laid.few in let z : min x.events slots ≡ x.events = omega arith in ly.events ∙ ap (λ (i : ℕ). events_put s x.head.edition at i (replicate columns 0)) z

  cell : (c v : ℕ) → get_or (events_put s x.head.edition at x.events (replicate columns 0)) c 0 ≡ v → get_or t c 0 ≡ v
  cell c v e = ap (λ (l : List ℕ). get_or l c 0) t_is ∙ e

  t_long : length {A = ℕ} (replicate columns 0) ≡ 352
  t_long = length-replicate {A = ℕ} columns 0

  agent_of_lem : (e : ℕ) → e < x.events → agent_in t e ≡ agent_of (rest_at s (get_or at e 0))
  unfolding agent_in
  agent_of_lem e h =
      let c = counted in
      let a = (well.events e (omega arith)).agent in
      let m = well.agents.1 in
      let is : (event (execution s x at) e).agent ≡ agent_of (rest_at s (get_or at e 0)) = ap (λ (d : Event). d.agent) (event_is e h) in
      ap (λ (i : ℕ). i % agent_room) (cell e (agent_of (rest_at s (get_or at e 0))) (agent_at s x.head.edition at (replicate columns 0) t_long x.events laid.few e h))
      ∙ mod-eq_of_lt (omega arith)

  shape_of_lem : (e : ℕ) → e < x.events → shape_in t (2 * e) ≡ shape_of x.head.edition (rest_at s (get_or at e 0))
  unfolding shape_in
  shape_of_lem e h =
      shape_path
      (cell (32 + 2 * e) _ (kind_at s x.head.edition at (replicate columns 0) t_long x.events laid.few e h))
      (cell (96 + 2 * e) _ (mode_at s x.head.edition at (replicate columns 0) t_long x.events laid.few e h))
      (cell (160 + 2 * e) _ (start_at s x.head.edition at (replicate columns 0) t_long x.events laid.few e h))
      (cell (224 + 2 * e) _ (width_at s x.head.edition at (replicate columns 0) t_long x.events laid.few e h))
      (cell (288 + 2 * e) _ (tear_at s x.head.edition at (replicate columns 0) t_long x.events laid.few e h))

  no_second : (e : ℕ) → e < slots → (shape_in t (2 * e + 1)).width ≡ 0
  unfolding shape_in
  no_second e h =
      cell (224 + (2 * e + 1)) 0 (second_kept s x.head.edition at (replicate columns 0) t_long x.events laid.few e h ∙ get_or-replicate columns (224 + (2 * e + 1)) 0 0 (omega arith))

  none_beyond : (e : ℕ) → x.events ≤ e → e < slots → (shape_in t (2 * e)).width ≡ 0
  unfolding shape_in
  none_beyond e h k =
      cell (224 + 2 * e) 0 (width_beyond s x.head.edition at (replicate columns 0) t_long x.events laid.few e h k ∙ get_or-replicate columns (224 + 2 * e) 0 0 (omega arith))

  pub laid_tabled : OneTabled (execution s x at) t x.events
  laid_tabled =
      record {
        count = counted;
        few = laid.few;
        entry = λ e h.
            let v = rest_at s (get_or at e 0) in (
              seen_of x.head.edition v,
              written_of x.head.edition v,
              event_is e h
                  ∙ sym (ap₂ (λ (a : ℕ) (b : Shape). one a (record { shape = b; seen = seen_of x.head.edition v; written = written_of x.head.edition v })) (agent_of_lem e h) (shape_of_lem e h)),
            );
        second = no_second;
        beyond = none_beyond;
      }

  pub laid_agents : Agents (execution s x at) t x.events
  laid_agents e h = ap (λ (d : Event). d.agent) (event_is e h) ∙ sym (agent_of_lem e h)

  -- ---- an event's data

  first_slot : (e : ℕ) → e < x.events → laid_shape t e ≡ shape_of x.head.edition (rest_at s (get_or at e 0))
  first_slot e h =
      let y = laid.few in
      let z : 2 * e % accesses ≡ 2 * e = mod-eq_of_lt (omega arith) in
      ap (shape_in t) z ∙ shape_of_lem e h

  module _ (e a : ℕ) (h : e < x.events) where
    abbrev ed : ℕ
    ed = x.head.edition

    abbrev place : ℕ
    place = get_or at e 0

    abbrev v : List ℕ
    v = rest_at s place

    seen_of_lem : T (reads_at (event (execution s x at) e) a) → get_or s (data_at ed place (laid_shape t e) a) 0 ≡ saw (event (execution s x at) e) a
    seen_of_lem r =
        let y = T_true _ (subst (λ (d : Event). T (reads_at d a)) (event_is e h) r) in
        let k = and_both (covers (shape_of ed v) a) (reads (shape_of ed v)) (sym (reads_at_one (agent_of v) (access_of ed v) a) ∙ y) in
        ap (λ (b : Shape). get_or s (data_at ed place b a) 0) (first_slot e h)
        ∙ sym (saw_byte s place ed a k.0 k.1)
        ∙ ap (λ (d : Event). saw d a) (sym (event_is e h))

    wrote_of : T (writes_at (event (execution s x at) e) a)
        → get_or s (data_at ed place (laid_shape t e) a + passed (laid_shape t e)) 0 ≡ wrote (event (execution s x at) e) a
    wrote_of r =
        let y = T_true _ (subst (λ (d : Event). T (writes_at d a)) (event_is e h) r) in
        let k = and_both (covers (shape_of ed v) a) (writes (shape_of ed v)) (sym (writes_at_one (agent_of v) (access_of ed v) a) ∙ y) in
        ap (λ (b : Shape). get_or s (data_at ed place b a + passed b) 0) (first_slot e h)
        ∙ sym (wrote_byte s place ed a k.0 k.1)
        ∙ ap (λ (d : Event). wrote d a) (sym (event_is e h))

  -- ---- rows

  module _ (rows_few : x.rows ≤ row_room) where
    q_is : q ≡ rows_put s x at t x.rows (replicate row_cells 0)
    q_is = let z : min x.rows row_room ≡ x.rows = omega arith in ly.rows ∙ ap (λ (i : ℕ). rows_put s x at t i (replicate row_cells 0)) z

    row_cell : (c v : ℕ) → get_or (rows_put s x at t x.rows (replicate row_cells 0)) c 0 ≡ v → get_or q c 0 ≡ v
    row_cell c v e = ap (λ (l : List ℕ). get_or l c 0) q_is ∙ e

    q_long : length {A = ℕ} (replicate row_cells 0) ≡ 1440
    q_long = length-replicate {A = ℕ} row_cells 0

    inside : (j : ℕ) → j < x.rows → ((row_no s x j).reader < x.events) × ((row_no s x j).writer < x.events)
    inside j h =
        subst (λ (r : Row). (r.reader < x.events) × (r.writer < x.events)) (row_at_lem s x.head.edition x.rows_at x.rows j h)
        (let r = get_or (rows_in s x) j blank_row in
        let k = rows_count s x.head.edition x.rows_at x.rows in
        let m : Memᴰ r (rows_in s x) = get_or_mem blank_row (rows_in s x) j (omega (arith, k)) in
        (subst (λ (i : ℕ). r.reader < i) counted (reader_inside (execution s x at) so r m), subst (λ (i : ℕ). r.writer < i) counted (writer_inside (execution s x at) so r m)))

    row_of : (j : ℕ) → j < x.rows → row_no s x j ≡ row_in q j
    unfolding row_in
    row_of j h =
        let w = inside j h in
        let y = laid.few in
        sym (row_path
        (ap (λ (i : ℕ). i % slots) (row_cell j _ (reader_at s x at t (replicate row_cells 0) q_long x.rows rows_few j h)) ∙ mod-eq_of_lt (omega (arith, w.0)))
        (row_cell (288 + j) _ (address_at s x at t (replicate row_cells 0) q_long x.rows rows_few j h))
        (ap (λ (i : ℕ). i % slots) (row_cell (576 + j) _ (writer_at s x at t (replicate row_cells 0) q_long x.rows rows_few j h)) ∙ mod-eq_of_lt (omega (arith, w.1))))

    pub laid_rowed : Rowed (execution s x at) q x.rows
    unfolding rows_on
    laid_rowed = spaced_each (row_at s x.head.edition) (row_gap x.head.edition) x.rows_at x.rows (row_in q) row_of

    reads_row : (j : ℕ) → j < x.rows → T (reads_at (event (execution s x at) (row_no s x j).reader) (row_no s x j).address)
    reads_row j h =
        let k = rows_count s x.head.edition x.rows_at x.rows in
        subst (λ (r : Row). T (reads_at (event (execution s x at) r.reader) r.address)) (row_at_lem s x.head.edition x.rows_at x.rows j h) (well.row_reads j (omega arith))

    writes_row : (j : ℕ) → j < x.rows → T (writes_at (event (execution s x at) (row_no s x j).writer) (row_no s x j).address)
    writes_row j h =
        let k = rows_count s x.head.edition x.rows_at x.rows in
        subst (λ (r : Row). T (writes_at (event (execution s x at) r.writer) r.address)) (row_at_lem s x.head.edition x.rows_at x.rows j h) (well.row_writes j (omega arith))

    pub laid_seen : Seen (execution s x at) q x.rows
    laid_seen =
        record {
          seen = λ j h.
              let r = row_no s x j in
              row_cell (864 + j) (seen_at s x.head.edition at t r) (seen_at_lem s x at t (replicate row_cells 0) q_long x.rows rows_few j h)
              ∙ seen_of_lem r.reader r.address (inside j h).0 (reads_row j h)
              ∙ ap (λ (r : Row). saw (event (execution s x at) r.reader) r.address) (row_of j h);
          wrote = λ j h.
              let r = row_no s x j in
              row_cell (1152 + j) (wrote_at s x.head.edition at t r) (wrote_at_lem s x at t (replicate row_cells 0) q_long x.rows rows_few j h)
              ∙ wrote_of r.writer r.address (inside j h).1 (writes_row j h)
              ∙ ap (λ (r : Row). wrote (event (execution s x at) r.writer) r.address) (row_of j h);
        }

  -- ---- pairs

  pub pairs_few : x.pairs ≤ pair_room
  pairs_few = let z = well.pairs_few in let y = pairs_count s x.pairs_at x.pairs in omega arith

  p_is : p ≡ pairs_put s x x.pairs (replicate 64 0)
  p_is = let y = pairs_few in let z : min x.pairs pair_room ≡ x.pairs = omega arith in ly.pairs ∙ ap (λ (i : ℕ). pairs_put s x i (replicate 64 0)) z

  pair_cell : (c v : ℕ) → get_or (pairs_put s x x.pairs (replicate 64 0)) c 0 ≡ v → get_or p c 0 ≡ v
  pair_cell c v e = ap (λ (l : List ℕ). get_or l c 0) p_is ∙ e

  p_long : length {A = ℕ} (replicate 64 0) ≡ 64
  p_long = length-replicate {A = ℕ} 64 0

  ends : (j : ℕ) → j < x.pairs → ((pair_no s x j).first < x.events) × ((pair_no s x j).second < x.events)
  ends j h =
      subst (λ (r : Pair). (r.first < x.events) × (r.second < x.events)) (pair_at_lem s x.pairs_at x.pairs j h)
      (let r = get_or (pairs_in s x) j no_pair in
      let k = pairs_count s x.pairs_at x.pairs in
      let m : Memᴰ r (pairs_in s x) = get_or_mem no_pair (pairs_in s x) j (omega (arith, k)) in
      (subst (λ (i : ℕ). r.first < i) counted (so.pair_first r m), subst (λ (i : ℕ). r.second < i) counted (so.pair_second r m)))

  pair_of : (j : ℕ) → j < x.pairs → pair_no s x j ≡ pair_in p j
  unfolding pair_in
  pair_of j h =
      let w = ends j h in
      let y = laid.few in
      sym (pair_path
      (ap (λ (i : ℕ). i % slots) (pair_cell j _ (first_at s x (replicate 64 0) p_long x.pairs pairs_few j h)) ∙ mod-eq_of_lt (omega (arith, w.0)))
      (ap (λ (i : ℕ). i % slots) (pair_cell (32 + j) _ (second_at s x (replicate 64 0) p_long x.pairs pairs_few j h)) ∙ mod-eq_of_lt (omega (arith, w.1))))

  pub laid_paired : Paired (execution s x at) p x.pairs
  unfolding pairs_on
  laid_paired = spaced_each (pair_at s) pair_gap x.pairs_at x.pairs (pair_in p) pair_of

-- Fields that pass every test, taken one after the other. Assumes nothing.
--     head_reach, head_next                             the head
--     plain_reach, plain_few, plain_here, plain_next    an event; the tally with it: plain_tally
--     row_reach, row_room_lem, row_next_lem                     a row
--     rises_told                                        a row above the one before
--     row_tested, row_plain                                       what passes the tests of a row
use Prim.Native.Nat.{ℕ, ◌+◌, ◌-◌, ◌*◌, ◌≤◌, ◌<◌}
use mathlib.Core.Path.{◌≡◌, refl, sym, ap, ◌∙◌, subst}
use mathlib.Core.Bool.{Bool, true, cond}
use mathlib.Core.List.{List}
use native.Mathlib.Omega.{arith}
use borrow.Author.Tests.{eqb-true, eqb-false, eq-eqb, ne_eqb, le-ltb}
use lib.Dec.{eqb}
use lib.ListN.{length, get_or, drop, set, length-take, length-drop}
use Rattle.basis.specs.Test.{◌and◌, ◌or◌, non}
use Rattle.basis.proofs.BoolLaws.{by_bool, both_hold}
use Rattle.format.specs.declared.Row.{Row}
use Rattle.format.specs.Shape.{covers, reads, writes}
use Rattle.format.specs.Execution.{row_below}
use Rattle.format.specs.Limits.{max_bytes}
use Rattle.format.specs.Field.{tag_at, length_at, next_at, value_at, rest_at}
use Rattle.format.specs.Layout.{edition_of, head_of, agent_of, shape_of, row_bytes, row_gap, row_of}
use Rattle.format.proofs.LayoutLaws.{row_front}
use Rattle.sets.specs.Mask.{slots}
use Rattle.content.specs.Content.{within, joins, row_rises, row_fits}
use Rattle.parse.specs.Parse.{allowed, row_fault, value_fault_by, fault_by}
use Rattle.parse.proofs.ParseLaws as parse-laws
use Rattle.parse.proofs.FormedLaws.{passed, passed_non}
use Rattle.entries.specs.declared.Counts.{Counts}
use Rattle.entries.specs.Entries.{event_at, events_in, rows_in}
use Rattle.entries.proofs.EntriesLaws.{reads_at_at, writes_at_at, rows_count, row_at_lem}
use Rattle.take_row.specs.Taken.{rise_test}
use Rattle.take_row.proofs.TakenLaws.{rise_first, rise_then}
use Rattle.faults.specs.Faults.{PlainHead, PlainEvent}
use Rattle.spot.specs.declared.Tally.{Tally}
use Rattle.spot.specs.Between.{blank_counts, blank_places, Ready, Turn, tally_with, Tallied, with_head, with_event, with_row}
use Rattle.plain.specs.steps.Growing.{PlainRow}
use Rattle.spot.proofs.TallyLaws.{tally_next}
use Rattle.spot.proofs.BetweenLaws.{ready_next, head_taken, event_few, event_here, event_taken, row_few, row_taken_lem, turn_start, turn_ready, turn_reach, turn_next}

-- ---- the head

module _ (s : List ℕ) (h : length s ≤ max_bytes) (e : PlainHead s) where
  abbrev t₀ : Turn s 0 0 blank_counts blank_places
  t₀ = turn_start s h

  pub head_reach : next_at s 0 ≤ max_bytes
  head_reach = turn_reach s 0 0 blank_counts blank_places t₀ _ refl (e.clean blank_counts blank_places)

  pub head_next : Turn s (next_at s 0) 1 (with_head (head_of (edition_of (value_at s 0)) (value_at s 0)) (next_at s 0)) blank_places
  head_next =
      let f = e.clean blank_counts blank_places in
      let r = turn_ready s 0 0 blank_counts blank_places t₀ _ refl f in
      subst (λ (tag : ℕ). Turn s (next_at s 0) tag (with_head (head_of (edition_of (value_at s 0)) (value_at s 0)) (next_at s 0)) blank_places) e.tag
      (turn_next s 0 0 blank_counts blank_places t₀ _ _ _ some refl f (head_taken s 0 0 blank_counts blank_places r e.tag))
    where
      some : 0 < length s
      some = let r = turn_ready s 0 0 blank_counts blank_places t₀ _ refl (e.clean blank_counts blank_places) in let i = parse-laws.inside s 0 _ r.clean in omega arith

-- ---- an event

same_counts : (x : Counts) (g k next : ℕ) → eqb g 0 ≡ eqb k 0 → with_event x g next ≡ with_event x k next
same_counts x g k next h =
    ap
    (λ (c : Bool). record {
      head = x.head;
      inits = cond c (x.inits + 1) x.inits;
      events = x.events + 1;
      rows_at = next;
      rows = 0;
      pairs_at = next;
      pairs = 0;
    })
    h

module _ (s : List ℕ) (p last : ℕ) (x : Counts) (at : List ℕ) (t : Turn s p last x at) (w : within 1 2 last ≡ true) (b : Bool) (e : PlainEvent s p x at b) where
  ready : Ready s p last x at
  ready = turn_ready s p last x at t _ refl (e.clean last w)

  pub plain_reach : next_at s p ≤ max_bytes
  plain_reach = ready_next s p last x at ready

  pub plain_few : (x.events < slots) × (x.inits ≤ x.events)
  plain_few = event_few s p last x at ready e.tag

  pub plain_here : x.events < length at
  plain_here = event_here s p last x at ready e.tag

  pub plain_next : (agent : ℕ) → eqb agent 0 ≡ b → p < length s → Turn s (next_at s p) 2 (with_event x agent (next_at s p)) (set at x.events p)
  plain_next agent g h =
      subst (λ (y : Counts). Turn s (next_at s p) 2 y (set at x.events p)) (same_counts x (agent_of (value_at s p)) agent (next_at s p) (e.agent ∙ sym g))
      (subst (λ (tag : ℕ). Turn s (next_at s p) tag (with_event x (agent_of (value_at s p)) (next_at s p)) (set at x.events p)) e.tag
      (turn_next s p last x at t _ _ _ h refl (e.clean last w) (event_taken s p last x at ready e.tag)))

  pub plain_tally : (k u : Tally) → Tallied (events_in s x at) k → u ≡ tally_with k (event_at s 2 p) → u.bytes ≤ k.bytes + 255
      → Tallied (events_in s (with_event x (agent_of (value_at s p)) (next_at s p)) (set at x.events p)) u
  plain_tally k u h g l =
      tally_next s p last x at ready _ _ (event_taken s p last x at ready e.tag) k h u
      (g ∙ ap (λ (n : ℕ). cond (eqb n 2) (tally_with k (event_at s 2 p)) k) (sym e.tag)) l

-- ---- a row

module _ (s : List ℕ) (p last : ℕ) (x : Counts) (at : List ℕ) (t : Turn s p last x at) (w : within 1 3 last ≡ true) (e : PlainRow s p x at) where
  row_ready : Ready s p last x at
  row_ready = turn_ready s p last x at t _ refl (e.clean last w)

  pub row_reach : next_at s p ≤ max_bytes
  row_reach = ready_next s p last x at row_ready

  pub row_room_lem : x.rows < max_bytes
  row_room_lem = row_few s p last x at row_ready e.tag

  pub row_next_lem : p < length s → Turn s (next_at s p) 3 (with_row x (next_at s p)) at
  row_next_lem h =
      subst (λ (tag : ℕ). Turn s (next_at s p) tag (with_row x (next_at s p)) at) e.tag
      (turn_next s p last x at t _ _ _ h refl (e.clean last w) (row_taken_lem s p last x at row_ready e.tag))

-- the row before
module _ (s : List ℕ) (p : ℕ) (x : Counts) (e : x.rows_at + x.rows * row_gap x.head.edition ≡ p) (r : Row) where
  rises_first : x.rows ≡ 0 → rise_test s p x r ≡ row_rises (rows_in s x) r
  unfolding row_rises ◌or◌ row_bytes
  rises_first z = sym (rise_first s p x r z) ∙ simp (rows_count, z)

  back : (x.rows ≡ 0 → ⊥) → x.rows_at + (x.rows - 1) * row_gap x.head.edition + 3 ≡ p - 3
  unfolding row_bytes
  back n = omega arith

  rises_then : (x.rows ≡ 0 → ⊥) → rise_test s p x r ≡ row_rises (rows_in s x) r
  unfolding row_rises row_bytes ◌or◌
  rises_then z =
      let j : x.rows - 1 < x.rows = omega arith in
      sym (rise_then s p x r z (omega arith))
      ∙ simp (rows_count, ne_eqb _ _ z, row_at_lem s x.head.edition x.rows_at x.rows (x.rows - 1) j)
      (ap (λ (k : ℕ). row_below (row_of x.head.edition (drop k s)) r) (sym (back z)))

  pub rises_told : rise_test s p x r ≡ row_rises (rows_in s x) r
  rises_told = by_bool (eqb x.rows 0) (λ z. rises_first (eqb-true _ _ z)) (λ z. rises_then (eqb-false _ _ z))

-- what passes the tests of a row
module _ (s : List ℕ) (p : ℕ) (x : Counts) (at : List ℕ) (room : x.events ≤ length at) where
  abbrev ed : ℕ
  ed = x.head.edition

  abbrev r : Row
  r = row_of ed (rest_at s p)

  row_same : length_at s p ≡ row_bytes ed → row_of ed (value_at s p) ≡ r
  unfolding value_at
  row_same l = row_front ed (rest_at s p) (length_at s p) (omega arith)

  long : p + 6 ≤ length s → length_at s p ≡ row_bytes ed → length (value_at s p) ≡ row_bytes ed
  unfolding value_at row_bytes
  long h l = simp (length-take, length-drop) (omega arith)

  row_fits_lem : r.reader < x.events → r.writer < x.events
      → (covers (shape_of ed (rest_at s (get_or at r.reader 0))) r.address and reads (shape_of ed (rest_at s (get_or at r.reader 0)))) ≡ true
      → (covers (shape_of ed (rest_at s (get_or at r.writer 0))) r.address and writes (shape_of ed (rest_at s (get_or at r.writer 0)))) ≡ true
      → non (eqb r.reader r.writer) ≡ true → row_rises (rows_in s x) r ≡ true → row_fits (events_in s x at) (rows_in s x) r ≡ true
  unfolding row_fits joins
  row_fits_lem e w a b d u =
      both_hold _ _
      (both_hold _ _ (reads_at_at s ed x.events at r.reader e room r.address ∙ a)
      (both_hold _ _ (writes_at_at s ed x.events at r.writer w room r.address ∙ b) d))
      u

  pub row_plain : p + 6 ≤ length s → eqb (tag_at s p) 3 ≡ true → length_at s p ≡ row_bytes ed → row_fits (events_in s x at) (rows_in s x) r ≡ true
      → PlainRow s p x at
  unfolding fault_by value_fault_by row_fault allowed row_bytes
  row_plain h t l f =
      let e : tag_at s p ≡ 3 = eqb-true _ _ t in
      record {
        tag = e;
        clean = λ last w. passed _ _ _ (le-ltb (length s) (p + 3) (omega arith)) (passed_non _ _ _ (simp (e, w)) (passed _ _ _ (le-ltb (length s) (next_at s p) (omega arith)) (simp e (passed_non _ _ _ (eq-eqb _ _ (long h l)) (passed_non _ _ _ (rw (row_same l) f) refl)))));
      }

  -- by a row that is this one
  pub row_tested : (q : Row) → q ≡ r → q.reader < x.events → q.writer < x.events
      → (covers (shape_of ed (rest_at s (get_or at q.reader 0))) q.address and reads (shape_of ed (rest_at s (get_or at q.reader 0)))) ≡ true
      → (covers (shape_of ed (rest_at s (get_or at q.writer 0))) q.address and writes (shape_of ed (rest_at s (get_or at q.writer 0)))) ≡ true
      → non (eqb q.reader q.writer) ≡ true → row_rises (rows_in s x) q ≡ true → row_fits (events_in s x at) (rows_in s x) r ≡ true
  row_tested q e =
      subst
      (λ (q : Row). q.reader < x.events → q.writer < x.events
      → (covers (shape_of ed (rest_at s (get_or at q.reader 0))) q.address and reads (shape_of ed (rest_at s (get_or at q.reader 0)))) ≡ true
      → (covers (shape_of ed (rest_at s (get_or at q.writer 0))) q.address and writes (shape_of ed (rest_at s (get_or at q.writer 0)))) ≡ true
      → non (eqb q.reader q.writer) ≡ true → row_rises (rows_in s x) q ≡ true → row_fits (events_in s x at) (rows_in s x) r ≡ true)
      (sym e) row_fits_lem

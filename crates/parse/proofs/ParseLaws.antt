-- The laws of specs/Parse.antt: what a field without a fault has shown, and one field more. Assumes nothing.
--     no_fault                      a ladder of tests that found nothing
--     EventPassed, event_passed     an event's value without a fault
--     inside, permitted, clean, value_length     of a field without a fault
--     was_none, was_2, was_3, known, event_clean, row_clean, pair_clean, row_length, pair_length     by its tag
--     Finished, finished            the ways that `finish` can go; finished_whole, Completed: the one that accepts
--     too_long, at_start, at_end, at_fault, at_field, at_next     `parse`, field by field
use Prim.Native.Nat.{ℕ, zero, suc, ◌+◌, ◌-◌, ◌≤◌, ◌<◌}
use mathlib.Core.Path.{◌≡◌, refl, sym, ap, ◌∙◌, subst}
use mathlib.Core.List.{List}
use mathlib.Core.Bool.{Bool, true, false, cond, false≢true}
use mathlib.Core.Option.{Option, none, some}
use native.Mathlib.Omega.{arith}
use borrow.Author.Tests.{ltb-false, eqb-true, eqb-false, ne_eqb, le-ltb, lt-ltb}
use lib.Dec.{ltb, eqb}
use lib.ListN.{length, get_or, length-take, length-drop}
use Rattle.basis.specs.Test.{non, any}
use Rattle.basis.proofs.BoolLaws.{non_false}
use Rattle.format.specs.Limits.{max_bytes}
use Rattle.format.specs.declared.Head.{Head}
use Rattle.format.specs.Event.{Event, reads_some}
use Rattle.format.specs.Execution.{Execution}
use Rattle.format.specs.Field.{field_bytes, tag_at, length_at, next_at, value_at}
use Rattle.format.specs.Layout.{event_bytes, data_bytes, row_bytes, pair_bytes, agent_of, shape_of}
use Rattle.content.specs.Content.{event_fits, room_for}
use Rattle.content.proofs.ContentLaws.{within_elim}
use Rattle.parse.specs.Parse.{Parsed, refused, whole, State, place_of, blank, allowed, head_fault, event_fault, event_fault_by, row_fault, pair_fault, value_fault, value_fault_by, fault_at, fault_by, after, lowest_lacking, missing, completed, finish, fields_from, parse}

-- ---- tests

pub no_fault : (b : Bool) (n m : ℕ) → cond b (suc n) m ≡ 0 → (b ≡ false) × (m ≡ 0)
no_fault true n m h = absurd (omega arith)
no_fault false n m h = (refl, h)

-- the same where the ladder asks that a test passes
pub no_fault_non : (b : Bool) (n m : ℕ) → cond (non b) (suc n) m ≡ 0 → (b ≡ true) × (m ≡ 0)
no_fault_non b n m h = let w = no_fault (non b) n m h in (non_false b w.0, w.1)

-- ---- an event's value without a fault, test by test

pub record EventPassed (h : Head) (events : List Event) (v : List ℕ) : Type 0 where
  pub fits : event_fits h events (agent_of v) (shape_of h.edition v) ≡ true
  pub length : length v ≡ event_bytes h.edition + data_bytes (shape_of h.edition v)
  pub room : room_for events (agent_of v) ≡ true

pub event_passed : (h : Head) (events : List Event) (v : List ℕ) → event_fault h events v ≡ 0 → EventPassed h events v
unfolding event_fault_by
event_passed h events v e =
    let a = (no_fault (ltb (length v) (event_bytes h.edition)) 3 _ e).1 in
    let b = no_fault_non (event_fits h events (agent_of v) (shape_of h.edition v)) 5 _ a in
    let c = no_fault_non (eqb (length v) (event_bytes h.edition + data_bytes (shape_of h.edition v))) 3 _ b.1 in
    record { fits = b.0; length = eqb-true _ _ c.0; room = (no_fault_non (room_for events (agent_of v)) 8 _ c.1).0 }

-- ---- what a field without a fault has shown

module _ (s : List ℕ) (p : ℕ) (st : State) (h : fault_at s p st ≡ 0) where
  pub inside : next_at s p ≤ length s
  unfolding fault_by
  inside =
      let a = (no_fault (ltb (length s) (p + field_bytes)) 1 _ h).1 in
      let b = (no_fault_non (allowed st.tag (tag_at s p)) 2 _ a).1 in
      ltb-false (length s) (next_at s p) (no_fault (ltb (length s) (next_at s p)) 1 _ b).0

  pub permitted : allowed st.tag (tag_at s p) ≡ true
  unfolding fault_by
  permitted = let a = (no_fault (ltb (length s) (p + field_bytes)) 1 _ h).1 in (no_fault_non (allowed st.tag (tag_at s p)) 2 _ a).0

  pub clean : value_fault st.got (tag_at s p) (value_at s p) ≡ 0
  unfolding fault_by
  clean =
      let a = (no_fault (ltb (length s) (p + field_bytes)) 1 _ h).1 in
      let b = (no_fault_non (allowed st.tag (tag_at s p)) 2 _ a).1 in
      (no_fault (ltb (length s) (next_at s p)) 1 _ b).1

  pub value_length : length (value_at s p) ≡ length_at s p
  unfolding value_at
  value_length = let i = inside in simp (length-take, length-drop) (omega arith)

  -- by the tag
  pub was_none : tag_at s p ≡ 1 → st.tag ≡ 0
  unfolding allowed
  was_none e = eqb-true st.tag 0 (subst (λ (t : ℕ). allowed st.tag t ≡ true) e permitted)

  pub was_2 : tag_at s p ≡ 2 → (1 ≤ st.tag) × (st.tag ≤ 2)
  unfolding allowed
  was_2 e = within_elim 1 2 st.tag (subst (λ (t : ℕ). allowed st.tag t ≡ true) e permitted)

  pub was_3 : tag_at s p ≡ 3 → (1 ≤ st.tag) × (st.tag ≤ 3)
  unfolding allowed
  was_3 e = within_elim 1 3 st.tag (subst (λ (t : ℕ). allowed st.tag t ≡ true) e permitted)

  pub was_4 : tag_at s p ≡ 4 → (1 ≤ st.tag) × (st.tag ≤ 4)
  unfolding allowed
  was_4 e = within_elim 1 4 st.tag (subst (λ (t : ℕ). allowed st.tag t ≡ true) e permitted)

  pub known : (tag_at s p ≡ 1 → ⊥) → (tag_at s p ≡ 2 → ⊥) → (tag_at s p ≡ 3 → ⊥) → (tag_at s p ≡ 4 → ⊥) → ⊥
  unfolding allowed
  known a b c d =
      false≢true (simp (ne_eqb (tag_at s p) 1 a, ne_eqb (tag_at s p) 2 b, ne_eqb (tag_at s p) 3 c, ne_eqb (tag_at s p) 4 d) at permitted)

  pub head_clean : tag_at s p ≡ 1 → head_fault (value_at s p) ≡ 0
  unfolding value_fault_by
  head_clean e = subst (λ (t : ℕ). value_fault st.got t (value_at s p) ≡ 0) e clean

  pub event_clean : tag_at s p ≡ 2 → event_fault st.got.head st.got.events (value_at s p) ≡ 0
  unfolding value_fault_by
  event_clean e = subst (λ (t : ℕ). value_fault st.got t (value_at s p) ≡ 0) e clean

  pub row_clean : tag_at s p ≡ 3 → row_fault st.got.head st.got.events st.got.rows (value_at s p) ≡ 0
  unfolding value_fault_by
  row_clean e = subst (λ (t : ℕ). value_fault st.got t (value_at s p) ≡ 0) e clean

  pub pair_clean : tag_at s p ≡ 4 → pair_fault st.got.events st.got.pairs (value_at s p) ≡ 0
  unfolding value_fault_by
  pair_clean e = subst (λ (t : ℕ). value_fault st.got t (value_at s p) ≡ 0) e clean

  pub row_length : tag_at s p ≡ 3 → length_at s p ≡ row_bytes st.got.head.edition
  unfolding row_fault
  row_length e = sym value_length ∙ eqb-true _ _ (no_fault_non (eqb (length (value_at s p)) (row_bytes st.got.head.edition)) 3 _ (row_clean e)).0

  pub pair_length : tag_at s p ≡ 4 → length_at s p ≡ pair_bytes
  unfolding pair_fault
  pair_length e = sym value_length ∙ eqb-true _ _ (no_fault_non (eqb (length (value_at s p)) pair_bytes) 3 _ (pair_clean e)).0

-- ---- `parse`, field by field

module _ (s : List ℕ) where
  pub too_long : max_bytes < length s → parse s ≡ refused 1 0
  unfolding parse
  too_long h = simp (lt-ltb max_bytes (length s) h)

  pub at_start : length s ≤ max_bytes → parse s ≡ fields_from s (suc (length s)) 0 blank
  unfolding parse
  at_start h = simp (le-ltb max_bytes (length s) h)

  module _ (k p : ℕ) (st : State) where
    pub at_end : length s ≤ p → fields_from s (suc k) p st ≡ finish s st
    unfolding fields_from
    at_end h = rw (le-ltb p (length s) h, fields_from)

    pub at_fault : (n : ℕ) → p < length s → fault_at s p st ≡ n → (n ≡ 0 → ⊥) → fields_from s (suc k) p st ≡ refused n (place_of n p)
    unfolding fields_from
    at_fault zero h e d = absurd (d refl)
    at_fault (suc n) h e d = rw (lt-ltb p (length s) h, fields_from, e, fields_from)

    pub at_field : p < length s → fault_at s p st ≡ 0 → fields_from s (suc k) p st ≡ fields_from s k (next_at s p) (after s p st)
    unfolding fields_from
    at_field h e = rw (lt-ltb p (length s) h, fields_from, e, fields_from)

  -- with the fuel that is left
  pub at_next : (k p : ℕ) (st : State) → p < length s → length s ≤ k + p → fault_at s p st ≡ 0
      → fields_from s (suc k) p st ≡ fields_from s (suc (k - 1)) (next_at s p) (after s p st)
  at_next k p st h b e =
      let q : k ≡ suc (k - 1) = omega arith in at_field k p st h e ∙ ap (λ (j : ℕ). fields_from s j (next_at s p) (after s p st)) q

-- ---- after all fields: one case for each way that `finish` can go

pub data Finished (s : List ℕ) (st : State) : Parsed → Type 0 where
  headless : st.tag ≡ 0 → Finished s st (refused 3 0)
  none_reads : 0 < st.tag → any reads_some st.got.events ≡ false → Finished s st (refused 10 (length s))
  absent : 0 < st.tag → any reads_some st.got.events ≡ true → missing st.got ≡ true → Finished s st (refused 14 (length s))
  rowless : (e : ℕ) → 0 < st.tag → any reads_some st.got.events ≡ true → missing st.got ≡ false → lowest_lacking st.got ≡ some e
      → Finished s st (refused 11 (place_of 11 (get_or st.places e 0)))
  complete : 0 < st.tag → any reads_some st.got.events ≡ true → missing st.got ≡ false → lowest_lacking st.got ≡ none → Finished s st (whole st.got)

pub finished : (s : List ℕ) (st : State) → Finished s st (finish s st)
unfolding finish completed non
finished s st = go (eqb st.tag 0) refl (any reads_some st.got.events) refl (missing st.got) refl (lowest_lacking st.got) refl
  where
    above : (n : ℕ) → eqb n 0 ≡ false → 0 < n
    above n p = let d = eqb-false n 0 p in omega arith

    go : (a : Bool) → eqb st.tag 0 ≡ a → (b : Bool) → any reads_some st.got.events ≡ b → (m : Bool) → missing st.got ≡ m → (o : Option ℕ) → lowest_lacking st.got ≡ o
        → Finished s st (cond a (refused 3 0) (cond (non b) (refused 10 (length s)) (cond m (refused 14 (length s)) (completed st o))))
    go true p b q m t o r = headless (eqb-true _ _ p)
    go false p false q m t o r = none_reads (above _ p) q
    go false p true q true t o r = absent (above _ p) q t
    go false p true q false t none r = complete (above _ p) q t r
    go false p true q false t (some e) r = rowless e (above _ p) q t r

pub not_whole : {A : Type 0} {n p : ℕ} {x : Execution} → refused n p ≡ whole x → A
not_whole e = let z : ◌≡◌ {A = ℕ} 0 1 = cc in absurd (omega arith)

-- where nothing is missing
pub record Completed (st : State) (x : Execution) : Type 0 where
  pub tagged : 0 < st.tag
  pub some_reads : any reads_some st.got.events ≡ true
  pub none_missing : missing st.got ≡ false
  pub no_lack : lowest_lacking st.got ≡ none
  pub got : st.got ≡ x

pub finished_whole : (s : List ℕ) (st : State) (x : Execution) → finish s st ≡ whole x → Completed st x
finished_whole s st x e = go (finished s st) e
  where
    go : {v : Parsed} → Finished s st v → v ≡ whole x → Completed st x
    go (headless t) f = not_whole f
    go (none_reads t r) f = not_whole f
    go (absent t r m) f = not_whole f
    go (rowless d t r m l) f = not_whole f
    go (complete t r m l) f = record { tagged = t; some_reads = r; none_missing = m; no_lack = l; got = (let z : whole st.got ≡ whole x = f in cc) }

-- The laws of specs/Entries.antt: what the counts and places of a sheet describe, at a number. Assumes nothing.
--     events_count, event_at_lem, event_past     how many events, event i, none behind the last
--     events_capped                          no more than there are places
--     any_events                             some event passes a test where the event at some of the places does
--     reads_at_at, reads_at_past, .. agent_past  what event i does
--     spaced_count, spaced_at, spaced_more, spaced_none     of things a gap apart
--     rows_count, row_at_lem, pairs_count, pair_at_lem              the same of rows and pairs
use mathlib.Core.Path.{◌≡◌, refl, sym, ap, ◌∙◌}
use mathlib.Core.Bool.{Bool, false}
use mathlib.Core.List.{List, [], ◌∷◌, ◌++◌, map}
use Prim.Native.Nat.{ℕ, zero, suc, ◌+◌, ◌*◌, ◌<◌, ◌≤◌, min}
use native.Mathlib.Omega.{arith}
use native.Mathlib.Numerals.{add-one}
use lib.ListN.{length, get_or, take}
use Rattle.basis.specs.Test.{◌and◌, ◌or◌, any}
use Rattle.basis.proofs.ListLaws.{take_capped, front_at, front_past, front_length}
use Rattle.format.specs.Shape.{reads, writes, marks, covers}
use Rattle.format.specs.Event.{Event, nobody, reads_at, writes_at, is_marker}
use Rattle.format.specs.Field.{rest_at}
use Rattle.format.specs.Execution.{event_no, blank_row, no_pair}
use Rattle.format.specs.Layout.{agent_of, shape_of, access_of, row_gap, pair_gap}
use Rattle.format.proofs.EventLaws.{reads_at_nobody, writes_at_nobody, is_marker_nobody, reads_at_one, writes_at_one, is_marker_one}
use Rattle.entries.specs.declared.Counts.{Counts}
use Rattle.entries.specs.Entries.{spaced, event_at, row_at, pair_at, events_on, rows_on, pairs_on, events_in}

module _ (s : List ℕ) (edition n : ℕ) (at : List ℕ) where
  pub events_count : n ≤ length at → length (events_on s edition n at) ≡ n
  unfolding events_on
  events_count h = front_length (event_at s edition) at n nobody h

  pub event_at_lem : (i : ℕ) → i < n → n ≤ length at → event_no (events_on s edition n at) i ≡ event_at s edition (get_or at i 0)
  unfolding events_on event_no
  event_at_lem i h k = front_at (event_at s edition) at n nobody i h k

  pub event_past : (i : ℕ) → n ≤ i → event_no (events_on s edition n at) i ≡ nobody
  unfolding events_on event_no
  event_past i h = front_past (event_at s edition) at n nobody i h

pub events_capped : (s : List ℕ) (edition n : ℕ) (at : List ℕ) → events_on s edition n at ≡ events_on s edition (min n (length at)) at
unfolding events_on
events_capped s edition n at = ap (map (event_at s edition)) (sym (take_capped n (min n (length at)) at refl))

any_map : {A B : Type 0} (f : B → Bool) (g : A → B) (l : List A) → any f (map g l) ≡ any (λ (a : A). f (g a)) l
unfolding any
any_map f g [] = refl
any_map f g (a ∷ l) = ap (λ (z : Bool). f (g a) or z) (any_map f g l)

-- some event passes a test where the event at some of the places does
pub any_events : (f : Event → Bool) (s : List ℕ) (x : Counts) (at : List ℕ) (n : ℕ) → n ≡ min x.events (length at)
    → any f (events_in s x at) ≡ any (λ (p : ℕ). f (event_at s x.head.edition p)) (take n at)
unfolding events_on
any_events f s x at n e = ap (any f) (events_capped s x.head.edition x.events at) ∙ any_map f (event_at s x.head.edition) _ ∙ ap (λ (m : ℕ). any (λ (p : ℕ). f (event_at s x.head.edition p)) (take m at)) (sym e)

-- what event i does, where there is such an event and where there is none
module _ (s : List ℕ) (edition n : ℕ) (at : List ℕ) (i : ℕ) where
  abbrev value : List ℕ
  value = rest_at s (get_or at i 0)

  pub reads_at_at : i < n → n ≤ length at → (m : ℕ) → reads_at (event_no (events_on s edition n at) i) m ≡ (covers (shape_of edition value) m and reads (shape_of edition value))
  reads_at_at h k m = ap (λ (e : Event). reads_at e m) (event_at_lem s edition n at i h k) ∙ reads_at_one (agent_of value) (access_of edition value) m

  pub reads_at_past : n ≤ i → (m : ℕ) → reads_at (event_no (events_on s edition n at) i) m ≡ false
  reads_at_past h m = ap (λ (e : Event). reads_at e m) (event_past s edition n at i h) ∙ reads_at_nobody m

  pub writes_at_at : i < n → n ≤ length at → (m : ℕ) → writes_at (event_no (events_on s edition n at) i) m ≡ (covers (shape_of edition value) m and writes (shape_of edition value))
  writes_at_at h k m = ap (λ (e : Event). writes_at e m) (event_at_lem s edition n at i h k) ∙ writes_at_one (agent_of value) (access_of edition value) m

  pub writes_at_past : n ≤ i → (m : ℕ) → writes_at (event_no (events_on s edition n at) i) m ≡ false
  writes_at_past h m = ap (λ (e : Event). writes_at e m) (event_past s edition n at i h) ∙ writes_at_nobody m

  pub is_marker_at : i < n → n ≤ length at → is_marker (event_no (events_on s edition n at) i) ≡ marks (shape_of edition value)
  is_marker_at h k = ap is_marker (event_at_lem s edition n at i h k) ∙ is_marker_one (agent_of value) (access_of edition value)

  pub is_marker_past : n ≤ i → is_marker (event_no (events_on s edition n at) i) ≡ false
  is_marker_past h = ap is_marker (event_past s edition n at i h) ∙ is_marker_nobody

  pub agent_at : i < n → n ≤ length at → (event_no (events_on s edition n at) i).agent ≡ agent_of value
  agent_at h k = ap {B = ℕ} (λ (e : Event). e.agent) (event_at_lem s edition n at i h k)

  pub agent_past : n ≤ i → (event_no (events_on s edition n at) i).agent ≡ 0
  agent_past h = ap {B = ℕ} (λ (e : Event). e.agent) (event_past s edition n at i h)

module _ {ℓ} {A : Type ℓ} (f : ℕ → A) (gap : ℕ) where
  pub spaced_count : (p n : ℕ) → length (spaced f gap p n) ≡ n
  unfolding spaced
  spaced_count p zero = refl
  spaced_count p (suc n) = ap suc (spaced_count (p + gap) n)

  pub spaced_at : (p n j : ℕ) (d : A) → j < n → get_or (spaced f gap p n) j d ≡ f (p + j * gap)
  unfolding spaced
  spaced_at p zero j d h = absurd (omega arith)
  spaced_at p (suc n) zero d h = ap f (omega arith)
  spaced_at p (suc n) (suc j) d h = spaced_at (p + gap) n j d (omega arith) ∙ ap f (omega arith)

  spaced_suc : (p n : ℕ) → spaced f gap p (suc n) ≡ spaced f gap p n ++ (f (p + n * gap) ∷ [])
  unfolding spaced
  spaced_suc p zero = ap (λ (k : ℕ). f k ∷ []) (omega arith)
  spaced_suc p (suc n) =
      ap (λ (l : List A). f p ∷ l) (spaced_suc (p + gap) n ∙ ap (λ (k : ℕ). spaced f gap (p + gap) n ++ (f k ∷ [])) (omega arith))

  -- one more, at the place that the others end at
  pub spaced_more : (p n place : ℕ) → p + n * gap ≡ place → spaced f gap p (n + 1) ≡ spaced f gap p n ++ (f place ∷ [])
  spaced_more p n place e = rw (add-one, spaced_suc) (ap (λ (k : ℕ). spaced f gap p n ++ (f k ∷ [])) e)

  -- none, wherever they would start
  pub spaced_none : (p q n : ℕ) → n ≡ 0 → spaced f gap p n ≡ spaced f gap q n
  unfolding spaced
  spaced_none p q n e = rw e refl

module _ (s : List ℕ) (edition p n : ℕ) where
  pub rows_count : length (rows_on s edition p n) ≡ n
  unfolding rows_on
  rows_count = spaced_count (row_at s edition) (row_gap edition) p n

  pub row_at_lem : (j : ℕ) → j < n → get_or (rows_on s edition p n) j blank_row ≡ row_at s edition (p + j * row_gap edition)
  unfolding rows_on
  row_at_lem j h = spaced_at (row_at s edition) (row_gap edition) p n j blank_row h

module _ (s : List ℕ) (p n : ℕ) where
  pub pairs_count : length (pairs_on s p n) ≡ n
  unfolding pairs_on
  pairs_count = spaced_count (pair_at s) pair_gap p n

  pub pair_at_lem : (j : ℕ) → j < n → get_or (pairs_on s p n) j no_pair ≡ pair_at s (p + j * pair_gap)
  unfolding pairs_on
  pair_at_lem j h = spaced_at (pair_at s) pair_gap p n j no_pair h

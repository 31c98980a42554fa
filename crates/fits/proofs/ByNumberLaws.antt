-- The laws of specs/steps/ByNumber.antt. Assumes nothing.
--     reads_no, writes_no, marks_no, agent_no_lem     what event e does, by its shape and agent, whether there is such an event or not
--     blocks_at                     what is asked of the event at a place
--     stands_free                   an init may stand behind events of which none blocks it
use mathlib.Core.Path.{◌≡◌, refl, sym, ap, ◌∙◌}
use mathlib.Core.Bool.{Bool, true, false, cond}
use mathlib.Core.List.{List, [], ◌∷◌}
use Prim.Native.Nat.{ℕ, ◌<◌, ◌≤◌, min}
use native.Mathlib.Omega.{arith}
use borrow.Author.Tests.{ltb-true, ltb-false}
use lib.Dec.{ltb, eqb}
use lib.ListN.{length, get_or}
use Rattle.basis.specs.Test.{◌and◌, ◌or◌, non, any, all}
use Rattle.format.specs.declared.Shape.{Shape}
use Rattle.format.specs.Shape.{no_shape, reads, writes, marks, covers, overlap}
use Rattle.format.specs.Event.{Event, is_init, reads_at, writes_at, is_marker, meets}
use Rattle.format.specs.Execution.{event_no}
use Rattle.format.specs.Field.{rest_at}
use Rattle.format.specs.Layout.{agent_of, shape_of, access_of}
use Rattle.format.proofs.EventLaws.{covers_nothing, meets_one}
use Rattle.content.specs.Content.{stands_first}
use Rattle.entries.specs.declared.Counts.{Counts}
use Rattle.entries.specs.Entries.{event_at, events_on, events_in}
use Rattle.entries.proofs.EntriesLaws.{events_capped, reads_at_at, reads_at_past, writes_at_at, writes_at_past, is_marker_at, is_marker_past, agent_at, agent_past}
use Rattle.fits.specs.steps.ByNumber.{shape_no, agent_no, blocks}

module _ (s : List ℕ) (x : Counts) (at : List ℕ) where
  abbrev n : ℕ
  n = min x.events (length at)

  abbrev ed : ℕ
  ed = x.head.edition

  same : events_in s x at ≡ events_on s ed n at
  same = events_capped s ed x.events at

  fits : n ≤ length at
  fits = omega arith

  -- a test of event e, whether there is one or not
  by_number : {A : Type 0} (f : Event → A) (g : Shape → A) (e : ℕ)
      → (e < n → f (event_no (events_on s ed n at) e) ≡ g (shape_of ed (rest_at s (get_or at e 0)))) → (n ≤ e → f (event_no (events_on s ed n at) e) ≡ g no_shape)
      → f (event_no (events_in s x at) e) ≡ g (shape_no s x at e)
  unfolding shape_no
  by_number f g e there past = ap (λ (l : List Event). f (event_no l e)) same ∙ go (ltb e n) refl
    where
      go : (b : Bool) → ltb e n ≡ b → f (event_no (events_on s ed n at) e) ≡ g (cond (ltb e n) (shape_of ed (rest_at s (get_or at e 0))) no_shape)
      go true p = rw p (there (ltb-true _ _ p))
      go false p = rw p (past (ltb-false _ _ p))

  pub reads_no : (e m : ℕ) → reads_at (event_no (events_in s x at) e) m ≡ (covers (shape_no s x at e) m and reads (shape_no s x at e))
  unfolding ◌and◌
  reads_no e m =
      by_number (λ (d : Event). reads_at d m) (λ (a : Shape). covers a m and reads a) e (λ h. reads_at_at s ed n at e h fits m)
      (λ h. reads_at_past s ed n at e h m ∙ sym (ap (λ (b : Bool). b and reads no_shape) (covers_nothing m)))

  pub writes_no : (e m : ℕ) → writes_at (event_no (events_in s x at) e) m ≡ (covers (shape_no s x at e) m and writes (shape_no s x at e))
  unfolding ◌and◌
  writes_no e m =
      by_number (λ (d : Event). writes_at d m) (λ (a : Shape). covers a m and writes a) e (λ h. writes_at_at s ed n at e h fits m)
      (λ h. writes_at_past s ed n at e h m ∙ sym (ap (λ (b : Bool). b and writes no_shape) (covers_nothing m)))

  pub marks_no : (e : ℕ) → is_marker (event_no (events_in s x at) e) ≡ marks (shape_no s x at e)
  unfolding marks
  marks_no e = by_number is_marker marks e (λ h. is_marker_at s ed n at e h fits) (λ h. is_marker_past s ed n at e h)

  pub agent_no_lem : (e : ℕ) → (event_no (events_in s x at) e).agent ≡ agent_no s x at e
  unfolding agent_no
  agent_no_lem e = ap (λ (l : List Event). (event_no l e).agent) same ∙ go (ltb e n) refl
    where
      go : (b : Bool) → ltb e n ≡ b → (event_no (events_on s ed n at) e).agent ≡ cond (ltb e n) (agent_of (rest_at s (get_or at e 0))) 0
      go true p = rw p (agent_at s ed n at e (ltb-true _ _ p) fits)
      go false p = rw p (agent_past s ed n at e (ltb-false _ _ p))

-- what is asked of the event at a place
pub blocks_at : (s : List ℕ) (edition p : ℕ) (a : Shape) → blocks a (event_at s edition p) ≡ (non (eqb (agent_of (rest_at s p)) 0) or overlap a (shape_of edition (rest_at s p)))
unfolding blocks is_init
blocks_at s edition p a = ap (λ (b : Bool). non (eqb (agent_of (rest_at s p)) 0) or b) (meets_one (agent_of (rest_at s p)) (access_of edition (rest_at s p)) a)

free : (p q : Event → Bool) (l : List Event) → (all p l and non (any q l)) ≡ non (any (λ (d : Event). non (p d) or q d) l)
unfolding all any ◌and◌ ◌or◌ non
free p q [] = refl
free p q (d ∷ l) = go (p d) (q d) (all p l) (any q l) (any (λ (e : Event). non (p e) or q e) l) (free p q l)
  where
    go : (a b c e f : Bool) → (c and non e) ≡ non f → ((a and c) and non (b or e)) ≡ non ((non a or b) or f)
    go true true true e f h = refl
    go true true false e f h = refl
    go true false c e f h = h
    go false b c e f h = refl

pub stands_free : (events : List Event) (a : Shape) → stands_first events a ≡ non (any (blocks a) events)
unfolding stands_first blocks
stands_free events a = free is_init (meets a) events

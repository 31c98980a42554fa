-- The first fault of a field, by the counts and places of what stands before it: parse's own (crates/parse/specs/Parse.antt, `fault_by`), where the counts
-- tell whether there is room for an event, so that nothing is asked of them. Of counts and places that are right it is `fault_at`. Laws:
-- proofs/FaultsLaws.antt.
--     view s last x at         the state of Parse.antt that the last tag, the counts and the places stand for
--     Counted s x at           the counts and places are right of the events
--     room_by x agent           room for one event of the agent more, by the counts
--     fault_in s p last x at    the first fault of the field at p; 0 for none
--     front_bytes               the bytes of a field before an event's data, in any edition
--     PlainHead s              the first field is a head without a fault
--     PlainEvent s p x at b    the field at p is an event without a fault, behind a head or an event; b tells whether of agent 0
--     head_test, init_test, other_test     the tests of a head, an init, another event, as the code makes them; tear_test     its tear byte
--     HeadTold, InitTold, OtherTold     an answer is the test's, and what passes has no fault; an init: where it stands first; another event: where its tear byte fits
-- Assumes nothing.
use Rattle.std.specs.Prelude.{◌≡◌, Bool, true, false, cond, List, ℕ, ◌+◌, ◌-◌, ◌≤◌, eqb, leb, ltb, length, take}
use Rattle.basis.specs.Test.{◌and◌, ◌or◌, non}
use Rattle.format.specs.declared.Shape.{Shape}
use Rattle.format.specs.Shape.{initial}
use Rattle.format.specs.Limits.{max_inits, max_others}
use Rattle.format.specs.Execution.{inits}
use Rattle.format.specs.Field.{field_bytes, tag_at, length_at, next_at, value_at, rest_at}
use Rattle.format.specs.Layout.{event_bytes, data_bytes, agent_of, shape_of}
use Rattle.content.specs.Content.{within, inside, kind_fits, init_formed, other_formed, tear_fits, stands_first, room_in}
use Rattle.parse.specs.Parse.{State, head_fault, fault_by}
use Rattle.entries.specs.declared.Counts.{Counts}
use Rattle.entries.specs.Entries.{events_in, execution}

abbrev pub view : List ℕ → ℕ → Counts → List ℕ → State
view s last x at = record { tag = last; places = take x.events at; got = execution s x at }

-- the places hold the events so far, and their inits are counted
pub record Counted (s : List ℕ) (x : Counts) (at : List ℕ) : Type 0 where
  pub room : x.events ≤ length at
  pub inits : x.inits ≡ inits (events_in s x at)

-- the events that are no inits are those left
abbrev pub room_by : Counts → ℕ → Bool
room_by x agent = room_in x.inits (x.events - x.inits) agent

abbrev pub fault_in : List ℕ → ℕ → ℕ → Counts → List ℕ → ℕ
fault_in s p last x at = fault_by (room_by x) s p (view s last x at)

-- the bytes of a field before an event's data, in any edition
abbrev pub front_bytes : ℕ
front_bytes = 9

pub record PlainHead (s : List ℕ) : Type 0 where
  pub tag : tag_at s 0 ≡ 1
  pub clean : (x : Counts) (at : List ℕ) → fault_in s 0 0 x at ≡ 0

pub record PlainEvent (s : List ℕ) (p : ℕ) (x : Counts) (at : List ℕ) (b : Bool) : Type 0 where
  pub front : p + front_bytes ≤ length s
  pub tag : tag_at s p ≡ 2
  pub agent : eqb (agent_of (value_at s p)) 0 ≡ b
  pub clean : (last : ℕ) → within 1 2 last ≡ true → fault_in s p last x at ≡ 0

-- ---- the tests of most fields: each field that passes one has no fault, and each that does not is left to the ladder of all tests

-- the first field is a head within the sheet, and its value has no fault
unfoldable pub head_test : List ℕ → Bool
head_test s = ((leb field_bytes (length s) and leb (next_at s 0) (length s)) and eqb (tag_at s 0) 1) and eqb (head_fault (value_at s 0)) 0

-- the value of the field at p is as long as an event's of shape a, and ends within the sheet
abbrev pub ends_test : List ℕ → ℕ → ℕ → Shape → Bool
ends_test s p edition a = eqb (length_at s p) (event_bytes edition + data_bytes a) and leb (next_at s p) (length s)

-- the field at p is an init by itself, with room for it: by edition 2's layout, whose tear byte only edition 2 asks for
unfoldable pub init_test : List ℕ → ℕ → Counts → Bool
init_test s p x =
    leb (p + front_bytes) (length s)
    and (((eqb (tag_at s p) 2 and ends_test s p x.head.edition (shape_of 2 (rest_at s p)))
    and (inside x.head.size (shape_of 2 (rest_at s p)) and (initial (shape_of 2 (rest_at s p)) and init_formed (agent_of (rest_at s p)) (shape_of 2 (rest_at s p)))))
    and ((non (eqb x.head.edition 2) or eqb (shape_of 2 (rest_at s p)).tear 0) and ltb x.inits max_inits))

-- the field at p is an event of mode 1 or 2 that fits, but for its tear byte, with room for it: by edition 2's layout
unfoldable pub other_test : List ℕ → ℕ → Counts → Bool
other_test s p x =
    leb (p + front_bytes) (length s)
    and ((eqb (tag_at s p) 2 and ends_test s p x.head.edition (shape_of 2 (rest_at s p)))
    and ((inside x.head.size (shape_of 2 (rest_at s p)) and ((eqb (shape_of 2 (rest_at s p)).mode 1 or eqb (shape_of 2 (rest_at s p)).mode 2) and other_formed x.head.agents (agent_of (rest_at s p)) (shape_of 2 (rest_at s p))))
    and ltb x.events (x.inits + max_others)))

-- the tear byte, which only edition 2 asks for: edition 1 has none, and its rule gives one that fits
unfoldable pub tear_test : List ℕ → ℕ → ℕ → Bool
tear_test s edition p = cond (eqb edition 2) (tear_fits (shape_of 2 (rest_at s p))) true

pub record HeadTold (s : List ℕ) (r : Bool) : Type 0 where
  pub is : r ≡ head_test s
  pub clean : r ≡ true → PlainHead s

-- what stands before it is left to the caller
pub record InitTold (s : List ℕ) (p : ℕ) (x : Counts) (r : Bool) : Type 0 where
  pub is : r ≡ init_test s p x
  pub front : r ≡ true → p + front_bytes ≤ length s
  pub clean : r ≡ true → (at : List ℕ) → stands_first (events_in s x at) (shape_of x.head.edition (rest_at s p)) ≡ true → PlainEvent s p x at true

pub record OtherTold (s : List ℕ) (p : ℕ) (x : Counts) (r : Bool) : Type 0 where
  pub is : r ≡ other_test s p x
  pub front : r ≡ true → p + front_bytes ≤ length s
  pub fits : r ≡ true → ((eqb (shape_of 2 (rest_at s p)).mode 1 or eqb (shape_of 2 (rest_at s p)).mode 2) and kind_fits (shape_of 2 (rest_at s p))) ≡ true
  pub clean : r ≡ true → tear_test s x.head.edition p ≡ true → (at : List ℕ) → PlainEvent s p x at false

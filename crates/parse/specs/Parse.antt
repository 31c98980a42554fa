-- What a sheet says (01, "The sheet" and "Numbers of the refusals"; 02 §1 and §4): any bytes are refused, by number and place, or describe an execution.
-- Laws: proofs/ParseLaws.antt, proofs/PromiseLaws.antt.
--     Parsed, parse                 the answer of the reader
--     place_of                       a refusal's place, from its number and the place of the field's tag
--     State, after                  what has been read; the state behind the next field
--     fault_at                       the first fault of the next field (0 for none); fault_by: where a test tells whether there is room for an event
--     finish                        what is tested after all fields
-- Assumes nothing.
use Rattle.std.specs.Prelude.{Bool, true, false, cond, List, [], ◌∷◌, ◌++◌, ℕ, zero, suc, ◌+◌, eqb, ltb, length, get_or}
use Rattle.std.proofs.Math.Option.{Option, none, some}
use Rattle.basis.specs.Test.{◌and◌, non, any, find, from}
use Rattle.format.specs.declared.Head.{Head}
use Rattle.format.specs.declared.Row.{Row}
use Rattle.format.specs.declared.Pair.{Pair}
use Rattle.format.specs.Limits.{max_bytes, max_pairs}
use Rattle.format.specs.Shape.{reads}
use Rattle.format.specs.Event.{Access, Event, reads_some}
use Rattle.format.specs.Execution.{Execution, event_no, no_head}
use Rattle.format.specs.Field.{field_bytes, tag_at, next_at, value_at}
use Rattle.format.specs.Layout.{edition_of, head_bytes, event_bytes, data_bytes, row_bytes, pair_bytes, head_of, agent_of, shape_of, event_of, row_of, pair_of}
use Rattle.content.specs.Content.{within, head_fits, event_fits, room_for, row_fits, pair_fits}

pub data Parsed : Type 0 where
  refused : ℕ → ℕ → Parsed
  whole : Execution → Parsed

-- 01's column "Place" for the faults of a field: its tag
unfoldable pub place_of : ℕ → ℕ → ℕ
place_of number tag = tag

-- the last tag (0 for none), the places of the events' tags, and what they describe
pub record State : Type 0 where
  pub tag : ℕ
  pub places : List ℕ
  pub got : Execution

abbrev pub blank : State
blank = record { tag = 0; places = []; got = record { head = no_head; events = []; rows = []; pairs = [] } }

-- 01: "Tags never fall; tag 1 comes first and once."; every number not listed is refused
unfoldable pub allowed : ℕ → ℕ → Bool
allowed last tag =
    cond (eqb tag 1) (eqb last 0)
    (cond (eqb tag 2) (within 1 2 last)
    (cond (eqb tag 3) (within 1 3 last)
    (cond (eqb tag 4) (within 1 4 last) false)))

-- the faults of a value, 0 for none. 01: "length (4), content (5 to 8)"
unfoldable pub head_fault : List ℕ → ℕ
head_fault v = cond (non (eqb (length v) (head_bytes (edition_of v)))) 4 (cond (non (head_fits (head_of (edition_of v) v))) 5 0)

-- 01: "For an event: value under five bytes (4), content (6), exact length (4), count (9)."; 02 §4: "The 'under five bytes' test is six for edition 2", and
-- its tear byte is content; `room` tells of an agent whether there is room for one
-- event of its more, so that a reader may tell it by what it has counted (crates/faults)
unfoldable pub event_fault_by : (ℕ → Bool) → Head → List Event → List ℕ → ℕ
event_fault_by room h events v =
    cond (ltb (length v) (event_bytes h.edition)) 4
    (cond (non (event_fits h events (agent_of v) (shape_of h.edition v))) 6
    (cond (non (eqb (length v) (event_bytes h.edition + data_bytes (shape_of h.edition v)))) 4
    (cond (non (room (agent_of v))) 9 0)))

abbrev pub event_fault : Head → List Event → List ℕ → ℕ
event_fault h events v = event_fault_by (room_for events) h events v

unfoldable pub row_fault : Head → List Event → List Row → List ℕ → ℕ
row_fault h events rows v = cond (non (eqb (length v) (row_bytes h.edition))) 4 (cond (non (row_fits events rows (row_of h.edition v))) 7 0)

-- 01: "For a pair, the count (9) comes after content."
unfoldable pub pair_fault : List Event → List Pair → List ℕ → ℕ
pair_fault events pairs v =
    cond (non (eqb (length v) pair_bytes)) 4
    (cond (non (pair_fits events pairs (pair_of v))) 8
    (cond (non (ltb (length pairs) max_pairs)) 9 0))

unfoldable pub value_fault_by : (ℕ → Bool) → Execution → ℕ → List ℕ → ℕ
value_fault_by room x tag v =
    cond (eqb tag 1) (head_fault v)
    (cond (eqb tag 2) (event_fault_by room x.head x.events v)
    (cond (eqb tag 3) (row_fault x.head x.events x.rows v)
    (cond (eqb tag 4) (pair_fault x.events x.pairs v) 3)))

abbrev pub value_fault : Execution → ℕ → List ℕ → ℕ
value_fault x tag v = value_fault_by (room_for x.events) x tag v

-- 01: "In a field: fewer than three bytes left (2), tag not allowed here (3), value past the end (2), length (4), content (5 to 8)."
unfoldable pub fault_by : (ℕ → Bool) → List ℕ → ℕ → State → ℕ
fault_by room s p st =
    cond (ltb (length s) (p + field_bytes)) 2
    (cond (non (allowed st.tag (tag_at s p))) 3
    (cond (ltb (length s) (next_at s p)) 2
    (value_fault_by room st.got (tag_at s p) (value_at s p))))

-- there is room for as many as 01 allows
abbrev pub fault_at : List ℕ → ℕ → State → ℕ
fault_at s p st = fault_by (room_for st.got.events) s p st

-- the execution with what the field at p describes
unfoldable pub taken : Execution → ℕ → List ℕ → Execution
taken x tag v =
    cond (eqb tag 1) (record { head = head_of (edition_of v) v; events = x.events; rows = x.rows; pairs = x.pairs })
    (cond (eqb tag 2) (record { head = x.head; events = x.events ++ (event_of x.head.edition v ∷ []); rows = x.rows; pairs = x.pairs })
    (cond (eqb tag 3) (record { head = x.head; events = x.events; rows = x.rows ++ (row_of x.head.edition v ∷ []); pairs = x.pairs })
    (cond (eqb tag 4) (record { head = x.head; events = x.events; rows = x.rows; pairs = x.pairs ++ (pair_of v ∷ []) }) x)))

-- the state behind the field at p
unfoldable pub after : List ℕ → ℕ → State → State
after s p st =
    record {
      tag = tag_at s p;
      places = cond (eqb (tag_at s p) 2) (st.places ++ (p ∷ [])) st.places;
      got = taken st.got (tag_at s p) (value_at s p);
    }

-- r is the row of byte n of event e
unfoldable pub is_row : ℕ → ℕ → Row → Bool
is_row e n r = eqb r.reader e and eqb r.address n

-- 01: "a read byte without a row": event number e, which is d, has one
unfoldable pub lacks : List Row → ℕ → Event → Bool
lacks rows e d =
    any (λ (a : Access). reads a.shape and any (λ (n : ℕ). non (any (is_row e n) rows)) (from a.shape.start a.shape.width)) d.accesses

-- 01: "a read byte without a row: tag of the lowest such event"
unfoldable pub lowest_lacking : Execution → Option ℕ
lowest_lacking x = find (λ (e : ℕ). lacks x.rows e (event_no x.events e)) (from 0 (length x.events))

-- 02 §1: agent a has an event; "A marker counts as an event."
unfoldable pub appears : List Event → ℕ → Bool
appears events a = any (λ (d : Event). eqb d.agent a) events

-- 02 §1: "a head that promises an agent with no event"; agents are numbered from 1 to the head's count
unfoldable pub missing : Execution → Bool
missing x = any (λ (a : ℕ). non (appears x.events a)) (from 1 x.head.agents)

unfoldable pub completed : State → Option ℕ → Parsed
completed st none = whole st.got
completed st (some e) = refused 11 (place_of 11 (get_or st.places e 0))

-- after all fields: no head, which only the empty sheet comes to (3), no event reads (10), an agent without an event (02 §1: 14, "place the sheet
-- length, tested after 10 and before 11"), a read byte without a row (11)
unfoldable pub finish : List ℕ → State → Parsed
finish s st =
    cond (eqb st.tag 0) (refused 3 0)
    (cond (non (any reads_some st.got.events)) (refused 10 (length s))
    (cond (missing st.got) (refused 14 (length s))
    (completed st (lowest_lacking st.got))))

-- 01: "Fields are taken front to back; the first at fault decides." The answer from place p on; k is more than the number of fields left.
unfoldable pub fields_from : List ℕ → ℕ → ℕ → State → Parsed
fields_from s zero p st = refused 0 0
fields_from s (suc k) p st =
    elim (ltb p (length s)) [
      | false ↦ finish s st
      | true ↦ elim (fault_at s p st) [
        | zero ↦ fields_from s k (next_at s p) (after s p st)
        | suc n ↦ refused (suc n) (place_of (suc n) p)
      ]
    ]

-- 01: "sheet over 4,096 bytes; tested before all" (1)
unfoldable pub parse : List ℕ → Parsed
parse s = cond (ltb max_bytes (length s)) (refused 1 0) (fields_from s (suc (length s)) 0 blank)

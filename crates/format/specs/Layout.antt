-- What stands where in the value of a field, by the head's edition (01, the table of tags; the layout of an edition is made here and nowhere else).
-- Laws: proofs/LayoutLaws.antt. docs/SHEET.md draws it.
--     head_bytes, event_bytes, row_bytes, pair_bytes     the bytes of a value; of an event's those before its data
--     data_bytes                                      the bytes of its data
--     row_gap, pair_gap                                the bytes from one row's, one pair's tag to the next
--     tear_by                                         where an event's tear byte comes from
--     edition_of, head_of, agent_of, shape_of, access_of, event_of, row_of, pair_of     a value as what it describes
-- Assumes nothing.
use Rattle.std.specs.Prelude.{cond, List, [], ◌∷◌, ℕ, ◌+◌, eqb, get_or, take, drop}
use Rattle.format.specs.declared.Head.{Head}
use Rattle.format.specs.declared.Shape.{Shape}
use Rattle.format.specs.declared.Row.{Row}
use Rattle.format.specs.declared.Pair.{Pair}
use Rattle.format.specs.Shape.{reads, tear_of}
use Rattle.format.specs.Event.{Access, Event}
use Rattle.format.specs.Field.{field_bytes}

-- 01: "1 head: edition (1), agents (1 to 8), memory size in bytes (1 to 64)". Its first byte is the edition, in every edition. A number that is no
-- edition has edition 1's layout (it is refused 5).
abbrev pub edition_of : List ℕ → ℕ
edition_of v = get_or v 0 0

unfoldable pub head_bytes : ℕ → ℕ
head_bytes edition = 3

abbrev pub head_of : ℕ → List ℕ → Head
head_of edition v = record { edition = edition_of v; agents = get_or v 1 0; size = get_or v 2 0 }

-- 01: "2 event: agent, kind, mode, start, width, then data"; 02 §4: "Edition 2 adds a sixth byte to each event before the data"
unfoldable pub event_bytes : ℕ → ℕ
event_bytes edition = cond (eqb edition 2) 6 5

-- 02 §4: "0 may tear, 1 tear-free": the sixth byte of edition 2; edition 1, "for integer typed arrays only", has none, and 01's rule gives it
unfoldable pub tear_by : ℕ → ℕ → ℕ → ℕ → ℕ → ℕ → ℕ
tear_by edition kind mode start width sixth = cond (eqb edition 2) sixth (tear_of kind mode start width)

abbrev pub agent_of : List ℕ → ℕ
agent_of v = get_or v 0 0

abbrev pub shape_of : ℕ → List ℕ → Shape
shape_of edition v =
    record {
      kind = get_or v 1 0;
      mode = get_or v 2 0;
      start = get_or v 3 0;
      width = get_or v 4 0;
      tear = tear_by edition (get_or v 1 0) (get_or v 2 0) (get_or v 3 0) (get_or v 4 0) (get_or v 5 0);
    }

-- 01: "Data is width bytes for a read .. and a write; twice the width for kind 3 ..; none for a marker." (A marker's width is 0.)
unfoldable pub data_bytes : Shape → ℕ
data_bytes a = cond (eqb a.kind 3) (a.width + a.width) a.width

-- what was seen: the first width bytes of the data of a read or a read-modify-write
unfoldable pub seen_of : ℕ → List ℕ → List ℕ
seen_of edition v = cond (reads (shape_of edition v)) (take (shape_of edition v).width (drop (event_bytes edition) v)) []

-- what was written: the first width bytes of the data of a write; of a read-modify-write those behind the bytes seen
unfoldable pub written_of : ℕ → List ℕ → List ℕ
written_of edition v =
    cond (eqb (shape_of edition v).kind 2) (take (shape_of edition v).width (drop (event_bytes edition) v))
    (cond (eqb (shape_of edition v).kind 3) (take (shape_of edition v).width (drop (event_bytes edition + (shape_of edition v).width) v)) [])

abbrev pub access_of : ℕ → List ℕ → Access
access_of edition v = record { shape = shape_of edition v; seen = seen_of edition v; written = written_of edition v }

abbrev pub event_of : ℕ → List ℕ → Event
event_of edition v = record { agent = agent_of v; accesses = access_of edition v ∷ [] }

-- 01: "3 row: reader, address, writer"
unfoldable pub row_bytes : ℕ → ℕ
row_bytes edition = 3

abbrev pub row_gap : ℕ → ℕ
row_gap edition = field_bytes + row_bytes edition

abbrev pub row_of : ℕ → List ℕ → Row
row_of edition v = record { reader = get_or v 0 0; address = get_or v 1 0; writer = get_or v 2 0 }

-- 01: "4 pair: marker, marker", in every edition
abbrev pub pair_bytes : ℕ
pair_bytes = 2

abbrev pub pair_gap : ℕ
pair_gap = field_bytes + pair_bytes

abbrev pub pair_of : List ℕ → Pair
pair_of v = record { first = get_or v 0 0; second = get_or v 1 0 }

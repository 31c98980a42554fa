-- The content of a field (01, "The sheet"): one test for each sentence, used by the tests of a field and by what is promised of a whole sheet.
-- Laws: proofs/ContentLaws.antt; what they say together of an event: crates/parse/proofs/EventLaws.antt.
--     head_fits                      a head's three numbers
--     inside, formed, tear_fits, alone     an event by itself: range within the memory; agent, kind, mode, width, alignment; tear byte; all of it
--     stands_first                   an init among the events before it
--     event_fits, room_in, room_for    an event's content; the count of events
--     joins, row_rises, row_fits      a row by itself, after the rows before it, both
--     parts, pair_rises, pair_fits    the same of a pair
-- Assumes nothing.
use Rattle.std.specs.Prelude.{Bool, false, cond, List, ℕ, ◌+◌, ◌-◌, eqb, ltb, leb, length, get_or}
use Rattle.basis.specs.Test.{◌and◌, ◌or◌, non, any, all}
use Rattle.format.specs.declared.Head.{Head}
use Rattle.format.specs.declared.Shape.{Shape}
use Rattle.format.specs.declared.Row.{Row}
use Rattle.format.specs.declared.Pair.{Pair}
use Rattle.format.specs.Limits.{max_edition, max_agents, max_memory, max_inits, max_others}
use Rattle.format.specs.Shape.{marks, initial, unordered, sc, divides, unbroken}
use Rattle.format.specs.Event.{Event, is_init, meets, reads_at, writes_at, is_marker}
use Rattle.format.specs.Execution.{event_no, inits, others, row_below, pair_below, blank_row, no_pair}

-- lo ≤ n ≤ hi
unfoldable pub within : ℕ → ℕ → ℕ → Bool
within lo hi n = leb lo n and leb n hi

-- 01: "edition (1), agents (1 to 8), memory size in bytes (1 to 64)"; 02 §4 adds edition 2
unfoldable pub head_fits : Head → Bool
head_fits h = within 1 max_edition h.edition and within 1 max_agents h.agents and within 1 max_memory h.size

-- 01: "Start plus width is at most the memory size."
unfoldable pub inside : ℕ → Shape → Bool
inside size a = leb (a.start + a.width) size

-- 01: "Init: agent 0, kind 2, mode 0, width 1 to 64."
unfoldable pub init_formed : ℕ → Shape → Bool
init_formed agent a = eqb agent 0 and eqb a.kind 2 and within 1 max_memory a.width

-- 01: "these three have widths 1, 2, 4, 8, and in mode 2 a start divisible by the width"
unfoldable pub sized : Shape → Bool
sized a =
    (eqb a.width 1 or eqb a.width 2 or eqb a.width 4 or eqb a.width 8) and (non (sc a) or divides a.width a.start)

-- 01: "Reads and writes have mode 1 or 2; kind 3 has mode 2"; "Marker: mode 2, start 0, width 0."; every other number is refused
unfoldable pub kind_fits : Shape → Bool
kind_fits a =
    cond (eqb a.kind 1) (sized a)
    (cond (eqb a.kind 2) (sized a)
    (cond (eqb a.kind 3) (sc a and sized a)
    (cond (eqb a.kind 4) (sc a and eqb a.start 0 and eqb a.width 0) false)))

-- 01: "Others: agent 1 to the head's count"
unfoldable pub other_formed : ℕ → ℕ → Shape → Bool
other_formed agents agent a = within 1 agents agent and kind_fits a

-- by the mode; every other number is refused
unfoldable pub formed : ℕ → ℕ → Shape → Bool
formed agents agent a =
    cond (eqb a.mode 0) (init_formed agent a)
    (cond (eqb a.mode 1) (other_formed agents agent a)
    (cond (eqb a.mode 2) (other_formed agents agent a) false))

-- 02 §4: "It must be 1 for sc reads, writes and read-modify-writes, free for unordered ones of width 1, 2 or 4 whose start is divisible by the width,
-- 0 for all else"; free is "0 may tear, 1 tear-free". What 01's rule gives at edition 1 is among it (`rule_fits`).
unfoldable pub tear_fits : Shape → Bool
tear_fits a =
    cond (sc a and non (marks a)) (eqb a.tear 1)
    (cond (unordered a and unbroken a.width a.start) (leb a.tear 1) (eqb a.tear 0))

unfoldable pub alone : Head → ℕ → Shape → Bool
alone h agent a = inside h.size a and formed h.agents agent a and tear_fits a

-- 01: "Inits stand before all other events and their ranges are disjoint."
unfoldable pub stands_first : List Event → Shape → Bool
stands_first events a = all is_init events and non (any (meets a) events)

unfoldable pub event_fits : Head → List Event → ℕ → Shape → Bool
event_fits h events agent a = alone h agent a and (non (initial a) or stands_first events a)

-- 01: "At most 4." (inits); "at most 16 together" (others), by 02 §6 18; by their counts so far
unfoldable pub room_in : ℕ → ℕ → ℕ → Bool
room_in i o agent = cond (eqb agent 0) (ltb i max_inits) (ltb o max_others)

abbrev pub room_for : List Event → ℕ → Bool
room_for events agent = room_in (inits events) (others events) agent

-- 01: "the reader reads and covers the address; the writer writes and covers it; they differ"
unfoldable pub joins : List Event → Row → Bool
joins events r =
    reads_at (event_no events r.reader) r.address and writes_at (event_no events r.writer) r.address and non (eqb r.reader r.writer)

-- 01: "rows rise strictly by (reader, address)": the last row so far, if there is one, is below r
unfoldable pub row_rises : List Row → Row → Bool
row_rises rows r = eqb (length rows) 0 or row_below (get_or rows (length rows - 1) blank_row) r

unfoldable pub row_fits : List Event → List Row → Row → Bool
row_fits events rows r = joins events r and row_rises rows r

-- 01: "two markers of different agents"
unfoldable pub parts : List Event → Pair → Bool
parts events p =
    is_marker (event_no events p.first) and is_marker (event_no events p.second)
    and non (eqb (event_no events p.first).agent (event_no events p.second).agent)

-- 01: "pairs rise strictly"
unfoldable pub pair_rises : List Pair → Pair → Bool
pair_rises pairs p = eqb (length pairs) 0 or pair_below (get_or pairs (length pairs - 1) no_pair) p

unfoldable pub pair_fits : List Event → List Pair → Pair → Bool
pair_fits events pairs p = parts events p and pair_rises pairs p

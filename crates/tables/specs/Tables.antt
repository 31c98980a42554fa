-- The tables that every step of the judge works on: fixed arrays of numbers, whatever they hold. Laws: proofs/TablesLaws.antt.
--     accesses, columns      the slots for accesses, two to an event: 2 * e and 2 * e + 1; the length of the table of accesses
--     agent_room, agent_in t e     the places for agents; event e's agent
--     shape_in t k            the shape of the access in slot k; width 0 where there is none
--     slot_in t e a           the slot of event e's access that covers the flat byte a: the second where the first does not
--     at_in t e a             the shape of that access, or one that does nothing
--     writes_in t e a         event e writes the flat byte a
--     across_in R t e d       R holds of an access of e and one of d
--     row_room, row_cells      the places for rows; the length of the table of rows
--     row_in q j              row j: reader, flat byte, writer   seen_in q j, wrote_in q j      the byte seen, the byte written
--     pair_room, pair_cells    the places for pairs; the length of the table of pairs
--     pair_in p j             pair j
--     putting, putting_row, putting_pair     a table with an access, a row, a pair written
-- Assumes nothing.
use Rattle.std.specs.Prelude.{Bool, cond, List, ℕ, ◌+◌, ◌*◌, ◌%◌, get_or, set}
use Rattle.basis.specs.Test.{◌and◌, ◌or◌}
use Rattle.format.specs.declared.Shape.{Shape}
use Rattle.format.specs.declared.Row.{Row}
use Rattle.format.specs.declared.Pair.{Pair}
use Rattle.format.specs.Shape.{no_shape, covers, writes}
use Rattle.sets.specs.Mask.{slots}

abbrev pub accesses : ℕ
accesses = 64

abbrev pub columns : ℕ
columns = 352

abbrev pub agent_room : ℕ
agent_room = 16

-- an agent counts by its place among these; 01 and 02 have at most 8
unfoldable pub agent_in : List ℕ → ℕ → ℕ
agent_in t e = get_or t e 0 % agent_room

unfoldable pub shape_in : List ℕ → ℕ → Shape
shape_in t k =
    record {
      kind = get_or t (32 + k) 0;
      mode = get_or t (96 + k) 0;
      start = get_or t (160 + k) 0;
      width = get_or t (224 + k) 0;
      tear = get_or t (288 + k) 0;
    }

unfoldable pub slot_in : List ℕ → ℕ → ℕ → ℕ
slot_in t e a = cond (covers (shape_in t (2 * e)) a) (2 * e) (2 * e + 1)

unfoldable pub at_in : List ℕ → ℕ → ℕ → Shape
at_in t e a = cond (covers (shape_in t (slot_in t e a)) a) (shape_in t (slot_in t e a)) no_shape

unfoldable pub writes_in : List ℕ → ℕ → ℕ → Bool
writes_in t e a = covers (at_in t e a) a and writes (at_in t e a)

-- R holds of an access of e and one of d
abbrev pub across_in : (Shape → Shape → Bool) → List ℕ → ℕ → ℕ → Bool
across_in R t e d =
    (R (shape_in t (2 * e)) (shape_in t (2 * d)) or R (shape_in t (2 * e)) (shape_in t (2 * d + 1)))
    or (R (shape_in t (2 * e + 1)) (shape_in t (2 * d)) or R (shape_in t (2 * e + 1)) (shape_in t (2 * d + 1)))

abbrev pub row_room : ℕ
row_room = 288

abbrev pub row_cells : ℕ
row_cells = 1440

-- an event's number counts by its place among the slots
unfoldable pub row_in : List ℕ → ℕ → Row
row_in q j = record { reader = get_or q j 0 % slots; address = get_or q (288 + j) 0; writer = get_or q (576 + j) 0 % slots }

abbrev pub seen_in : List ℕ → ℕ → ℕ
seen_in q j = get_or q (864 + j) 0

abbrev pub wrote_in : List ℕ → ℕ → ℕ
wrote_in q j = get_or q (1152 + j) 0

abbrev pub pair_room : ℕ
pair_room = 32

abbrev pub pair_cells : ℕ
pair_cells = 64

unfoldable pub pair_in : List ℕ → ℕ → Pair
pair_in p j = record { first = get_or p j 0 % slots; second = get_or p (32 + j) 0 % slots }

abbrev pub putting : List ℕ → ℕ → Shape → List ℕ
putting t k a =
    set (set (set (set (set t (32 + k) a.kind) (96 + k) a.mode) (160 + k) a.start) (224 + k) a.width) (288 + k) a.tear

abbrev pub putting_row : List ℕ → ℕ → Row → ℕ → ℕ → List ℕ
putting_row q j r seen wrote =
    set (set (set (set (set q j r.reader) (288 + j) r.address) (576 + j) r.writer) (864 + j) seen) (1152 + j) wrote

abbrev pub putting_pair : List ℕ → ℕ → Pair → List ℕ
putting_pair p j r = set (set p j r.first) (32 + j) r.second

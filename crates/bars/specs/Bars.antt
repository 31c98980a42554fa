-- Bars over the tables, by masks; the sets of equal ranges stand in crate alike. Laws: proofs/BarsLaws.antt.
--     reasons_in                 the sets of (a), (b), (c) together, of the two ends' shapes, sets and places in happens-before
--     mask_in t eq succ pred r   the set of the events V that the row r bars
--     bars_in t eq succ pred q n bars     the masks bars, with the bars of the first n rows of q: at v * slots + w the readers gained
--     filled_in t n succ pred q m bars    the same by the sets that alike's equals_in has
--     row_bars_in t n succ pred r v        what a row bars, of one event, as a test: 01's (a), (b), (c)
-- Assumes nothing.
use Rattle.std.specs.Prelude.{Bool, cond, List, ℕ, ◌%◌, eqb, ltb, get_or}
use Rattle.std.specs.Int.Bits.{bit_and, bit_or}
use Rattle.basis.specs.Test.{◌and◌, ◌or◌, non}
use Rattle.format.specs.declared.Shape.{Shape}
use Rattle.format.specs.declared.Row.{Row}
use Rattle.format.specs.Shape.{sc, both_sc}
use Rattle.sets.specs.Mask.{slots, mem, remove}
use Rattle.cells.specs.Walk.{up_to}
use Rattle.cells.specs.Cells.{spread}
use Rattle.tables.specs.Tables.{shape_in, slot_in, row_in}
use Rattle.alike.specs.Ranges.{equals_in, matches}

-- of the reader's access a and the writer's b: the events with an equal range that write sc, of either; what W happens before (after), what
-- happens before R (before)
unfoldable pub reasons_in : Shape → Shape → ℕ → ℕ → Bool → ℕ → ℕ → ℕ
reasons_in a b asA asB wr before after =
    bit_or (cond (both_sc b a) asA 0) (bit_or (cond (wr and sc b) (bit_and asB before) 0) (cond (wr and sc a) (bit_and asA after) 0))

unfoldable pub mask_in : List ℕ → List ℕ → List ℕ → List ℕ → Row → ℕ
mask_in t eq succ pred r =
    remove
    (remove
    (reasons_in (shape_in t (slot_in t (r.reader % slots) r.address)) (shape_in t (slot_in t (r.writer % slots) r.address))
    (get_or eq (slot_in t (r.reader % slots) r.address) 0) (get_or eq (slot_in t (r.writer % slots) r.address) 0)
    (mem (get_or succ (r.writer % slots) 0) (r.reader % slots)) (get_or pred (r.reader % slots) 0) (get_or succ (r.writer % slots) 0))
    (r.reader % slots))
    (r.writer % slots)

abbrev pub add_in : List ℕ → List ℕ → List ℕ → List ℕ → Row → List ℕ → List ℕ
add_in t eq succ pred r bars = spread bars (mask_in t eq succ pred r) (r.writer % slots) (r.reader % slots)

unfoldable pub bars_in : List ℕ → List ℕ → List ℕ → List ℕ → List ℕ → ℕ → List ℕ → List ℕ
bars_in t eq succ pred q n bars = up_to (λ (j : ℕ). add_in t eq succ pred (row_in q j)) n bars

unfoldable pub filled_in : List ℕ → ℕ → List ℕ → List ℕ → List ℕ → ℕ → List ℕ → List ℕ
filled_in t n succ pred q rows bars = bars_in t (equals_in t n) succ pred q rows bars

-- ---- the same, event by event

-- (a) W synchronises with R, and V, R have equal ranges; (b) W and V happen before R, W is sc, and W, V have equal ranges; (c) W happens before R
-- and before V, R is sc, and V, R have equal ranges. asA, asB: V writes sc with the range of R's, of W's access.
unfoldable pub reasons : Shape → Shape → Bool → Bool → Bool → Bool → Bool → Bool
reasons a b asA asB wr vr wv = (both_sc b a and asA) or ((wr and sc b) and (asB and vr)) or ((wr and sc a) and (asA and wv))

unfoldable pub row_bars_in : List ℕ → ℕ → List ℕ → List ℕ → Row → ℕ → Bool
row_bars_in t n succ pred r v =
    non (eqb v r.reader) and non (eqb v r.writer) and ltb v n
    and reasons (shape_in t (slot_in t r.reader r.address)) (shape_in t (slot_in t r.writer r.address))
    (matches t n (slot_in t r.reader r.address) v) (matches t n (slot_in t r.writer r.address) v)
    (mem (get_or succ r.writer 0) r.reader) (mem (get_or pred r.reader 0) v) (mem (get_or succ r.writer 0) v)

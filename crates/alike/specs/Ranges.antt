-- Equal ranges over the tables, by masks. Laws: proofs/RangesLaws.antt.
--     hits a b                  a is a writing sc access with the range of b
--     sharing t b v             event v has such an access               sc_writes t k      the access in slot k writes sc
--     writers_in t n b           the events below n whose first access (b is 0) or second one (b is 1) writes sc
--     as_in t n j k              slot k is an sc access of an event below n, with the range of slot j
--     matched_in t n b v l       the masks l, of which each of a slot with the range of that access of event v has gained v
--     equals_on t n l            the masks l, of which that of each slot that holds an sc access has gained the writing sc accesses of its range
--     equals_in t n              these alone
--     matches t n k v           slot k is an sc access of an event below n, and v has a writing sc access with its range
-- Assumes nothing.
use Rattle.std.specs.Prelude.{Bool, cond, List, ℕ, ◌+◌, ◌*◌, ◌/◌, min, ltb, length, get_or, replicate}
use Rattle.basis.specs.Test.{◌and◌, ◌or◌}
use Rattle.format.specs.declared.Shape.{Shape}
use Rattle.format.specs.Shape.{writes, sc, equal}
use Rattle.sets.specs.Mask.{insert}
use Rattle.cells.specs.Walk.{over, picked}
use Rattle.cells.specs.Cells.{placing}
use Rattle.tables.specs.Tables.{accesses, shape_in}

unfoldable pub hits : Shape → Shape → Bool
hits a b = sc a and writes a and equal a b

unfoldable pub sharing : List ℕ → Shape → ℕ → Bool
sharing t b v = hits (shape_in t (2 * v)) b or hits (shape_in t (2 * v + 1)) b

-- the access in slot k is a writing sc one
unfoldable pub sc_writes : List ℕ → ℕ → Bool
sc_writes t k = sc (shape_in t k) and writes (shape_in t k)

unfoldable pub writers_in : List ℕ → ℕ → ℕ → ℕ
writers_in t n b = picked n (λ (v : ℕ). sc_writes t (2 * v + b))

unfoldable pub as_in : List ℕ → ℕ → ℕ → ℕ → Bool
as_in t n j k = ltb k (2 * n) and sc (shape_in t k) and equal (shape_in t j) (shape_in t k)

abbrev pub match : (ℕ → Bool) → ℕ → List ℕ → ℕ → ℕ
match f v l k = cond (f k) (insert (get_or l k 0) v) (get_or l k 0)

-- the slots of n events, and some more to a multiple of eight; of these, those that have a place
abbrev pub span_of : ℕ → List ℕ → ℕ
span_of n l = min ((n + 3) / 4 * 8) (min accesses (length l))

unfoldable pub matched_in : List ℕ → ℕ → ℕ → ℕ → List ℕ → List ℕ
matched_in t n b v l = placing (match (as_in t n (2 * v + b)) v l) (span_of n l) l

unfoldable pub side_in : List ℕ → ℕ → ℕ → List ℕ → List ℕ
side_in t n b l = over (writers_in t n b) (matched_in t n b) l

unfoldable pub equals_on : List ℕ → ℕ → List ℕ → List ℕ
equals_on t n l = side_in t n 1 (side_in t n 0 l)

unfoldable pub equals_in : List ℕ → ℕ → List ℕ
equals_in t n = equals_on t n (replicate accesses 0)

-- the same, event by event
unfoldable pub matches : List ℕ → ℕ → ℕ → ℕ → Bool
matches t n k v = ltb k (2 * n) and sc (shape_in t k) and sharing t (shape_in t k) v

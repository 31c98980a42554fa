-- Rule 25 over the tables, by masks. Laws: proofs/TornLaws.antt.
--     untorn_in t r                       both ends of the row are tear-free, with equal ranges
--     sources_in t q n l                  the masks l, of which that of each access has gained the writers of its untorn rows, of the first n
--     two_in m p, two_sources_in s e p      p stands for two members w < v of m, of one of the sources of event e's accesses: p is w * slots + v
--     torn_in s e, named_in s n            e has two sources; 25 at the lowest event below n that has, with its lowest two
--     rule25_in t n q m                   the same from the tables
-- Assumes nothing.
use Rattle.std.specs.Prelude.{ℕ, ◌+◌, ◌*◌, ◌/◌, ◌%◌, Bool, cond, ltb, List, replicate, nat_lt, slice_index}
use Rattle.basis.specs.Test.{◌and◌, ◌or◌}
use Rattle.format.specs.declared.Row.{Row}
use Rattle.format.specs.Shape.{tear_free, equal}
use Rattle.answer.specs.declared.Names.TheVariants.{Torn}
use Rattle.answer.specs.Rules.{Rule, breach, named}
use Rattle.sets.specs.Mask.{slots, mem}
use Rattle.cells.specs.Walk.{up_to}
use Rattle.cells.specs.Cells.{gaining}
use Rattle.cells.specs.First.{first_of}
use Rattle.tables.specs.Tables.{accesses, shape_in, slot_in, row_in}

unfoldable pub untorn_in : List ℕ → Row → Bool
untorn_in t r =
    tear_free (shape_in t (slot_in t (r.reader % slots) r.address)) and tear_free (shape_in t (slot_in t (r.writer % slots) r.address))
    and equal (shape_in t (slot_in t (r.reader % slots) r.address)) (shape_in t (slot_in t (r.writer % slots) r.address))

-- the masks, of which that of the reader's access has gained the writer, where the row is untorn
unfoldable pub source_gains : List ℕ → Row → List ℕ → List ℕ
source_gains t r l = cond (untorn_in t r) (gaining l (slot_in t (r.reader % slots) r.address) (r.writer % slots)) l

unfoldable pub sources_in : List ℕ → List ℕ → ℕ → List ℕ → List ℕ
sources_in t q n l = up_to (λ (j : ℕ). source_gains t (row_in q j)) n l

unfoldable pub two_in : ℕ → ℕ → Bool
two_in m p = ltb (p / slots) (p % slots) and mem m (p / slots) and mem m (p % slots)

unfoldable pub two_sources_in : List ℕ → ℕ → ℕ → Bool
two_sources_in s e p = two_in (slice_index s (2 * e)) p or two_in (slice_index s (2 * e + 1)) p

abbrev pub pairs : ℕ
pairs = slots * slots

unfoldable pub torn_in : List ℕ → ℕ → Bool
torn_in s e = nat_lt (first_of (two_sources_in s e) pairs) pairs

unfoldable pub named_in : List ℕ → ℕ → Rule
named_in s n =
    let e = first_of (torn_in s) n in
    named e n (breach 25 (Torn e (first_of (two_sources_in s e) pairs / slots) (first_of (two_sources_in s e) pairs % slots)))

unfoldable pub rule25_in : List ℕ → ℕ → List ℕ → ℕ → Rule
rule25_in t n q rows = named_in (sources_in t q rows (replicate accesses 0)) n

-- A sheet's copy at edition 2 (02 §4: "Edition 1 stays, .. Both editions give the same event record, with its tear byte"), through the writer's table:
-- the table of what the sheet describes, with 2 for the edition in its head and all else as it is, written. What an edition 1 sheet describes has the tear
-- bytes that 01's rule gives (parse/specs/Promise.antt, `tear_rule`), and these are the copy's sixth bytes. Laws: proofs/CopyLaws.antt; both get the same
-- answer: crates/plimdrong/specs/Demands.antt.
--     table_at n t, slices_at n l     the table at another edition; the slices that lend it: another first byte of the head
--     copy_of x                      the copy at edition 2 of a sheet that describes x
--     Copies                        it describes x at edition 2: the same events, rows and pairs
--     ByTheRule t, Alike, CopyAlike     and of any table whose tear bytes are by 01's rule: what the reader says at both editions is the same, places aside
-- Assumes nothing.
use Rattle.std.specs.Prelude.{◌≡◌, ℕ, ◌≤◌, length, drop}
use mathlib.Core.List.{List, ◌∷◌, Memᴰ}
use Rattle.format.specs.Limits.{max_bytes}
use Rattle.format.specs.Shape.{tear_of}
use Rattle.format.specs.Execution.{Execution, with_head, at_edition}
use Rattle.parse.specs.Parse.{Parsed, refused, whole, parse}
use Rattle.encode.specs.Table.{Description, Table, table_of}
use Rattle.encode.specs.Encode.{encode}
use Rattle.encode.specs.Lend.{Slices, five}
use Rattle.encode.specs.Place.{Names}

abbrev pub table_at : ℕ → Table → Table
table_at n t = record { head = at_edition n t.head; events = t.events; rows = t.rows; pairs = t.pairs }

abbrev pub slices_at : ℕ → Slices → Slices
slices_at n l = five (n ∷ drop 1 l.head) l.events l.bytes l.rows l.pairs

abbrev pub copy_of : Execution → List ℕ
copy_of x = encode (table_at 2 (table_of x))

abbrev pub Copies : Type 0
Copies = (s : List ℕ) (x : Execution) → parse s ≡ whole x → parse (copy_of x) ≡ whole (with_head x (at_edition 2 x.head))

-- "at edition 1 it refuses, 6, a tear byte other than 01's rule gives": there are none such
abbrev pub ByTheRule : Table → Type 0
ByTheRule t = (d : Description) → Memᴰ d t.events → d.tear ≡ tear_of d.kind d.mode d.start d.width

-- What the reader says of the sheets of two tables, places aside: both are refused, by one number and for one entry of the table (specs/Place.antt), or
-- both are whole, with the same events, rows and pairs.
pub data Alike (t u : Table) : Parsed → Parsed → Type 0 where
  refused_alike : {n p q i : ℕ} → Names t n p i → Names u n q i → Alike t u (refused n p) (refused n q)
  whole_alike : (x : Execution) → Alike t u (whole x) (whole (with_head x (at_edition 2 x.head)))

-- The sheet of edition 2 is longer by a byte for each event: it must not be too long (1).
abbrev pub CopyAlike : Type 0
CopyAlike = (t : Table) → t.head.edition ≡ 1 → ByTheRule t → length (encode (table_at 2 t)) ≤ max_bytes
    → Alike t (table_at 2 t) (parse (encode t)) (parse (encode (table_at 2 t)))

-- The bytes that a table stands for (01, "The sheet"; 02 §2 and §4), by the head's edition. Laws: proofs/EncodeLaws.antt, ReadBack.antt, WrittenBack.antt, ShortLaws.antt, TearLaws.antt.
--     field tag v                   a field: "tag (1 byte), length (2 bytes, most significant first), value"
--     kind_byte, head_value, event_value, row_value, pair_value     the values of fields
--     run tag value l               a field for each entry of a list
--     encode t                      the whole sheet: head, events, rows, pairs
-- Assumes nothing.
use Rattle.std.specs.Prelude.{cond, List, [], ◌∷◌, ◌++◌, ℕ, ◌/◌, ◌%◌, eqb, length, take}
use Rattle.format.specs.declared.Head.{Head}
use Rattle.format.specs.declared.Row.{Row}
use Rattle.format.specs.declared.Pair.{Pair}
use Rattle.format.specs.Layout.{event_bytes, tear_by}
use Rattle.encode.specs.Table.{Description, Table}

-- 01: "tag (1 byte), length (2 bytes, most significant first), value". Two bytes hold lengths below 65,536; a longer value makes the sheet too
-- long whatever they say (1).
unfoldable pub field : ℕ → List ℕ → List ℕ
field tag v = tag ∷ length v / 256 % 256 ∷ length v % 256 ∷ v

-- 02 §4: "at edition 1 it refuses, 6, a tear byte other than 01's rule gives". Where a sheet of the edition would say another tear byte than the
-- description does (edition 1, which has none, says what the rule gives), the event is encoded with a kind that is not listed, which the reader refuses 6
-- where it stands. Edition 2 says whatever byte the description has.
unfoldable pub kind_byte : ℕ → Description → ℕ
kind_byte edition d = cond (eqb d.tear (tear_by edition d.kind d.mode d.start d.width d.tear)) d.kind 0

-- 01's table of tags: "1 head: edition (1), agents (1 to 8), memory size in bytes (1 to 64)", "2 event: agent, kind, mode, start, width, then data",
-- "3 row: reader, address, writer", "4 pair: marker, marker"; 02 §4: "Edition 2 adds a sixth byte to each event before the data"
abbrev pub head_value : Head → List ℕ
head_value h = h.edition ∷ h.agents ∷ h.size ∷ []

abbrev pub event_value : ℕ → Description → List ℕ
event_value edition d = take (event_bytes edition) (d.agent ∷ kind_byte edition d ∷ d.mode ∷ d.start ∷ d.width ∷ d.tear ∷ []) ++ d.bytes

abbrev pub row_value : ℕ → Row → List ℕ
row_value edition r = r.reader ∷ r.address ∷ r.writer ∷ []

abbrev pub pair_value : Pair → List ℕ
pair_value p = p.first ∷ p.second ∷ []

module _ {A : Type 0} (tag : ℕ) (value : A → List ℕ) where
  unfoldable pub run : List A → List ℕ
  run [] = []
  run (a ∷ l) = field tag (value a) ++ run l

-- 01: "Tags never fall; tag 1 comes first and once."
unfoldable pub encode : Table → List ℕ
encode t =
    field 1 (head_value t.head) ++ run 2 (event_value t.head.edition) t.events ++ run 3 (row_value t.head.edition) t.rows
    ++ run 4 pair_value t.pairs

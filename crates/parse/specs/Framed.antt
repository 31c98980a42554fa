-- A sheet whose fields are cut nowhere and have 01's tags and lengths, whatever they say (01, "The sheet"). Nothing of the tests of a field's
-- content is named here, but for the layout of its value. Laws: proofs/FramedLaws.antt.
--     Long edition tag v        a value as long as its tag asks
--     Sits s edition p last     the field at p, behind one with the tag `last`
--     Fields s edition p last   from place p on, behind a field with the tag `last`, such fields follow one another to the sheet's end
--     Framed s                  a head, and such fields behind it
-- Assumes nothing.
use Rattle.std.specs.Prelude.{◌≡◌, List, ℕ, ◌+◌, ◌≤◌, length}
use Rattle.format.specs.Field.{tag_at, next_at, value_at}
use Rattle.format.specs.Layout.{edition_of, head_bytes, event_bytes, data_bytes, row_bytes, pair_bytes, shape_of}

-- 01's table of tags: "1 head: edition (1), agents (1 to 8), memory size in bytes (1 to 64)", "2 event: agent, kind, mode, start, width, then data", "3 row: reader, address, writer", "4 pair: marker, marker"
pub record Long (edition tag : ℕ) (v : List ℕ) : Type 0 where
  pub head : tag ≡ 1 → length v ≡ head_bytes (edition_of v)
  pub event : tag ≡ 2 → length v ≡ event_bytes edition + data_bytes (shape_of edition v)
  pub row : tag ≡ 3 → length v ≡ row_bytes edition
  pub pair : tag ≡ 4 → length v ≡ pair_bytes

-- 01: "Fields follow one another: tag (1 byte), length (2 bytes, most significant first), value. .. Tags never fall; tag 1 comes first and once."
pub record Sits (s : List ℕ) (edition p last : ℕ) : Type 0 where
  pub inside : next_at s p ≤ length s
  pub rises : last ≤ tag_at s p
  pub no_head_lem : 2 ≤ tag_at s p
  pub known : tag_at s p ≤ 4
  pub long : Long edition (tag_at s p) (value_at s p)

pub data Fields (s : List ℕ) (edition : ℕ) : ℕ → ℕ → Type 0 where
  no_more : (p last : ℕ) → p ≡ length s → Fields s edition p last
  one_more : (p last : ℕ) → Sits s edition p last → Fields s edition (next_at s p) (tag_at s p) → Fields s edition p last

-- 01: "tag 1 comes first and once"; the head's edition decides how long the others are
pub record Framed (s : List ℕ) : Type 0 where
  pub inside : next_at s 0 ≤ length s
  pub head : tag_at s 0 ≡ 1
  pub long : Long (edition_of (value_at s 0)) 1 (value_at s 0)
  pub fields : Fields s (edition_of (value_at s 0)) (next_at s 0) 1

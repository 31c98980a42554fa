-- Fields (01, "The sheet"): "Fields follow one another: tag (1 byte), length (2 bytes, most significant first), value."
--     tag_at s p, length_at s p, value_at s p     of the field at place p            next_at s p     the place behind it
--     rest_at s p                               the sheet from its value on
--     field_place s k                           the place of field number k, the head being number 0
-- Assumes nothing.
use Rattle.std.specs.Prelude.{List, ℕ, zero, suc, ◌+◌, ◌*◌, get_or, take, drop}

-- the bytes before a field's value
abbrev pub field_bytes : ℕ
field_bytes = 3

abbrev pub tag_at : List ℕ → ℕ → ℕ
tag_at s p = get_or s p 0

abbrev pub length_at : List ℕ → ℕ → ℕ
length_at s p = get_or s (p + 1) 0 * 256 + get_or s (p + 2) 0

abbrev pub next_at : List ℕ → ℕ → ℕ
next_at s p = p + field_bytes + length_at s p

-- 01: "the value is handed back as a part of the sheet itself, never copied"
unfoldable pub value_at : List ℕ → ℕ → List ℕ
value_at s p = take (length_at s p) (drop (p + field_bytes) s)

-- the sheet from the value of the field at p on: where its length has been tested, as much of this as is looked at is its value
abbrev pub rest_at : List ℕ → ℕ → List ℕ
rest_at s p = drop (p + field_bytes) s

unfoldable pub field_place : List ℕ → ℕ → ℕ
field_place s zero = 0
field_place s (suc k) = next_at s (field_place s k)

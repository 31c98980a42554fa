-- The table that a suite lends as byte slices: head, events, data, rows, pairs. A byte that a slice lacks counts as 0, a rest shorter than an entry
-- is no entry, and what the head has besides is not looked at. Head, rows and pairs stand as the values of their fields do. docs/SHEET.md draws it.
-- The other way: specs/Lend.antt. Laws: proofs/LendLaws.antt; what the code puts of it: crates/compose/proofs/ComposeLaws.antt.
--     part gap l i                  entry number i of a slice of entries of `gap` bytes
--     entries gap l                 all of them
--     description_bytes              the bytes of an event's description
--     data_length, description_of     how many data bytes it says it has; the description, with its data
--     data_from, description_no       where the data of description number i begins; the description
--     lent                          the table
-- Assumes nothing.
use Rattle.std.specs.Prelude.{List, ℕ, zero, suc, ◌+◌, ◌*◌, ◌/◌, length, get_or, take, drop}
use Rattle.basis.specs.Test.{each, from}
use Rattle.format.specs.Layout.{edition_of, row_bytes, pair_bytes, head_of, row_of, pair_of}
use Rattle.encode.specs.Table.{Description, Table}

abbrev pub part : ℕ → List ℕ → ℕ → List ℕ
part gap l i = take gap (drop (i * gap) l)

unfoldable pub entries : ℕ → List ℕ → List (List ℕ)
entries gap l = each (part gap l) (from 0 (length l / gap))

abbrev pub description_bytes : ℕ
description_bytes = 8

-- "agent, kind, mode, start, width, tear, and the number of its data bytes, most significant first"
abbrev pub data_length : List ℕ → ℕ
data_length d = get_or d 6 0 * 256 + get_or d 7 0

abbrev pub description_of : List ℕ → List ℕ → Description
description_of d bytes =
    record { agent = get_or d 0 0; kind = get_or d 1 0; mode = get_or d 2 0; start = get_or d 3 0; width = get_or d 4 0; tear = get_or d 5 0; bytes = bytes }

-- "the data bytes of all events, one event after another. An event whose bytes are not all there has those that are"
unfoldable pub data_from : List ℕ → ℕ → ℕ
data_from events zero = 0
data_from events (suc i) = data_from events i + data_length (part description_bytes events i)

abbrev pub description_no : List ℕ → List ℕ → ℕ → Description
description_no events bytes i =
    description_of (part description_bytes events i) (take (data_length (part description_bytes events i)) (drop (data_from events i) bytes))

unfoldable pub lent : List ℕ → List ℕ → List ℕ → List ℕ → List ℕ → Table
lent head events bytes rows pairs =
    record {
      head = head_of (edition_of head) head;
      events = each (description_no events bytes) (from 0 (length events / description_bytes));
      rows = each (row_of (edition_of head)) (entries (row_bytes (edition_of head)) rows);
      pairs = each pair_of (entries pair_bytes pairs);
    }

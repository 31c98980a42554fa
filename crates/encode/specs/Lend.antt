-- A table as the byte slices that lend it: the other way of specs/Lent.antt. Law: proofs/LendLaws.antt.
--     Slices, five    head, events, data, rows, pairs: the slices of a table, or buffers for them
--     eight d         the eight bytes of a description: agent, kind, mode, start, width, tear, the number of its data bytes
--     flat f l        the bytes of all entries of a list, one after another
--     slices_of t      the slices of a table
--     table_in l       the table of slices
--     Lends           every table is what its slices lend
-- Assumes nothing.
use Rattle.std.specs.Prelude.{◌≡◌, List, [], ◌∷◌, ◌++◌, ℕ, ◌/◌, ◌%◌, length}
use Rattle.encode.specs.Table.{Description, Table}
use Rattle.encode.specs.Encode.{head_value, row_value, pair_value}
use Rattle.encode.specs.Lent.{lent}

pub record Slices : Type 0 where
  pub head : List ℕ
  pub events : List ℕ
  pub bytes : List ℕ
  pub rows : List ℕ
  pub pairs : List ℕ

abbrev pub five : List ℕ → List ℕ → List ℕ → List ℕ → List ℕ → Slices
five head events bytes rows pairs = record { head = head; events = events; bytes = bytes; rows = rows; pairs = pairs }

abbrev pub eight : Description → List ℕ
eight d = d.agent ∷ d.kind ∷ d.mode ∷ d.start ∷ d.width ∷ d.tear ∷ length d.bytes / 256 ∷ length d.bytes % 256 ∷ []

abbrev pub data_of : Description → List ℕ
data_of d = d.bytes

module _ {A : Type 0} (f : A → List ℕ) where
  unfoldable pub flat : List A → List ℕ
  flat [] = []
  flat (a ∷ l) = f a ++ flat l

abbrev pub slices_of : Table → Slices
slices_of t = five (head_value t.head) (flat eight t.events) (flat data_of t.events) (flat (row_value t.head.edition) t.rows) (flat pair_value t.pairs)

abbrev pub table_in : Slices → Table
table_in l = lent l.head l.events l.bytes l.rows l.pairs

abbrev pub Lends : Type 0
Lends = (t : Table) → table_in (slices_of t) ≡ t

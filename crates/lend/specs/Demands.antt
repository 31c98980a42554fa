-- What is claimed of `lend`, for all sheets and buffers. Proved in proofs/Demands.antt.
--     LendsTheTable       the fronts of the buffers lend the sheet's table
--     RefusedKeeps        what is refused changes nothing
--     ShortOfWhole        15 comes only for a sheet that is whole, and names the first buffer that is too short
--     AmpleRoom           with 3, 176, 544, 432 and 64 bytes 15 never comes
--     LendingAgree        two results agree, buffers too
--     TableFitsWord       the numbers of a table that was lent stand in their parts of the word
--     RefusedWord         so do kind, number and place of a refusal
-- Assumes nothing.
use Rattle.std.specs.Prelude.{◌≡◌, List, ℕ, ◌*◌, ◌^◌, ◌/◌, ◌%◌, ◌<◌, ◌≤◌, length, take}
use Rattle.format.specs.Execution.{Execution}
use Rattle.format.specs.Layout.{edition_of, head_bytes, row_bytes, pair_bytes}
use Rattle.parse.specs.Parse.{whole, parse}
use Rattle.answer.specs.Read.{kind_in, number_in, place_in}
use Rattle.encode.specs.Table.{table_of}
use Rattle.encode.specs.Lent.{description_bytes}
use Rattle.encode.specs.Lend.{Slices, slices_of, table_in, five}
use Rattle.lend.specs.Lending.{Lent, unlent, given, no_buffer, short_of, Lending}
use Rattle.lend.specs.Word.{lent_word}

-- what a caller lends further: of each buffer as much as the answer and the head's edition say
abbrev pub fronts : Slices → ℕ → ℕ → ℕ → ℕ → Slices
fronts b e d r p =
    five (take (head_bytes (edition_of b.head)) b.head) (take (e * description_bytes) b.events) (take d b.bytes)
    (take (r * row_bytes (edition_of b.head)) b.rows)
    (take (p * pair_bytes) b.pairs)

pub record TableOf (s : List ℕ) (l : Slices) : Type 0 where
  pub execution : Execution
  pub says : parse s ≡ whole execution
  pub back : table_in l ≡ table_of execution

abbrev pub LendsTheTable : Type 0
LendsTheTable = (s : List ℕ) (entry exit : Slices) (e d r p : ℕ) → Lending s entry (given e d r p) exit → TableOf s (fronts exit e d r p)

abbrev pub RefusedKeeps : Type 0
RefusedKeeps = (s : List ℕ) (entry exit : Slices) (n p : ℕ) → Lending s entry (unlent n p) exit → exit ≡ entry

pub record Short (s : List ℕ) (entry : Slices) (k : ℕ) : Type 0 where
  pub execution : Execution
  pub says : parse s ≡ whole execution
  pub names : k ≡ short_of (slices_of (table_of execution)) entry
  pub one : k < no_buffer

abbrev pub ShortOfWhole : Type 0
ShortOfWhole = (s : List ℕ) (entry exit : Slices) (k : ℕ) → Lending s entry (unlent 15 k) exit → Short s entry k

-- the header's PLIMDRONG_MAX_TABLE_.., in numbers: 22 events of eight bytes; the data of four inits of 64 bytes and of 18 others of twice eight; eight rows for
-- each of the others; 32 pairs
pub record Ample (b : Slices) : Type 0 where
  pub head : 3 ≤ length b.head
  pub events : 176 ≤ length b.events
  pub bytes : 544 ≤ length b.bytes
  pub rows : 432 ≤ length b.rows
  pub pairs : 64 ≤ length b.pairs

abbrev pub AmpleRoom : Type 0
AmpleRoom = (s : List ℕ) (entry exit : Slices) (k : ℕ) → Ample entry → Lending s entry (unlent 15 k) exit → ⊥

abbrev pub LendingAgree : Type 0
LendingAgree = (s : List ℕ) (entry : Slices) (q r : Lent) (exit exit' : Slices) → Lending s entry q exit → Lending s entry r exit' → (q ≡ r) × (exit ≡ exit')

pub record WordOf (w e d r p : ℕ) : Type 0 where
  pub kind : w / 2 ^ 40 ≡ 14
  pub events : w / 2 ^ 32 % 2 ^ 8 ≡ e
  pub pairs : w / 2 ^ 24 % 2 ^ 8 ≡ p
  pub rows : w / 2 ^ 12 % 2 ^ 12 ≡ r
  pub bytes : w % 2 ^ 12 ≡ d

abbrev pub TableFitsWord : Type 0
TableFitsWord = (s : List ℕ) (entry exit : Slices) (e d r p : ℕ) → Lending s entry (given e d r p) exit → WordOf (lent_word (given e d r p)) e d r p

abbrev pub RefusedWord : Type 0
RefusedWord = (s : List ℕ) (entry exit : Slices) (n p : ℕ) → Lending s entry (unlent n p) exit
    → (kind_in (lent_word (unlent n p)) ≡ 1) × (number_in (lent_word (unlent n p)) ≡ n) × (place_in (lent_word (unlent n p)) ≡ p)

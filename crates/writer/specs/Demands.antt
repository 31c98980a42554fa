-- What 02 §2 and §4 promise of the writer beyond its contract, over `Wrote`, which `write` ensures, for all tables. Proved in proofs/Demands.antt.
--     Agree          any two answers for one table and one buffer are the same, and leave the same
--     ReadsBack      "Reading what was written gives the table back"
--     WrittenBack    writing what was read gives the same bytes: of any bytes that the reader accepts
--     WritesBack     "writing what was read from a well-formed sheet gives the same bytes", in the buffer
--     WritesExactly  given room, a table is written exactly where it is that of a well-formed execution, 01's bullets, 02 §1 and §4
--     Refuses        "It refuses exactly what the reader would refuse .., with the same number .., the place being the index in the table at fault ..;
--                    then 15, place 0, if the buffer is shorter than the sheet. A refused call leaves the buffer unchanged"
--     Numbers        so a refusal is 1, 4 to 11, 14 or 15: never 2 or 3
--     RoomEnough     a buffer of 4,096 bytes is never too short
--     TearRefused    02 §4: "at edition 1 it refuses, 6, a tear byte other than 01's rule gives": whatever else is wrong with the event
--     CopyTold       02 §4: a table of edition 1 whose tear bytes are by 01's rule, and the same at edition 2, get the same answer: refused by one number at
--                    one index, or written, the second sheet a byte longer for each event
--     FitsWord       every answer fits the exported word, and is read back from it
-- Assumes nothing.
use Rattle.std.specs.Prelude.{◌≡◌, ◌⊎◌, ◌↔◌, List, ◌++◌, ℕ, ◌+◌, ◌<◌, ◌≤◌, length, take, drop, Ok}
use Rattle.format.specs.declared.Head.{Head}
use Rattle.format.specs.Limits.{max_bytes}
use Rattle.format.specs.Shape.{tear_of}
use Rattle.format.specs.Event.{Event}
use Rattle.format.specs.Execution.{Execution}
use Rattle.parse.specs.Parse.{refused, whole, event_fault, parse}
use Rattle.parse.specs.Promise.{WellFormed}
use Rattle.parse.specs.WellSheet.{WellSheet}
use Rattle.encode.specs.Table.{Description, Table, table_of}
use Rattle.encode.specs.Encode.{event_value, encode}
use Rattle.encode.specs.Place.{Names}
use Rattle.encode.specs.Copy.{table_at, ByTheRule}
use Rattle.writer.specs.Written.{Written, unwritten, Wrote}
use Rattle.writer.specs.Word.{written_word, written_in}

abbrev pub Agree : Type 0
Agree = (s entry : List ℕ) (r q : Written) (f g : List ℕ) → Wrote s entry r f → Wrote s entry q g → (r ≡ q) × (f ≡ g)

-- what is written is a whole sheet whose table is t, and nothing behind it has changed
abbrev pub ReadsBack : Type 0
ReadsBack = (t : Table) (entry : List ℕ) (n : ℕ) (exit : List ℕ) → Wrote (encode t) entry (Ok n) exit
    → (x : Execution) × (parse (take n exit) ≡ whole x) × (table_of x ≡ t) × (drop n exit ≡ drop n entry)

abbrev pub WrittenBack : Type 0
WrittenBack = (s : List ℕ) (x : Execution) → parse s ≡ whole x → encode (table_of x) ≡ s

abbrev pub WritesBack : Type 0
WritesBack = (s : List ℕ) (x : Execution) (entry : List ℕ) (r : Written) (exit : List ℕ) → WellSheet s x → length s ≤ length entry
    → Wrote (encode (table_of x)) entry r exit → (r ≡ Ok (length s)) × (exit ≡ s ++ drop (length s) entry)

abbrev pub WritesExactly : Type 0
WritesExactly = (t : Table) (x : Execution) → (parse (encode t) ≡ whole x) ↔ (WellFormed x × (table_of x ≡ t))

-- why a call is refused
pub data Why (t : Table) (room : ℕ) : ℕ → ℕ → Type 0 where
  by_reader : {n i : ℕ} (p : ℕ) → parse (encode t) ≡ refused n p → Names t n p i → Why t room n i
  no_room : (x : Execution) → parse (encode t) ≡ whole x → room < length (encode t) → Why t room 15 0

abbrev pub Refuses : Type 0
Refuses = (t : Table) (entry : List ℕ) (n i : ℕ) (exit : List ℕ) → Wrote (encode t) entry (unwritten n i) exit → Why t (length entry) n i × (exit ≡ entry)

abbrev pub Numbers : Type 0
Numbers = (t : Table) (entry : List ℕ) (n i : ℕ) (exit : List ℕ) → Wrote (encode t) entry (unwritten n i) exit
    → (n ≡ 1) ⊎ ((4 ≤ n) × (n ≤ 11)) ⊎ (n ≡ 14) ⊎ (n ≡ 15)

abbrev pub RoomEnough : Type 0
RoomEnough = (t : Table) (entry : List ℕ) (i : ℕ) (exit : List ℕ) → max_bytes ≤ length entry → Wrote (encode t) entry (unwritten 15 i) exit → ⊥

abbrev pub TearRefused : Type 0
TearRefused = (h : Head) (events : List Event) (d : Description) → h.edition ≡ 1 → (d.tear ≡ tear_of d.kind d.mode d.start d.width → ⊥)
    → event_fault h events (event_value h.edition d) ≡ 6

pub data SameTold (events : ℕ) : Written → Written → Type 0 where
  both_refused : (n i : ℕ) → SameTold events (unwritten n i) (unwritten n i)
  both_written : (n : ℕ) → SameTold events (Ok n) (Ok (n + events))

-- given room, and as long as the sheet of edition 2 is not too long (1)
abbrev pub CopyTold : Type 0
CopyTold = (t : Table) → t.head.edition ≡ 1 → ByTheRule t → length (encode (table_at 2 t)) ≤ max_bytes
    → (entry entry' : List ℕ) (r r' : Written) (exit exit' : List ℕ) → max_bytes ≤ length entry → max_bytes ≤ length entry'
    → Wrote (encode t) entry r exit → Wrote (encode (table_at 2 t)) entry' r' exit' → SameTold (length t.events) r r'

abbrev pub FitsWord : Type 0
FitsWord = (s entry : List ℕ) (r : Written) (exit : List ℕ) → Wrote s entry r exit → written_in (written_word r) ≡ r

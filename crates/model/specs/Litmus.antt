-- The litmus table (01), the entries marked (P): sheets as bytes, what is lent, and what comes back. Tested by one statement, proofs/AllEntries.antt, and made into `Judged`
-- each by one law: proofs/Litmus.antt. The other entries: specs/Further.antt. `example` and the rows of both tables are printed from
-- examples/litmus/litmus.src by tests/make; the gate compares them.
--     field, sheet, head, init, read, write, modify, marker, row, pair     the bytes of fields
--     head_2, tear                                                         of edition 2
--     Entry                                                                a sheet, the lengths of both buffers, the answer, the order
--     example, proved                                                      01's whole example; the table
-- 01: "Event 0 is an init of zeros over the memory. x is byte 0, y byte 1, width 1 unless said. A1 to A3 are agents; events are numbered left to
-- right."
-- Assumes nothing.
use Rattle.std.specs.Prelude.{List, [], ◌∷◌, ◌++◌, ℕ, length, take, drop}
use Rattle.answer.specs.declared.Names.TheVariants.{Row as OfRow, Event as OfEvent, Between, Torn, Nobody}
use Rattle.answer.specs.declared.Settled.TheVariants.{Orderly, Unsettled}
use Rattle.answer.specs.declared.Answer.{Answer}
use Rattle.answer.specs.declared.Answer.TheVariants.{Refused, Broken, Consistent}

-- 01: "tag (1 byte), length (2 bytes, most significant first), value"; no value here has 256 bytes
abbrev pub field : ℕ → List ℕ → List ℕ
field tag value = tag ∷ 0 ∷ length value ∷ value

abbrev pub sheet : List (List ℕ) → List ℕ
sheet [] = []
sheet (f ∷ fs) = f ++ sheet fs

abbrev pub head : ℕ → ℕ → List ℕ
head agents size = field 1 (1 ∷ agents ∷ size ∷ [])

abbrev pub unordered : ℕ
unordered = 1

abbrev pub sc : ℕ
sc = 2

abbrev pub init : ℕ → List ℕ → List ℕ
init start written = field 2 (0 ∷ 2 ∷ 0 ∷ start ∷ length written ∷ written)

abbrev pub read : ℕ → ℕ → ℕ → List ℕ → List ℕ
read agent mode start seen = field 2 (agent ∷ 1 ∷ mode ∷ start ∷ length seen ∷ seen)

abbrev pub write : ℕ → ℕ → ℕ → List ℕ → List ℕ
write agent mode start written = field 2 (agent ∷ 2 ∷ mode ∷ start ∷ length written ∷ written)

abbrev pub modify : ℕ → ℕ → List ℕ → List ℕ → List ℕ
modify agent start seen written = field 2 (agent ∷ 3 ∷ 2 ∷ start ∷ length seen ∷ (seen ++ written))

abbrev pub marker : ℕ → List ℕ
marker agent = field 2 (agent ∷ 4 ∷ 2 ∷ 0 ∷ 0 ∷ [])

-- 02 §4: "Edition 2 adds a sixth byte to each event before the data": of an event of edition 1, its tear byte
abbrev pub head_2 : ℕ → ℕ → List ℕ
head_2 agents size = field 1 (2 ∷ agents ∷ size ∷ [])

abbrev pub tear : ℕ → List ℕ → List ℕ
tear byte event = field 2 (take 5 (drop 3 event) ++ (byte ∷ drop 8 event))

abbrev pub row : ℕ → ℕ → ℕ → List ℕ
row reader address writer = field 3 (reader ∷ address ∷ writer ∷ [])

abbrev pub pair : ℕ → ℕ → List ℕ
pair first second = field 4 (first ∷ second ∷ [])

-- what is lent, the sheet, the answer, and the order in front of the order buffer's rest
pub record Entry : Type 0 where
  pub room : ℕ
  pub places : ℕ
  pub sheet : List ℕ
  pub answer : Answer
  pub order : List ℕ

abbrev pub lending : ℕ → ℕ → List ℕ → Answer → List ℕ → Entry
lending room places s a o = record { room = room; places = places; sheet = s; answer = a; order = o }

-- with 32,768 bytes of scratch and an order buffer for the 22 events that there can be, as the program lends
abbrev pub judged : List ℕ → Answer → List ℕ → Entry
judged s a o = lending 32768 22 s a o

-- 01: "Whole example, 30 bytes in hexadecimal: 01 00 03 01 01 01, 02 00 06 00 02 00 00 01 00, 02 00 06 01 01 01 00 01 00, 03 00 03 01 00 00."
abbrev pub example : List ℕ
example =
    (1 ∷ 0 ∷ 3 ∷ 1 ∷ 1 ∷ 1 ∷ []) ++ (2 ∷ 0 ∷ 6 ∷ 0 ∷ 2 ∷ 0 ∷ 0 ∷ 1 ∷ 0 ∷ []) ++ (2 ∷ 0 ∷ 6 ∷ 1 ∷ 1 ∷ 1 ∷ 0 ∷ 1 ∷ 0 ∷ []) ++ (3 ∷ 0 ∷ 3 ∷ 1 ∷ 0 ∷ 0 ∷ [])

-- Marked (P).
unfoldable pub proved : List Entry
proved =
    -- 01-example: 1. (P) The example: consistent. Whole example, 30 bytes. Line: `consistent orderly then 0 1`.
    judged example (Consistent Orderly) (0 ∷ 1 ∷ [])
    -- 02-row-removed: 2. (P) Its last field removed: refused 11 at 15. A mistake that looks right: letting an absent row mean "any value". This must be refused.
    ∷ judged (sheet (head 1 1 ∷ init 0 (0 ∷ []) ∷ read 1 unordered 0 (0 ∷ []) ∷ [])) (Refused 11 15) []
    -- 03-another-byte: 3. (P) Its read byte 07: `broken 21 1 0 - 0`.
    ∷ judged (sheet (head 1 1 ∷ init 0 (0 ∷ []) ∷ read 1 unordered 0 (7 ∷ []) ∷ row 1 0 0 ∷ [])) (Broken 21 (OfRow 1 0 0)) []
    -- 04-message-passing-stale: 4. (P) A1: x=1 unordered, y=1 sc. A2: y reads 1 sc, x reads 0 unordered: `broken 24 4 0 1 0`.
    ∷ judged (sheet (head 2 2 ∷ init 0 (0 ∷ 0 ∷ []) ∷ write 1 unordered 0 (1 ∷ []) ∷ write 1 sc 1 (1 ∷ []) ∷ read 2 sc 1 (1 ∷ []) ∷ read 2 unordered 0 (0 ∷ []) ∷ row 3 1 2 ∷ row 4 0 0 ∷ [])) (Broken 24 (Between 4 0 1 0)) []
    -- 07-store-buffering: 7. (P) All sc, A1: x=1, y reads 0. A2: y=1, x reads 0: `broken 26 - - - -`. A mistake that looks right: dropping (b) or (c) because (a) looks complete. 7 would pass without (c).
    ∷ judged (sheet (head 2 2 ∷ init 0 (0 ∷ 0 ∷ []) ∷ write 1 sc 0 (1 ∷ []) ∷ read 1 sc 1 (0 ∷ []) ∷ write 2 sc 1 (1 ∷ []) ∷ read 2 sc 0 (0 ∷ []) ∷ row 2 1 0 ∷ row 4 0 0 ∷ [])) (Broken 26 Nobody) []
    -- 08-store-buffering-unordered: 8. (P) Unordered: unsettled 1 4, order 0 1 2 3 4. (As 7 otherwise.) A mistake that looks right: taking source document 004's race as the test for orderly. 8 would be orderly, and no serial run explains it.
    ∷ judged (sheet (head 2 2 ∷ init 0 (0 ∷ 0 ∷ []) ∷ write 1 unordered 0 (1 ∷ []) ∷ read 1 unordered 1 (0 ∷ []) ∷ write 2 unordered 1 (1 ∷ []) ∷ read 2 unordered 0 (0 ∷ []) ∷ row 2 1 0 ∷ row 4 0 0 ∷ [])) (Consistent (Unsettled 1 4)) (0 ∷ 1 ∷ 2 ∷ 3 ∷ 4 ∷ [])
    -- 09-store-buffering-one-sees: 9. (P) sc, y reads 1 and x reads 0: orderly, 0 3 4 1 2. (As 7 otherwise.) A mistake that looks right: testing only the order in which events appear. 9 would be broken.
    ∷ judged (sheet (head 2 2 ∷ init 0 (0 ∷ 0 ∷ []) ∷ write 1 sc 0 (1 ∷ []) ∷ read 1 sc 1 (1 ∷ []) ∷ write 2 sc 1 (1 ∷ []) ∷ read 2 sc 0 (0 ∷ []) ∷ row 2 1 3 ∷ row 4 0 0 ∷ [])) (Consistent Orderly) (0 ∷ 3 ∷ 4 ∷ 1 ∷ 2 ∷ [])
    -- 10-load-buffering: 10. (P) All sc, A1: x reads 1, y=1. A2: y reads 1, x=1: `broken 22 1 - - -`.
    ∷ judged (sheet (head 2 2 ∷ init 0 (0 ∷ 0 ∷ []) ∷ read 1 sc 0 (1 ∷ []) ∷ write 1 sc 1 (1 ∷ []) ∷ read 2 sc 1 (1 ∷ []) ∷ write 2 sc 0 (1 ∷ []) ∷ row 1 0 4 ∷ row 3 1 2 ∷ [])) (Broken 22 (OfEvent 1)) []
    -- 11-from-the-future: 11. (P) A1 unordered: x reads 1 from the following x=1: `broken 23 1 2 - 0`.
    ∷ judged (sheet (head 1 1 ∷ init 0 (0 ∷ []) ∷ read 1 unordered 0 (1 ∷ []) ∷ write 1 unordered 0 (1 ∷ []) ∷ row 1 0 2 ∷ [])) (Broken 23 (OfRow 1 2 0)) []
    -- 12-torn: 12. (P) A1, A2 write 0101, 0202 unordered at 0, width 2; A3 reads 01 02 unordered: `broken 25 3 1 2 -`.
    ∷ judged (sheet (head 3 2 ∷ init 0 (0 ∷ 0 ∷ []) ∷ write 1 unordered 0 (1 ∷ 1 ∷ []) ∷ write 2 unordered 0 (2 ∷ 2 ∷ []) ∷ read 3 unordered 0 (1 ∷ 2 ∷ []) ∷ row 3 0 1 ∷ row 3 1 2 ∷ [])) (Broken 25 (Torn 3 1 2)) []
    -- 14-two-read-modify-writes: 14. (P) A1, A2: read-modify-write of x, both read 0: broken 26.
    ∷ judged (sheet (head 2 1 ∷ init 0 (0 ∷ []) ∷ modify 1 0 (0 ∷ []) (1 ∷ []) ∷ modify 2 0 (0 ∷ []) (2 ∷ []) ∷ row 1 0 0 ∷ row 2 0 0 ∷ [])) (Broken 26 Nobody) []
    -- 15-markers: 15. (P) A1: x=1 sc, marker. A2: x=2 sc, marker. A3: marker, x reads 1 unordered. Pairs (2,5), (4,5): orderly, 0 3 1 2 4 5 6. A mistake that looks right: dropping (b) or (c) because (a) looks complete. 15 would report 0 1 2 3 4 5 6 without (b).
    ∷ judged (sheet (head 3 1 ∷ init 0 (0 ∷ []) ∷ write 1 sc 0 (1 ∷ []) ∷ marker 1 ∷ write 2 sc 0 (2 ∷ []) ∷ marker 2 ∷ marker 3 ∷ read 3 unordered 0 (1 ∷ []) ∷ row 6 0 1 ∷ pair 2 5 ∷ pair 4 5 ∷ [])) (Consistent Orderly) (0 ∷ 3 ∷ 1 ∷ 2 ∷ 4 ∷ 5 ∷ 6 ∷ [])
    ∷ []

-- Sheets that `parse` is run on: 01's example, at both editions, and litmus 2, the head alone, the empty sheet, and one or more for each refusal number that a short
-- sheet can show, with the limits and the order of the tests. Computed in proofs/Examples.antt, by one statement. 1 needs a long one: `Longest`.
--     Example, examples     the bytes, and what they say
--     Right                 `parse` says so of each
--     Longest               a sheet of 4,097 bytes is refused 1, one of 4,096 is not
-- Assumes nothing.
use Rattle.std.specs.Prelude.{◌≡◌, List, [], ◌∷◌, ◌++◌, ℕ, ◌+◌, length, take, drop}
use Rattle.basis.specs.Test.{each}
use Rattle.parse.specs.Parse.{Parsed, refused, whole, parse}

pub record Example : Type 0 where
  pub bytes : List ℕ
  pub says : Parsed

abbrev pub of : List ℕ → Parsed → Example
of s p = record { bytes = s; says = p }

-- 01: "Whole example, 30 bytes in hexadecimal"
abbrev pub example : List ℕ
example =
    0x01 ∷ 0x00 ∷ 0x03 ∷ 0x01 ∷ 0x01 ∷ 0x01 ∷ 0x02 ∷ 0x00 ∷ 0x06 ∷ 0x00 ∷ 0x02 ∷ 0x00 ∷ 0x00 ∷ 0x01 ∷ 0x00
    ∷ 0x02 ∷ 0x00 ∷ 0x06 ∷ 0x01 ∷ 0x01 ∷ 0x01 ∷ 0x00 ∷ 0x01 ∷ 0x00 ∷ 0x03 ∷ 0x00 ∷ 0x03 ∷ 0x01 ∷ 0x00 ∷ 0x00 ∷ []

-- a head, an init of byte a, a marker; eight markers, a pair, eight pairs
abbrev pub head : ℕ → ℕ → List ℕ
head agents size = 1 ∷ 0 ∷ 3 ∷ 1 ∷ agents ∷ size ∷ []

abbrev pub init : ℕ → List ℕ
init a = 2 ∷ 0 ∷ 6 ∷ 0 ∷ 2 ∷ 0 ∷ a ∷ 1 ∷ 0 ∷ []

abbrev pub marker : ℕ → List ℕ
marker agent = 2 ∷ 0 ∷ 5 ∷ agent ∷ 4 ∷ 2 ∷ 0 ∷ 0 ∷ []

abbrev pub eight : ℕ → List ℕ
eight a = marker a ++ marker a ++ marker a ++ marker a ++ marker a ++ marker a ++ marker a ++ marker a

abbrev pub pair : ℕ → ℕ → List ℕ
pair a b = 4 ∷ 0 ∷ 2 ∷ a ∷ b ∷ []

abbrev pub pairs : ℕ → List ℕ
pairs a = pair a 8 ++ pair a 9 ++ pair a 10 ++ pair a 11 ++ pair a 12 ++ pair a 13 ++ pair a 14 ++ pair a 15

-- edition 2 (02 §4): a head, an init of byte 0, a marker, a read of agent 1 of the bytes given
abbrev pub head_2 : ℕ → ℕ → List ℕ
head_2 agents size = 1 ∷ 0 ∷ 3 ∷ 2 ∷ agents ∷ size ∷ []

abbrev pub init_2 : ℕ → List ℕ
init_2 tear = 2 ∷ 0 ∷ 7 ∷ 0 ∷ 2 ∷ 0 ∷ 0 ∷ 1 ∷ tear ∷ 0 ∷ []

abbrev pub marker_2 : ℕ → List ℕ
marker_2 tear = 2 ∷ 0 ∷ 6 ∷ 1 ∷ 4 ∷ 2 ∷ 0 ∷ 0 ∷ tear ∷ []

abbrev pub read_2 : ℕ → ℕ → ℕ → ℕ → List ℕ → List ℕ
read_2 mode start width tear bytes = 2 ∷ 0 ∷ (6 + length bytes) ∷ 1 ∷ 1 ∷ mode ∷ start ∷ width ∷ tear ∷ bytes

-- 01's whole example at edition 2, with the read's tear byte
abbrev pub example_2 : ℕ → List ℕ
example_2 tear = head_2 1 1 ++ init_2 0 ++ read_2 1 0 1 tear (0 ∷ []) ++ (3 ∷ 0 ∷ 3 ∷ 1 ∷ 0 ∷ 0 ∷ [])

-- what it says: at edition 1 (whose tear byte is the rule's) and at edition 2
abbrev pub says : ℕ → ℕ → Parsed
says edition tear =
    whole (record {
      head = record { edition = edition; agents = 1; size = 1 };
      events = record { agent = 0; accesses = record { shape = record { kind = 2; mode = 0; start = 0; width = 1; tear = 0 }; seen = []; written = 0 ∷ [] } ∷ [] }
          ∷ record { agent = 1; accesses = record { shape = record { kind = 1; mode = 1; start = 0; width = 1; tear = tear }; seen = 0 ∷ []; written = [] } ∷ [] } ∷ [];
      rows = record { reader = 1; address = 0; writer = 0 } ∷ [];
      pairs = [];
    })

unfoldable pub examples : List Example
examples =
    of example (says 1 1)
    -- 02 §4: at edition 2, tear-free and not: the same events
    ∷ of (example_2 1) (says 2 1)
    ∷ of (example_2 0) (says 2 0)
    -- a tear byte that is neither; an sc read's 0, and its 1 (the row is lacking: 11); an unordered read's 1 at width 8, and its 0; at start 1 of width 2,
    -- and its 0; at start 2 of width 4; a marker's 1, an init's 1
    ∷ of (example_2 2) (refused 6 16)
    ∷ of (head_2 1 1 ++ read_2 2 0 1 0 (0 ∷ [])) (refused 6 6)
    ∷ of (head_2 1 1 ++ read_2 2 0 1 1 (0 ∷ [])) (refused 11 6)
    ∷ of (head_2 1 8 ++ read_2 1 0 8 1 (0 ∷ 0 ∷ 0 ∷ 0 ∷ 0 ∷ 0 ∷ 0 ∷ 0 ∷ [])) (refused 6 6)
    ∷ of (head_2 1 8 ++ read_2 1 0 8 0 (0 ∷ 0 ∷ 0 ∷ 0 ∷ 0 ∷ 0 ∷ 0 ∷ 0 ∷ [])) (refused 11 6)
    ∷ of (head_2 1 3 ++ read_2 1 1 2 1 (0 ∷ 0 ∷ [])) (refused 6 6)
    ∷ of (head_2 1 3 ++ read_2 1 1 2 0 (0 ∷ 0 ∷ [])) (refused 11 6)
    ∷ of (head_2 1 6 ++ read_2 1 2 4 1 (0 ∷ 0 ∷ 0 ∷ 0 ∷ [])) (refused 6 6)
    ∷ of (head_2 1 1 ++ marker_2 1) (refused 6 6)
    ∷ of (head_2 1 1 ++ marker_2 0) (refused 10 15)
    ∷ of (head_2 1 1 ++ init_2 1) (refused 6 6)
    -- a value of five bytes, whatever its content; a wrong tear byte without its data: the content before the length; one byte of data too many
    ∷ of (head_2 1 1 ++ (2 ∷ 0 ∷ 5 ∷ 1 ∷ 4 ∷ 2 ∷ 0 ∷ 0 ∷ [])) (refused 4 6)
    ∷ of (head_2 1 1 ++ (2 ∷ 0 ∷ 5 ∷ 9 ∷ 9 ∷ 9 ∷ 9 ∷ 9 ∷ [])) (refused 4 6)
    ∷ of (head_2 1 1 ++ read_2 2 0 1 0 []) (refused 6 6)
    ∷ of (head_2 1 1 ++ read_2 2 0 1 1 (0 ∷ 0 ∷ [])) (refused 4 6)
    -- at edition 1 the sixth byte is data; editions 0 and 3
    ∷ of (head 1 1 ++ drop 6 (example_2 1)) (refused 4 6)
    ∷ of (1 ∷ 0 ∷ 3 ∷ 0 ∷ 1 ∷ 1 ∷ []) (refused 5 0)
    ∷ of (1 ∷ 0 ∷ 3 ∷ 3 ∷ 1 ∷ 1 ∷ []) (refused 5 0)
    -- litmus 2: its last field removed; the head alone; the empty sheet
    ∷ of (take 24 example) (refused 11 15)
    ∷ of (take 6 example) (refused 10 6)
    ∷ of [] (refused 3 0)
    -- 02 §1: the head promises an agent without an event (14); before 14 comes that nothing reads (10), behind it a read byte without a row (11); a
    -- marker is an event; the last of three agents is asked for, and the first
    ∷ of (head 2 1 ++ drop 6 example) (refused 14 30)
    ∷ of (head 2 1 ++ init 0) (refused 10 15)
    ∷ of (head 2 1 ++ drop 6 (take 24 example)) (refused 14 24)
    ∷ of (head 2 1 ++ drop 6 (take 24 example) ++ marker 2) (refused 11 15)
    ∷ of (head 3 1 ++ drop 6 (take 24 example) ++ marker 2) (refused 14 32)
    ∷ of (head 2 1 ++ init 0 ++ (2 ∷ 0 ∷ 6 ∷ 2 ∷ 1 ∷ 1 ∷ 0 ∷ 1 ∷ 0 ∷ [])) (refused 14 24)
    -- fewer than three bytes left; a value past the end; an unknown tag; a second head; no head
    ∷ of (take 8 example) (refused 2 6)
    ∷ of (take 29 example) (refused 2 24)
    ∷ of (head 1 1 ++ (5 ∷ 0 ∷ 0 ∷ [])) (refused 3 6)
    ∷ of (head 1 1 ++ head 1 1) (refused 3 6)
    ∷ of (init 0) (refused 3 0)
    -- a head of two bytes; 9 agents; memory 65
    ∷ of (1 ∷ 0 ∷ 2 ∷ 1 ∷ 1 ∷ []) (refused 4 0)
    ∷ of (head 9 1) (refused 5 0)
    ∷ of (head 1 65) (refused 5 0)
    -- an init outside the memory; an overlapping one; a marker with data; a fifth init
    ∷ of (head 1 1 ++ init 1) (refused 6 6)
    ∷ of (head 1 1 ++ init 0 ++ init 0) (refused 6 15)
    ∷ of (head 1 1 ++ (2 ∷ 0 ∷ 6 ∷ 1 ∷ 4 ∷ 2 ∷ 0 ∷ 0 ∷ 0 ∷ [])) (refused 4 6)
    ∷ of (head 1 5 ++ init 0 ++ init 1 ++ init 2 ++ init 3 ++ init 4) (refused 9 42)
    -- a row of no events; the same row twice; a pair of one agent
    ∷ of (head 1 1 ++ (3 ∷ 0 ∷ 3 ∷ 0 ∷ 0 ∷ 1 ∷ [])) (refused 7 6)
    ∷ of (example ++ (3 ∷ 0 ∷ 3 ∷ 1 ∷ 0 ∷ 0 ∷ [])) (refused 7 30)
    ∷ of (head 1 1 ++ marker 1 ++ marker 1 ++ (4 ∷ 0 ∷ 2 ∷ 0 ∷ 1 ∷ [])) (refused 8 22)
    -- a length of 259: its first byte counts
    ∷ of (1 ∷ 1 ∷ 3 ∷ 1 ∷ 1 ∷ 1 ∷ []) (refused 2 0)
    -- an event under five bytes, a row of two, a pair of three: the length before the content
    ∷ of (head 1 1 ++ (2 ∷ 0 ∷ 4 ∷ 1 ∷ 1 ∷ 1 ∷ 0 ∷ [])) (refused 4 6)
    ∷ of (head 1 1 ++ (3 ∷ 0 ∷ 2 ∷ 0 ∷ 0 ∷ [])) (refused 4 6)
    ∷ of (head 1 1 ++ (4 ∷ 0 ∷ 3 ∷ 0 ∷ 0 ∷ 0 ∷ [])) (refused 4 6)
    -- a tag before its value's end, a stub before its tag; a falling tag
    ∷ of (head 1 1 ++ (5 ∷ 0 ∷ 9 ∷ [])) (refused 3 6)
    ∷ of (head 1 1 ++ (5 ∷ [])) (refused 2 6)
    ∷ of (example ++ init 0) (refused 3 30)
    -- an event outside the memory and without its data, a fifth init that overlaps: the content before length and count
    ∷ of (head 1 1 ++ (2 ∷ 0 ∷ 5 ∷ 1 ∷ 1 ∷ 1 ∷ 1 ∷ 1 ∷ [])) (refused 6 6)
    ∷ of (head 1 5 ++ init 0 ++ init 1 ++ init 2 ++ init 3 ++ init 0) (refused 6 42)
    -- 18 other events; a 19th
    ∷ of (head 1 1 ++ eight 1 ++ eight 1 ++ marker 1 ++ marker 1) (refused 10 150)
    ∷ of (head 1 1 ++ eight 1 ++ eight 1 ++ marker 1 ++ marker 1 ++ marker 1) (refused 9 150)
    -- pairs rise by their first marker; 32 of them; a 33rd; a 33rd of one agent: the content before the count
    ∷ of (head 2 1 ++ marker 1 ++ marker 1 ++ marker 2 ++ marker 2 ++ pair 0 3 ++ pair 1 2) (refused 10 48)
    ∷ of (head 2 1 ++ eight 1 ++ eight 2 ++ pairs 0 ++ pairs 1 ++ pairs 2 ++ pairs 3) (refused 10 294)
    ∷ of (head 2 1 ++ eight 1 ++ eight 2 ++ pairs 0 ++ pairs 1 ++ pairs 2 ++ pairs 3 ++ pair 4 8) (refused 9 294)
    ∷ of (head 2 1 ++ eight 1 ++ eight 2 ++ pairs 0 ++ pairs 1 ++ pairs 2 ++ pairs 3 ++ pair 4 4) (refused 8 294)
    ∷ []

abbrev pub Right : Type 0
Right = each (λ (e : Example). parse e.bytes) examples ≡ each (λ (e : Example). e.says) examples

-- 01: "sheet over 4,096 bytes", with the number written out
abbrev pub Longest : Type 0
Longest = ((s : List ℕ) → length s ≡ 4097 → parse s ≡ refused 1 0) × ((s : List ℕ) (p : ℕ) → length s ≡ 4096 → parse s ≡ refused 1 p → ⊥)

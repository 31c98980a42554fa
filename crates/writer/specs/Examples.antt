-- Lent slices that the writer's definitions are run on: 01's whole example, at both editions, one with a read-modify-write, markers and a pair, one or more for each refusal
-- that a short table can show, and the order of the tests. Computed in proofs/Examples.antt, by one statement.
--     Example, examples     the slices, the room, the bytes of the sheet, and the answer
--     Right                 `encode` and `told` say so of each
-- Assumes nothing.
use Rattle.std.specs.Prelude.{◌≡◌, List, [], ◌∷◌, ◌++◌, ℕ, Ok}
use Rattle.basis.specs.Test.{each}
use Rattle.encode.specs.Encode.{encode}
use Rattle.encode.specs.Lend.{Slices, five, table_in}
use Rattle.writer.specs.Written.{Written, unwritten, told}

pub record Example : Type 0 where
  pub slices : Slices
  pub room : ℕ
  pub sheet : List ℕ
  pub says : Written

abbrev pub of : Slices → ℕ → List ℕ → Written → Example
of l room sheet says = record { slices = l; room = room; sheet = sheet; says = says }

-- descriptions: agent, kind, mode, start, width, tear, the number of data bytes
abbrev pub init : ℕ → List ℕ
init start = 0 ∷ 2 ∷ 0 ∷ start ∷ 1 ∷ 0 ∷ 0 ∷ 1 ∷ []

-- a read of byte 0, unordered, with a tear byte and a number of data bytes
abbrev pub read : ℕ → ℕ → List ℕ
read tear n = 1 ∷ 1 ∷ 1 ∷ 0 ∷ 1 ∷ tear ∷ 0 ∷ n ∷ []

abbrev pub modify : List ℕ
modify = 1 ∷ 3 ∷ 2 ∷ 0 ∷ 1 ∷ 1 ∷ 0 ∷ 2 ∷ []

abbrev pub marker : ℕ → List ℕ
marker agent = agent ∷ 4 ∷ 2 ∷ 0 ∷ 0 ∷ 0 ∷ 0 ∷ 0 ∷ []

-- a head and an init; an agent's read
abbrev pub start : ℕ → List ℕ
start agents = 1 ∷ 0 ∷ 3 ∷ 1 ∷ agents ∷ 1 ∷ 2 ∷ 0 ∷ 6 ∷ 0 ∷ 2 ∷ 0 ∷ 0 ∷ 1 ∷ 0 ∷ []

abbrev pub reads : List ℕ
reads = 2 ∷ 0 ∷ 6 ∷ 1 ∷ 1 ∷ 1 ∷ 0 ∷ 1 ∷ 0 ∷ []

-- 02 §4: the same at edition 2, with an event's tear byte
abbrev pub start_2 : ℕ → List ℕ
start_2 tear = 1 ∷ 0 ∷ 3 ∷ 2 ∷ 1 ∷ 1 ∷ 2 ∷ 0 ∷ 7 ∷ 0 ∷ 2 ∷ 0 ∷ 0 ∷ 1 ∷ tear ∷ 0 ∷ []

abbrev pub reads_2 : ℕ → List ℕ
reads_2 tear = 2 ∷ 0 ∷ 7 ∷ 1 ∷ 1 ∷ 1 ∷ 0 ∷ 1 ∷ tear ∷ 0 ∷ []

abbrev pub example_2 : ℕ → ℕ → ℕ → Written → Example
example_2 init_tear tear room says =
    of (five (2 ∷ 1 ∷ 1 ∷ []) ((0 ∷ 2 ∷ 0 ∷ 0 ∷ 1 ∷ init_tear ∷ 0 ∷ 1 ∷ []) ++ read tear 1) (0 ∷ 0 ∷ []) (1 ∷ 0 ∷ 0 ∷ []) []) room
    (start_2 init_tear ++ reads_2 tear ++ (3 ∷ 0 ∷ 3 ∷ 1 ∷ 0 ∷ 0 ∷ [])) says

unfoldable pub examples : List Example
examples =
    -- 01's whole example, 30 bytes, which just fit
    of (five (1 ∷ 1 ∷ 1 ∷ []) (init 0 ++ read 1 1) (0 ∷ 0 ∷ []) (1 ∷ 0 ∷ 0 ∷ []) []) 30
    (0x01 ∷ 0x00 ∷ 0x03 ∷ 0x01 ∷ 0x01 ∷ 0x01 ∷ 0x02 ∷ 0x00 ∷ 0x06 ∷ 0x00 ∷ 0x02 ∷ 0x00 ∷ 0x00 ∷ 0x01 ∷ 0x00
    ∷ 0x02 ∷ 0x00 ∷ 0x06 ∷ 0x01 ∷ 0x01 ∷ 0x01 ∷ 0x00 ∷ 0x01 ∷ 0x00 ∷ 0x03 ∷ 0x00 ∷ 0x03 ∷ 0x01 ∷ 0x00 ∷ 0x00 ∷ [])
    (Ok 30)
    -- the same: a fourth byte of the head, rests of entries and bytes behind the last event's are not looked at
    ∷ of (five (1 ∷ 1 ∷ 1 ∷ 9 ∷ []) (init 0 ++ read 1 1 ++ (1 ∷ 1 ∷ 1 ∷ [])) (0 ∷ 0 ∷ 7 ∷ []) (1 ∷ 0 ∷ 0 ∷ 1 ∷ []) (4 ∷ [])) 31
    (start 1 ++ reads ++ (3 ∷ 0 ∷ 3 ∷ 1 ∷ 0 ∷ 0 ∷ [])) (Ok 30)
    -- 02 §4: 01's example at edition 2, tear-free and not, 32 bytes, which just fit; in 31: 15; a tear byte that is neither: 6; an init's: 6
    ∷ example_2 0 1 32 (Ok 32)
    ∷ example_2 0 0 32 (Ok 32)
    ∷ example_2 0 0 31 (unwritten 15 0)
    ∷ example_2 0 2 99 (unwritten 6 1)
    ∷ example_2 1 1 99 (unwritten 6 0)
    -- at edition 2, a wrong tear byte without data: 6, before the wrong length; no data: 4; edition 3, laid out as edition 1: 5
    ∷ of (five (2 ∷ 1 ∷ 1 ∷ []) (init 0 ++ read 2 0) (0 ∷ []) [] []) 99 (start_2 0 ++ (2 ∷ 0 ∷ 6 ∷ 1 ∷ 1 ∷ 1 ∷ 0 ∷ 1 ∷ 2 ∷ [])) (unwritten 6 1)
    ∷ of (five (2 ∷ 1 ∷ 1 ∷ []) (init 0 ++ read 0 0) (0 ∷ []) [] []) 99 (start_2 0 ++ (2 ∷ 0 ∷ 6 ∷ 1 ∷ 1 ∷ 1 ∷ 0 ∷ 1 ∷ 0 ∷ [])) (unwritten 4 1)
    ∷ of (five (3 ∷ 1 ∷ 1 ∷ []) (init 0 ++ read 1 1) (0 ∷ 0 ∷ []) [] []) 99 ((1 ∷ 0 ∷ 3 ∷ 3 ∷ 1 ∷ 1 ∷ 2 ∷ 0 ∷ 6 ∷ 0 ∷ 2 ∷ 0 ∷ 0 ∷ 1 ∷ 0 ∷ []) ++ reads) (unwritten 5 0)
    -- 52 bytes in a buffer of 51: 15
    ∷ of (five (1 ∷ 2 ∷ 1 ∷ []) (init 0 ++ modify ++ marker 1 ++ marker 2) (0 ∷ 0 ∷ 5 ∷ []) (1 ∷ 0 ∷ 0 ∷ []) (2 ∷ 3 ∷ [])) 51
    (start 2 ++ (2 ∷ 0 ∷ 7 ∷ 1 ∷ 3 ∷ 2 ∷ 0 ∷ 1 ∷ 0 ∷ 5 ∷ 2 ∷ 0 ∷ 5 ∷ 1 ∷ 4 ∷ 2 ∷ 0 ∷ 0 ∷ 2 ∷ 0 ∷ 5 ∷ 2 ∷ 4 ∷ 2 ∷ 0 ∷ 0 ∷ 3 ∷ 0 ∷ 3 ∷ 1 ∷ 0 ∷ 0 ∷ 4 ∷ 0 ∷ 2 ∷ 2 ∷ 3 ∷ []))
    (unwritten 15 0)
    -- no head lent: 5; a size that is lacking is 0: 5; nothing reads: 10
    ∷ of (five [] [] [] [] []) 99 (1 ∷ 0 ∷ 3 ∷ 0 ∷ 0 ∷ 0 ∷ []) (unwritten 5 0)
    ∷ of (five (1 ∷ 1 ∷ []) [] [] [] []) 99 (1 ∷ 0 ∷ 3 ∷ 1 ∷ 1 ∷ 0 ∷ []) (unwritten 5 0)
    ∷ of (five (1 ∷ 2 ∷ 1 ∷ []) (init 0) (0 ∷ []) [] []) 99 (start 2) (unwritten 10 0)
    -- the second agent has no event: 14, before the row that is lacking; a read byte without a row: 11, before the buffer
    ∷ of (five (1 ∷ 2 ∷ 1 ∷ []) (init 0 ++ read 1 1) (0 ∷ 0 ∷ []) [] []) 99 (start 2 ++ reads) (unwritten 14 0)
    ∷ of (five (1 ∷ 1 ∷ 1 ∷ []) (init 0 ++ read 1 1) (0 ∷ 0 ∷ []) [] []) 0 (start 1 ++ reads) (unwritten 11 1)
    -- a tear byte that the rule does not give: 6, before the wrong length; data of the wrong length: 4; data that is not all there: 4
    ∷ of (five (1 ∷ 1 ∷ 1 ∷ []) (init 0 ++ read 0 0) (0 ∷ []) [] []) 99 (start 1 ++ (2 ∷ 0 ∷ 5 ∷ 1 ∷ 0 ∷ 1 ∷ 0 ∷ 1 ∷ [])) (unwritten 6 1)
    ∷ of (five (1 ∷ 1 ∷ 1 ∷ []) (init 0 ++ read 1 0) (0 ∷ []) [] []) 99 (start 1 ++ (2 ∷ 0 ∷ 5 ∷ 1 ∷ 1 ∷ 1 ∷ 0 ∷ 1 ∷ [])) (unwritten 4 1)
    ∷ of (five (1 ∷ 1 ∷ 1 ∷ []) (init 0 ++ read 1 1) (0 ∷ []) [] []) 99 (start 1 ++ (2 ∷ 0 ∷ 5 ∷ 1 ∷ 1 ∷ 1 ∷ 0 ∷ 1 ∷ [])) (unwritten 4 1)
    -- the same row twice: 7, the second row; a pair of one agent: 8; a bad row and a bad event: the event comes first
    ∷ of (five (1 ∷ 1 ∷ 1 ∷ []) (init 0 ++ read 1 1) (0 ∷ 0 ∷ []) (1 ∷ 0 ∷ 0 ∷ 1 ∷ 0 ∷ 0 ∷ []) []) 99
    (start 1 ++ reads ++ (3 ∷ 0 ∷ 3 ∷ 1 ∷ 0 ∷ 0 ∷ 3 ∷ 0 ∷ 3 ∷ 1 ∷ 0 ∷ 0 ∷ [])) (unwritten 7 1)
    ∷ of (five (1 ∷ 1 ∷ 1 ∷ []) (init 0 ++ marker 1 ++ marker 1) (0 ∷ []) [] (1 ∷ 2 ∷ [])) 99
    (start 1 ++ (2 ∷ 0 ∷ 5 ∷ 1 ∷ 4 ∷ 2 ∷ 0 ∷ 0 ∷ 2 ∷ 0 ∷ 5 ∷ 1 ∷ 4 ∷ 2 ∷ 0 ∷ 0 ∷ 4 ∷ 0 ∷ 2 ∷ 1 ∷ 2 ∷ [])) (unwritten 8 0)
    ∷ of (five (1 ∷ 1 ∷ 1 ∷ []) (init 0 ++ marker 2) (0 ∷ []) (9 ∷ 9 ∷ 9 ∷ []) []) 99
    (start 1 ++ (2 ∷ 0 ∷ 5 ∷ 2 ∷ 4 ∷ 2 ∷ 0 ∷ 0 ∷ 3 ∷ 0 ∷ 3 ∷ 9 ∷ 9 ∷ 9 ∷ [])) (unwritten 6 1)
    -- a fifth init: 9
    ∷ of (five (1 ∷ 2 ∷ 5 ∷ []) (init 0 ++ init 1 ++ init 2 ++ init 3 ++ init 4) (0 ∷ 0 ∷ 0 ∷ 0 ∷ 0 ∷ []) [] []) 99
    (1 ∷ 0 ∷ 3 ∷ 1 ∷ 2 ∷ 5 ∷ 2 ∷ 0 ∷ 6 ∷ 0 ∷ 2 ∷ 0 ∷ 0 ∷ 1 ∷ 0 ∷ 2 ∷ 0 ∷ 6 ∷ 0 ∷ 2 ∷ 0 ∷ 1 ∷ 1 ∷ 0 ∷ 2 ∷ 0 ∷ 6 ∷ 0 ∷ 2 ∷ 0 ∷ 2 ∷ 1 ∷ 0 ∷ 2 ∷ 0 ∷ 6 ∷ 0 ∷ 2 ∷ 0 ∷ 3 ∷ 1 ∷ 0
    ∷ 2 ∷ 0 ∷ 6 ∷ 0 ∷ 2 ∷ 0 ∷ 4 ∷ 1 ∷ 0 ∷ []) (unwritten 9 4)
    ∷ []

pub record Right : Type 0 where
  pub bytes : each (λ (e : Example). encode (table_in e.slices)) examples ≡ each (λ (e : Example). e.sheet) examples
  pub says : each (λ (e : Example). told e.sheet e.room) examples ≡ each (λ (e : Example). e.says) examples

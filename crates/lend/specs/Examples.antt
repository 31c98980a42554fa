-- Sheets that are lent out, computed in proofs/Examples.antt, so that a byte in another place is seen.
--     Example, examples     a sheet, the buffers, and what comes back
--     Right                 `lent_by` and `held_by` say so of each
-- Assumes nothing.
use Rattle.std.specs.Prelude.{◌≡◌, List, [], ◌∷◌, ℕ, take, replicate}
use Rattle.basis.specs.Test.{each}
use Rattle.parse.specs.Parse.{parse}
use Rattle.parse.specs.Examples.{example, example_2}
use Rattle.encode.specs.Lend.{Slices, five}
use Rattle.lend.specs.Lending.{Lent, unlent, given, lent_by, held_by}

pub record Example : Type 0 where
  pub bytes : List ℕ
  pub entry : Slices
  pub says : Lent
  pub exit : Slices

-- buffers of 9s
abbrev pub nines : ℕ → ℕ → ℕ → ℕ → ℕ → Slices
nines head events bytes rows pairs = five (replicate head 9) (replicate events 9) (replicate bytes 9) (replicate rows 9) (replicate pairs 9)

-- an example that changes nothing
abbrev pub kept : List ℕ → Slices → ℕ → ℕ → Example
kept s b n p = record { bytes = s; entry = b; says = unlent n p; exit = b }

-- a head, an init, two agents' markers, a read-modify-write of a byte (seen 0, written 7), its row, a pair of the markers
abbrev pub marked : List ℕ
marked =
    1 ∷ 0 ∷ 3 ∷ 1 ∷ 2 ∷ 1 ∷ 2 ∷ 0 ∷ 6 ∷ 0 ∷ 2 ∷ 0 ∷ 0 ∷ 1 ∷ 0 ∷ 2 ∷ 0 ∷ 5 ∷ 1 ∷ 4 ∷ 2 ∷ 0 ∷ 0 ∷ 2 ∷ 0 ∷ 5 ∷ 2 ∷ 4 ∷ 2 ∷ 0 ∷ 0
    ∷ 2 ∷ 0 ∷ 7 ∷ 1 ∷ 3 ∷ 2 ∷ 0 ∷ 1 ∷ 0 ∷ 7 ∷ 3 ∷ 0 ∷ 3 ∷ 3 ∷ 0 ∷ 0 ∷ 4 ∷ 0 ∷ 2 ∷ 1 ∷ 2 ∷ []

unfoldable pub examples : List Example
examples =
    -- 01's example: an init of byte 0 and a tear-free read of it
    record {
      bytes = example;
      entry = nines 4 17 3 3 0;
      says = given 2 2 1 0;
      exit = five (1 ∷ 1 ∷ 1 ∷ 9 ∷ []) (0 ∷ 2 ∷ 0 ∷ 0 ∷ 1 ∷ 0 ∷ 0 ∷ 1 ∷ 1 ∷ 1 ∷ 1 ∷ 0 ∷ 1 ∷ 1 ∷ 0 ∷ 1 ∷ 9 ∷ []) (0 ∷ 0 ∷ 9 ∷ []) (1 ∷ 0 ∷ 0 ∷ []) [];
    }
    -- 02 §4: at edition 2 the tear byte is the sheet's: a read that may tear
    ∷ record {
      bytes = example_2 0;
      entry = nines 3 16 2 4 1;
      says = given 2 2 1 0;
      exit = five (2 ∷ 1 ∷ 1 ∷ []) (0 ∷ 2 ∷ 0 ∷ 0 ∷ 1 ∷ 0 ∷ 0 ∷ 1 ∷ 1 ∷ 1 ∷ 1 ∷ 0 ∷ 1 ∷ 0 ∷ 0 ∷ 1 ∷ []) (0 ∷ 0 ∷ []) (1 ∷ 0 ∷ 0 ∷ 9 ∷ []) (9 ∷ []);
    }
    ∷ record {
      bytes = marked;
      entry = nines 3 32 3 4 3;
      says = given 4 3 1 1;
      exit =
          five (1 ∷ 2 ∷ 1 ∷ [])
          (0 ∷ 2 ∷ 0 ∷ 0 ∷ 1 ∷ 0 ∷ 0 ∷ 1 ∷ 1 ∷ 4 ∷ 2 ∷ 0 ∷ 0 ∷ 0 ∷ 0 ∷ 0 ∷ 2 ∷ 4 ∷ 2 ∷ 0 ∷ 0 ∷ 0 ∷ 0 ∷ 0 ∷ 1 ∷ 3 ∷ 2 ∷ 0 ∷ 1 ∷ 1 ∷ 0 ∷ 2 ∷ [])
          (0 ∷ 0 ∷ 7 ∷ []) (3 ∷ 0 ∷ 0 ∷ 9 ∷ []) (1 ∷ 2 ∷ 9 ∷ []);
    }
    -- each buffer a byte too short, the first named; two too short; the reader's refusal comes before
    ∷ kept marked (nines 2 32 3 3 2) 15 0
    ∷ kept marked (nines 3 31 3 3 2) 15 1
    ∷ kept marked (nines 3 32 2 3 2) 15 2
    ∷ kept marked (nines 3 32 3 2 2) 15 3
    ∷ kept marked (nines 3 32 3 3 1) 15 4
    ∷ kept marked (nines 3 32 2 3 0) 15 2
    ∷ kept (take 24 example) (nines 0 0 0 0 0) 11 15
    ∷ []

abbrev pub Right : Type 0
Right =
    ◌≡◌ {A = List (Lent × Slices)} (each (λ (e : Example). (lent_by (parse e.bytes) e.entry, held_by (parse e.bytes) e.entry)) examples)
    (each (λ (e : Example). (e.says, e.exit)) examples)

-- The count of events that are not inits, raised (02 §6): what it does to the answers of before. Proved: proofs/RaisedLaws.antt.
--     room_up_to, fields_up_to, parse_up_to     `room_for`, `fields_from` and `parse`, word for word, with the count as a parameter
--     AtTheLimit                          with 18 it is `parse`
--     OneTooMany s a                      a is 9, at an event of s that is no init
--     RaisedKeeps                         where the count is raised every answer stays, but for those
--     FromSixteen                         02 §6: what the reader of before, with 16, read or refused is read or refused as it was, but for those
--     with_sixteen, RightWithSixteen       sheets that the reader with 16 is run on, and what it says; computed in proofs/Examples.antt
-- Assumes nothing.
use Rattle.std.specs.Prelude.{◌≡◌, ◌⊎◌, Bool, true, false, cond, List, [], ◌∷◌, ◌++◌, ℕ, zero, suc, ◌≤◌, eqb, ltb, length}
use Rattle.basis.specs.Test.{each}
use Rattle.format.specs.Limits.{max_bytes, max_inits}
use Rattle.format.specs.Event.{Event}
use Rattle.format.specs.Execution.{Execution, inits, others}
use Rattle.format.specs.Field.{tag_at, next_at, value_at}
use Rattle.format.specs.Layout.{agent_of}
use Rattle.parse.specs.Parse.{Parsed, refused, whole, State, place_of, blank, fault_by, after, finish, parse}
use Rattle.parse.specs.Examples.{Example, of, head, marker, eight, example, says}

-- 01: "At most 4." (inits); at most m together (others)
unfoldable pub room_up_to : ℕ → List Event → ℕ → Bool
room_up_to m events agent = cond (eqb agent 0) (ltb (inits events) max_inits) (ltb (others events) m)

unfoldable pub fields_up_to : ℕ → List ℕ → ℕ → ℕ → State → Parsed
fields_up_to m s zero p st = refused 0 0
fields_up_to m s (suc k) p st =
    elim (ltb p (length s)) [
      | false ↦ finish s st
      | true ↦ elim (fault_by (room_up_to m st.got.events) s p st) [
        | zero ↦ fields_up_to m s k (next_at s p) (after s p st)
        | suc n ↦ refused (suc n) (place_of (suc n) p)
      ]
    ]

unfoldable pub parse_up_to : ℕ → List ℕ → Parsed
parse_up_to m s = cond (ltb max_bytes (length s)) (refused 1 0) (fields_up_to m s (suc (length s)) 0 blank)

-- 02 §6: "Raise the count of events that are not inits from 16 to 18", the number written out
abbrev pub AtTheLimit : Type 0
AtTheLimit = (s : List ℕ) → parse_up_to 18 s ≡ parse s

-- 01: "9 .. 17th other event: its tag", whatever the count
pub record OneTooMany (s : List ℕ) (a : Parsed) : Type 0 where
  pub tag : ℕ
  pub says_nine : a ≡ refused 9 (place_of 9 tag)
  pub event : tag_at s tag ≡ 2
  pub no_init : agent_of (value_at s tag) ≡ 0 → ⊥

abbrev pub RaisedKeeps : Type 0
RaisedKeeps = (l m : ℕ) → l ≤ m → (s : List ℕ) → (parse_up_to l s ≡ parse_up_to m s) ⊎ OneTooMany s (parse_up_to l s)

pub record AsBefore (s : List ℕ) : Type 0 where
  pub read : (x : Execution) → parse_up_to 16 s ≡ whole x → parse s ≡ whole x
  pub refused_so : (n p : ℕ) → (n ≡ 9 → ⊥) → parse_up_to 16 s ≡ refused n p → parse s ≡ refused n p
  -- a fifth init, a 33rd pair
  pub nine_so : (p : ℕ) → (OneTooMany s (refused 9 p) → ⊥) → parse_up_to 16 s ≡ refused 9 p → parse s ≡ refused 9 p

abbrev pub FromSixteen : Type 0
FromSixteen = (s : List ℕ) → AsBefore s

-- 01's example; 16 other events, and 01's "17th other event"
unfoldable pub with_sixteen : List Example
with_sixteen =
    of example (says 1 1)
    ∷ of (head 1 1 ++ eight 1 ++ eight 1) (refused 10 134)
    ∷ of (head 1 1 ++ eight 1 ++ eight 1 ++ marker 1) (refused 9 134)
    ∷ []

abbrev pub RightWithSixteen : Type 0
RightWithSixteen = each (λ (e : Example). parse_up_to 16 e.bytes) with_sixteen ≡ each (λ (e : Example). e.says) with_sixteen

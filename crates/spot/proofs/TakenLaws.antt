-- A field without a fault: what its value says is what the sheet's bytes from its place on say. Assumes nothing.
--     value_event, value_row, value_pair     of an event, a row, a pair
use Prim.Native.Nat.{ℕ, ◌+◌}
use mathlib.Core.Path.{◌≡◌, ap}
use mathlib.Core.List.{List}
use native.Mathlib.Omega.{arith}
use lib.ListN.{length}
use Rattle.format.specs.Field.{tag_at, length_at, value_at, rest_at}
use Rattle.format.specs.Layout.{event_bytes, data_bytes, shape_of, event_of, row_of, pair_of}
use Rattle.format.proofs.LayoutLaws.{shape_front, event_front, row_front, pair_front}
use Rattle.parse.specs.Parse.{State, fault_at}
use Rattle.parse.proofs.ParseLaws.{event_passed, value_length, event_clean, row_length, pair_length}
use Rattle.entries.specs.Entries.{event_at, row_at, pair_at}

module _ (s : List ℕ) (p : ℕ) (st : State) (f : fault_at s p st ≡ 0) where
  abbrev ed : ℕ
  ed = st.got.head.edition

  pub value_event : tag_at s p ≡ 2 → event_of ed (value_at s p) ≡ event_at s ed p
  unfolding value_at
  value_event e =
      let l : length (value_at s p) ≡ event_bytes ed + data_bytes (shape_of ed (value_at s p)) = (event_passed st.got.head st.got.events (value_at s p) (event_clean s p st f e)).length in
      let n : length (value_at s p) ≡ length_at s p = value_length s p st f in
      let d : data_bytes (shape_of ed (value_at s p)) ≡ data_bytes (shape_of ed (rest_at s p)) = ap data_bytes (shape_front ed (rest_at s p) (length_at s p) (omega arith)) in
      event_front ed (rest_at s p) (length_at s p) (omega arith)

  pub value_row : tag_at s p ≡ 3 → row_of ed (value_at s p) ≡ row_at s ed p
  unfolding value_at
  value_row e = let l = row_length s p st f e in row_front ed (rest_at s p) (length_at s p) (omega arith)

  pub value_pair : tag_at s p ≡ 4 → pair_of (value_at s p) ≡ pair_at s p
  unfolding value_at
  value_pair e = let l = pair_length s p st f e in pair_front ed (rest_at s p) (length_at s p) (omega arith)

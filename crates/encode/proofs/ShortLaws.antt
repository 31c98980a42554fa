-- The sheet of a well-formed execution is never too long: 01's other limits leave it below 4,096 bytes, so refusal 1 meets only what is not well formed.
-- Assumes nothing.
--     run_short                     the bytes of a list of fields, each at most so long
--     short_sheet : WellFormed x → length (encode (table_of x)) ≤ max_bytes
--     well_written : WellFormed x → parse (encode (table_of x)) ≡ whole x
use mathlib.Core.Path.{◌≡◌, refl, sym, ap, subst}
use mathlib.Core.Bool.{Bool, true, false, cond}
use mathlib.Core.List.{List, [], ◌∷◌, ◌++◌}
use Prim.Native.Nat.{ℕ, suc, ◌+◌, ◌*◌, ◌<◌, ◌≤◌}
use native.Mathlib.Omega.{arith}
use native.Mathlib.Nat.{suc-mul}
use lib.Dec.{eqb}
use lib.ListN.{length, get_or, length-append}
use Rattle.basis.specs.Test.{each}
use Rattle.basis.proofs.BoolLaws.{true_T, or_second}
use Rattle.format.specs.Limits.{max_bytes}
use Rattle.format.specs.Shape.{reads}
use Rattle.format.specs.Event.{Event, nobody}
use Rattle.format.specs.Execution.{Execution, event_no, event, blank_row, no_pair}
use Rattle.format.specs.Layout.{event_bytes, data_bytes}
use Rattle.format.proofs.LayoutLaws.{event_high}
use Rattle.parse.specs.Parse.{whole, parse}
use Rattle.parse.specs.Promise.{WellEvent, WellFormed}
use Rattle.parse.proofs.CountLaws.{reads_narrow, rows_few, events_few}
use Rattle.encode.specs.Table.{describe, table_of}
use Rattle.encode.specs.Encode.{field, head_value, event_value, row_value, pair_value, run, encode}
use Rattle.encode.proofs.EncodeLaws.{run_each, length_field, sheet_split}
use Rattle.encode.proofs.WellEventLaws.{plain_long}
use Rattle.encode.proofs.WellWritten.{written_within}

module _ {A : Type 0} (d : A) (tag : ℕ) (value : A → List ℕ) (most : ℕ) where
  run_short : (l : List A) → ((i : ℕ) → i < length l → 3 + length (value (get_or l i d)) ≤ most) → length (run tag value l) ≤ length l * most
  unfolding run
  run_short [] h = omega arith
  run_short (a ∷ l) h =
      let z = h 0 (omega arith) in
      let i = run_short l (λ j b. h (suc j) (omega arith)) in
      let f = length_field tag (value a) in
      let e = length-append (field tag (value a)) (run tag value l) in
      let m = suc-mul (length l) most in
      omega arith

module _ (x : Execution) (w : WellFormed x) where
  abbrev edition : ℕ
  edition = x.head.edition

  -- 64 bytes of data, at most: what has twice its width reads, and is at most eight wide
  event_short : (e : ℕ) → e < length x.events → 3 + length (event_value edition (describe (get_or x.events e nobody))) ≤ 73
  unfolding event event_no data_bytes reads
  event_short e b = go (eqb v.access.shape.kind 3) refl (plain_long x.head (event x e) v)
    where
      v : WellEvent x.head (event x e)
      v = w.events e b

      go : (c : Bool) → eqb v.access.shape.kind 3 ≡ c
          → length (event_value edition (describe (event x e))) ≡ event_bytes edition + cond c (v.access.shape.width + v.access.shape.width) v.access.shape.width
          → 3 + length (event_value edition (describe (event x e))) ≤ 73
      go true p l = let n = reads_narrow x.head (event x e) v (true_T _ (or_second _ _ p)) in let u = event_high edition in omega arith
      go false p l = let i = v.inside in let s = w.size.1 in let u = event_high edition in omega arith

  pub short_sheet : length (encode (table_of x)) ≤ max_bytes
  unfolding table_of
  short_sheet =
      let s = ap length (sheet_split (table_of x)) in
      let a : length (run 2 (event_value edition) (each describe x.events)) ≤ length x.events * 73 =
      subst (λ (l : List ℕ). length l ≤ length x.events * 73) (sym (run_each 2 describe (event_value edition) x.events))
      (run_short nobody 2 (λ (d : Event). event_value edition (describe d)) 73 x.events event_short) in
      let b : length (run 3 (row_value edition) x.rows) ≤ length x.rows * 6 = run_short blank_row 3 (row_value edition) 6 x.rows (λ i h. omega arith) in
      let c : length (run 4 pair_value x.pairs) ≤ length x.pairs * 5 = run_short no_pair 4 pair_value 5 x.pairs (λ i h. omega arith) in
      let h = length_field 1 (head_value x.head) in
      let p = length-append (field 1 (head_value x.head)) (run 2 (event_value edition) (each describe x.events) ++ (run 3 (row_value edition) x.rows ++ run 4 pair_value x.pairs)) in
      let q = length-append (run 2 (event_value edition) (each describe x.events)) (run 3 (row_value edition) x.rows ++ run 4 pair_value x.pairs) in
      let r = length-append (run 3 (row_value edition) x.rows) (run 4 pair_value x.pairs) in
      let e = events_few x w in
      let f = rows_few x w in
      let g = w.pairs_few in
      omega arith

  pub well_written : parse (encode (table_of x)) ≡ whole x
  well_written = written_within x w short_sheet

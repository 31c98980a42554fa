-- The numbers of a table that was lent fit their parts of the word: its sheet, which its bytes are (`written_back`), is not longer than 4,096 bytes, and
-- there are few events and pairs. Assumes nothing.
--     few_counts     the numbers of a whole sheet's table
--     word_parts     the parts of the word of such numbers
use mathlib.Core.Path.{◌≡◌, refl, sym, ap, ◌∙◌}
use mathlib.Core.List.{List, [], ◌∷◌, ◌++◌}
use Prim.Native.Nat.{ℕ, ◌+◌, ◌*◌, ◌^◌, ◌<◌, ◌≤◌}
use native.Mathlib.Omega.{arith}
use lib.ListN.{length, length-append}
use Rattle.basis.proofs.LoopLaws.{number_both}
use Rattle.format.specs.Event.{is_init}
use Rattle.format.specs.Execution.{Execution, inits, others}
use Rattle.parse.specs.Parse.{whole, parse}
use Rattle.parse.proofs.PromiseLaws.{promise}
use Rattle.parse.proofs.FramedLaws.{accepted_framed}
use Rattle.encode.specs.Table.{Table, table_of}
use Rattle.encode.specs.Encode.{field, head_value, event_value, row_value, pair_value, run}
use Rattle.encode.specs.Lend.{data_of, flat, slices_of}
use Rattle.encode.proofs.EncodeLaws.{length_field, said_long, sheet_split}
use Rattle.encode.proofs.WrittenBack.{written_back}
use Rattle.lend.specs.Lending.{given}
use Rattle.lend.specs.Word.{lent_word}
use Rattle.lend.specs.Demands.{WordOf}

-- ---- the bytes of a sheet

-- a field for each entry is not shorter than what the entries have
module _ {A : Type 0} (tag : ℕ) (value : A → List ℕ) (part : A → List ℕ) (gap : ℕ) (wide : (a : A) → length (part a) + gap ≤ 3 + length (value a)) where
  run_long : (l : List A) → length (flat part l) + length l * gap ≤ length (run tag value l)
  unfolding run flat
  run_long [] = omega arith
  run_long (a ∷ l) =
      let i = run_long l in
      let f = length-append (field tag (value a)) (run tag value l) in
      let g = length_field tag (value a) in
      let h = length-append (part a) (flat part l) in
      let w = wide a in
      omega arith

abbrev nothing_of : {A : Type 0} → A → List ℕ
nothing_of a = []

none_flat : {A : Type 0} (l : List A) → length (flat nothing_of l) ≡ 0
unfolding flat
none_flat [] = refl
none_flat (a ∷ l) = none_flat l

pub record FewCounts (x : Execution) : Type 0 where
  pub events : length x.events < 2 ^ 8
  pub bytes : length (slices_of (table_of x)).bytes < 2 ^ 12
  pub rows : length x.rows < 2 ^ 12
  pub pairs : length x.pairs < 2 ^ 8

module _ (s : List ℕ) (x : Execution) (w : parse s ≡ whole x) where
  abbrev t : Table
  t = table_of x

  parts_long : length s ≡ length (field 1 (head_value t.head)) + (length (run 2 (event_value t.head.edition) t.events) + (length (run 3 (row_value t.head.edition) t.rows) + length (run 4 pair_value t.pairs)))
  parts_long =
      ap length (sym (written_back s x w) ∙ sheet_split t)
      ∙ (let a = length-append (field 1 (head_value t.head)) (run 2 (event_value t.head.edition) t.events ++ (run 3 (row_value t.head.edition) t.rows ++ run 4 pair_value t.pairs)) in
      let b = length-append (run 2 (event_value t.head.edition) t.events) (run 3 (row_value t.head.edition) t.rows ++ run 4 pair_value t.pairs) in
      let c = length-append (run 3 (row_value t.head.edition) t.rows) (run 4 pair_value t.pairs) in
      omega arith)

  pub few_counts : FewCounts x
  unfolding table_of inits others
  few_counts =
      let p = promise s x w in
      let i = p.inits_few in
      let o = p.others_few in
      let n = number_both is_init x.events in
      let l = (accepted_framed s x w).0 in
      let q = parts_long in
      let h = length_field 1 (head_value t.head) in
      let e = run_long 2 (event_value t.head.edition) data_of 0 (λ d. (let m = said_long t.head.edition d in omega arith)) t.events in
      let r = run_long 3 (row_value t.head.edition) nothing_of 3 (λ d. omega arith) t.rows in
      let z = none_flat t.rows in
      record { events = omega arith; bytes = omega arith; rows = omega arith; pairs = let k = p.pairs_few in omega arith }

-- ---- the word

pub word_parts : (e d r p : ℕ) → e < 2 ^ 8 → d < 2 ^ 12 → r < 2 ^ 12 → p < 2 ^ 8 → WordOf (lent_word (given e d r p)) e d r p
word_parts e d r p a b c f = record { kind = omega arith; events = omega arith; pairs = omega arith; rows = omega arith; bytes = omega arith }

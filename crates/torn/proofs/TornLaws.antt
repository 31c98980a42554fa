-- The laws of specs/Torn.antt, as the loops and returns use them. Assumes nothing.
--     torn_is, torn_no                                  what a turn of the last loop finds
--     row_gains, row_keeps, sources_none, sources_more, sources_length     the sources, row by row
--     bit_joined, slot_bound, row_set, sources_next                 the same as the code writes them
--     named_here, none_here                             which is named
use Rattle.std.proofs.Common.{◌≡◌, ℕ, zero, suc, ◌+◌, ◌*◌, ◌/◌, ◌%◌, ◌^◌, ◌<◌, Bool, true, false, cond, List, length, get_or, set, sym, refl, ap, ◌∙◌, mod-eq_of_lt, zero-mul, arith, le-ltb, lt-ltb}
use lib.Bits.{bit_or, or_zero_r}
use lib.Seq.{set-get_or}
use Rattle.basis.proofs.BoolLaws.{by_bool}
use Rattle.format.specs.declared.Row.{Row}
use Rattle.answer.specs.declared.Names.TheVariants.{Torn}
use Rattle.answer.specs.Rules.{unbreached, breach}
use Rattle.answer.proofs.RulesLaws.{named_yes, named_no}
use Rattle.sets.specs.Mask.{slots, insert}
use Rattle.sets.proofs.MaskLaws.{one_shl, or_one}
use Rattle.cells.specs.Walk.{up_to}
use Rattle.cells.specs.Cells.{gaining}
use Rattle.std.specs.Prelude.{Option, Some, None}
use Rattle.cells.specs.First.{first_of, first_some}
use Rattle.cells.proofs.FirstLaws.{some_is, none_is, first_found, first_past}
use Rattle.cells.proofs.WalkLaws.{up_to_more}
use Rattle.cells.proofs.CellsLaws.{gaining_length}
use Rattle.tables.specs.Tables.{accesses, slot_in, row_in}
use Rattle.tables.proofs.TablesLaws.{slot_lt}
use Rattle.torn.specs.Torn.{untorn_in, source_gains, sources_in, two_sources_in, pairs, torn_in, named_in}

module _ (s : List ℕ) (e : ℕ) (h : e < slots) (r : Option ℕ) (is : r ≡ first_some (two_sources_in s (e % slots)) pairs) where
  same_pair : r ≡ first_some (two_sources_in s e) pairs
  same_pair = is ∙ ap (λ (x : ℕ). first_some (two_sources_in s x) pairs) (mod-eq_of_lt h)

  pub torn_is : (p : ℕ) → r ≡ Some p → (p ≡ first_of (two_sources_in s e) pairs) × (p < pairs)
  torn_is p l = some_is (two_sources_in s e) pairs r p same_pair l

  pub torn_no : r ≡ None → torn_in s e ≡ false
  unfolding torn_in
  torn_no l = le-ltb (first_of (two_sources_in s e) pairs) pairs (none_is (two_sources_in s e) pairs r same_pair l)

-- ---- the sources, row by row

-- a bit put in by a shift, where a test passed
pub bit_joined : (m e : ℕ) → e < slots → (b : Bool) → bit_or m ((cond b 1 0 * 2 ^ e) % 2 ^ slots) ≡ cond b (insert m e) m
bit_joined m e h true = ap (bit_or m) (one_shl slots e h) ∙ or_one m e
bit_joined m e h false = ap (λ (x : ℕ). bit_or m (x % 2 ^ slots)) (zero-mul (2 ^ e)) ∙ or_zero_r m

pub slot_bound : (t : List ℕ) (e a k : ℕ) → k ≡ slot_in t (e % slots) a → k < accesses
slot_bound t e a k is = let z = slot_lt t (e % slots) a (omega arith) in omega arith

module _ (t : List ℕ) (r : Row) (l : List ℕ) where
  pub row_gains : untorn_in t r ≡ true → source_gains t r l ≡ gaining l (slot_in t (r.reader % slots) r.address) (r.writer % slots)
  unfolding source_gains
  row_gains h = ap (λ (b : Bool). cond b (gaining l (slot_in t (r.reader % slots) r.address) (r.writer % slots)) l) h

  pub row_keeps : untorn_in t r ≡ false → source_gains t r l ≡ l
  unfolding source_gains
  row_keeps h = ap (λ (b : Bool). cond b (gaining l (slot_in t (r.reader % slots) r.address) (r.writer % slots)) l) h

  pub row_length : length (source_gains t r l) ≡ length l
  row_length =
      by_bool (untorn_in t r) (λ h. ap length (row_gains h) ∙ gaining_length l (slot_in t (r.reader % slots) r.address) (r.writer % slots)) (λ h. ap length (row_keeps h))

  -- what the code writes: the mask of the reader's access, with the writer where the row is untorn, else as it was
  pub row_set : (k x : ℕ) (b : Bool) → k ≡ slot_in t (r.reader % slots) r.address → b ≡ untorn_in t r → x ≡ cond b (insert (get_or l k 0) (r.writer % slots)) (get_or l k 0)
      → set l k x ≡ source_gains t r l
  unfolding source_gains gaining
  row_set k x b at is e =
      ap (set l k) e ∙ choose b ∙ ap (λ (i : ℕ). cond b (set l i (insert (get_or l i 0) (r.writer % slots))) l) at
      ∙ ap (λ (c : Bool). cond c (set l (slot_in t (r.reader % slots) r.address) (insert (get_or l (slot_in t (r.reader % slots) r.address) 0) (r.writer % slots))) l) is
    where
      choose : (c : Bool) → set l k (cond c (insert (get_or l k 0) (r.writer % slots)) (get_or l k 0)) ≡ cond c (set l k (insert (get_or l k 0) (r.writer % slots))) l
      choose true = refl
      choose false = set-get_or l k 0

module _ (t q : List ℕ) (l : List ℕ) where
  pub sources_none : l ≡ sources_in t q 0 l
  unfolding sources_in up_to
  sources_none = refl

  pub sources_length : (j : ℕ) → length (sources_in t q j l) ≡ length l
  unfolding sources_in up_to
  sources_length zero = refl
  sources_length (suc j) = row_length t (row_in q j) (sources_in t q j l) ∙ sources_length j

  pub sources_more : (j : ℕ) → source_gains t (row_in q j) (sources_in t q j l) ≡ sources_in t q (j + 1) l
  unfolding sources_in
  sources_more j = sym (up_to_more (λ (i : ℕ). source_gains t (row_in q i)) j l)

  -- a turn of the loop over the rows
  pub sources_next : (j : ℕ) (r : Row) (old new : List ℕ) → r ≡ row_in q j → old ≡ sources_in t q j l → new ≡ source_gains t r old → new ≡ sources_in t q (j + 1) l
  sources_next j r old new row is next = next ∙ ap (λ (x : Row). source_gains t x old) row ∙ ap (source_gains t (row_in q j)) is ∙ sources_more j

-- ---- which is named

pub named_here : (s : List ℕ) (n e p : ℕ) → e < n → ((d : ℕ) → d < e → torn_in s d ≡ false) → (p ≡ first_of (two_sources_in s e) pairs) × (p < pairs)
    → breach 25 (Torn e (p / slots) (p % slots)) ≡ named_in s n
unfolding named_in torn_in
named_here s n e p h before is =
    let yes : torn_in s e ≡ true = let q = is.0 in let l = is.1 in lt-ltb (first_of (two_sources_in s e) pairs) pairs (omega arith) in
    let f : e ≡ first_of (torn_in s) n = first_found (torn_in s) n e h before yes in
    ap (λ (x : ℕ). breach 25 (Torn e (x / slots) (x % slots))) is.0
    ∙ ap (λ (x : ℕ). breach 25 (Torn x (first_of (two_sources_in s x) pairs / slots) (first_of (two_sources_in s x) pairs % slots))) f
    ∙ named_yes (first_of (torn_in s) n) n _ (omega arith)

pub none_here : (s : List ℕ) (n : ℕ) → ((d : ℕ) → d < n → torn_in s d ≡ false) → unbreached ≡ named_in s n
unfolding named_in
none_here s n before = let f = first_past (torn_in s) n n (omega arith) before in named_no (first_of (torn_in s) n) n _ (omega arith)

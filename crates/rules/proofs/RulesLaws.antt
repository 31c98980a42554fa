-- The laws of specs/Rules.antt, as the loops and returns use them. Assumes nothing.
--     unlike_yes, unlike_no, turned_is, over_is, over_no     what a turn of a loop tests
--     rule21_yes, rule21_no, .. rule24_yes, rule24_no         which is named
use mathlib.Core.Path.{◌≡◌, sym, ap, ◌∙◌}
use mathlib.Core.Bool.{true, false}
use mathlib.Core.List.{List}
use Prim.Native.Nat.{ℕ, ◌%◌, ◌≤◌, ◌<◌}
use native.Mathlib.Nat.{mod-eq_of_lt}
use native.Mathlib.Omega.{arith}
use borrow.Author.Tests.{eq-eqb, ne_eqb, lt-ltb, le-ltb}
use lib.ListN.{get_or}
use Rattle.basis.specs.Test.{non}
use Rattle.format.specs.declared.Row.{Row}
use Rattle.answer.specs.declared.Names.TheVariants.{Row as OfRow, Event as OfEvent, Between}
use Rattle.answer.specs.Rules.{unbreached, breach}
use Rattle.answer.proofs.RulesLaws.{named_yes, named_no}
use Rattle.sets.specs.Mask.{slots, mem}
use Rattle.std.specs.Prelude.{Option, Some, None}
use Rattle.cells.specs.First.{first_of, first_some}
use Rattle.cells.proofs.FirstLaws.{first_found, first_past, some_is, none_is}
use Rattle.tables.specs.Tables.{row_room, row_in, seen_in, wrote_in}
use Rattle.tables.proofs.TablesLaws.{reader_slot, writer_slot, row_at_lem}
use Rattle.rules.specs.Rules.{unlike_in, cyclic_in, turned_in, rule21_in, rule22_in, rule23_in, rule24_in, between_in, over_in}

module _ (q : List ℕ) (j a b : ℕ) (h : j < row_room) (p : a ≡ seen_in q (j % row_room)) (r : b ≡ wrote_in q (j % row_room)) where
  pub unlike_yes : (a ≡ b → ⊥) → unlike_in q j ≡ true
  unfolding unlike_in non
  unlike_yes n =
      let i = mod-eq_of_lt h in
      ap non (ne_eqb (seen_in q j) (wrote_in q j) (λ e. n (p ∙ ap (seen_in q) i ∙ e ∙ sym (r ∙ ap (wrote_in q) i))))

  pub unlike_no : a ≡ b → unlike_in q j ≡ false
  unfolding unlike_in non
  unlike_no e = let i = mod-eq_of_lt h in ap non (eq-eqb (seen_in q j) (wrote_in q j) (sym (p ∙ ap (seen_in q) i) ∙ e ∙ r ∙ ap (wrote_in q) i))

module _ (q : List ℕ) (j : ℕ) (h : j < row_room) (r : Row) (p : r ≡ row_in q (j % row_room)) where
  pub turned_is : (succ : List ℕ) → mem (get_or succ (r.reader % slots) 0) (r.writer % slots) ≡ turned_in q succ j
  unfolding turned_in
  turned_is succ =
      ap (λ (x : Row). mem (get_or succ (x.reader % slots) 0) (x.writer % slots)) (row_at_lem q j h r p)
      ∙ ap (λ (x : ℕ). mem (get_or succ x 0) ((row_in q j).writer % slots)) (mod-eq_of_lt (reader_slot q j))
      ∙ ap (mem (get_or succ (row_in q j).reader 0)) (mod-eq_of_lt (writer_slot q j))

  module _ (t succ pred : List ℕ) (o : Option ℕ) (e : o ≡ first_some (between_in t succ pred r) slots) where
    at_row : o ≡ first_some (between_in t succ pred (row_in q j)) slots
    at_row = e ∙ ap (λ (x : Row). first_some (between_in t succ pred x) slots) (row_at_lem q j h r p)

    pub over_is : (v : ℕ) → o ≡ Some v → (v ≡ first_of (between_in t succ pred (row_in q j)) slots) × (v < slots)
    over_is v l = some_is (between_in t succ pred (row_in q j)) slots o v at_row l

    pub over_no : o ≡ None → over_in t q succ pred j ≡ false
    unfolding over_in
    over_no l = le-ltb (first_of (between_in t succ pred (row_in q j)) slots) slots (none_is (between_in t succ pred (row_in q j)) slots o at_row l)

-- ---- which is named

module _ (q : List ℕ) (n j : ℕ) (room : n ≤ row_room) (r : Row) (row : r ≡ row_in q (j % row_room)) where
  at_first : (k : ℕ) → j ≡ k → j < n → r ≡ row_in q k
  at_first k e h = row_at_lem q j (omega arith) r row ∙ ap (row_in q) e

  pub rule21_yes : (o : Option ℕ) → o ≡ first_some (unlike_in q) n → o ≡ Some j → breach 21 (OfRow r.reader r.writer r.address) ≡ rule21_in q n
  unfolding rule21_in
  rule21_yes o f g =
      let k = some_is (unlike_in q) n o j f g in
      ap (λ (x : Row). breach 21 (OfRow x.reader x.writer x.address)) (at_first (first_of (unlike_in q) n) k.0 k.1)
      ∙ named_yes (first_of (unlike_in q) n) n _ (omega arith)

  pub rule23_yes : (succ : List ℕ) (o : Option ℕ) → o ≡ first_some (turned_in q succ) n → o ≡ Some j → breach 23 (OfRow r.reader r.writer r.address) ≡ rule23_in q n succ
  unfolding rule23_in
  rule23_yes succ o f g =
      let k = some_is (turned_in q succ) n o j f g in
      ap (λ (x : Row). breach 23 (OfRow x.reader x.writer x.address)) (at_first (first_of (turned_in q succ) n) k.0 k.1)
      ∙ named_yes (first_of (turned_in q succ) n) n _ (omega arith)

  pub rule24_yes : (t succ pred : List ℕ) (v : ℕ) → j < n → ((d : ℕ) → d < j → over_in t q succ pred d ≡ false) → (v ≡ first_of (between_in t succ pred (row_in q j)) slots) × (v < slots)
      → breach 24 (Between r.reader r.writer v r.address) ≡ rule24_in t q n succ pred
  unfolding rule24_in over_in
  rule24_yes t succ pred v h before f =
      let yes : over_in t q succ pred j ≡ true = let a = f.0 in let b = f.1 in lt-ltb (first_of (between_in t succ pred (row_in q j)) slots) slots (omega arith) in
      let e : j ≡ first_of (over_in t q succ pred) n = first_found (over_in t q succ pred) n j h before yes in
      ap (λ (x : ℕ). breach 24 (Between r.reader r.writer x r.address)) f.0
      ∙ ap (λ (x : Row). breach 24 (Between x.reader x.writer (first_of (between_in t succ pred (row_in q j)) slots) x.address)) (row_at_lem q j (omega arith) r row)
      ∙ ap (λ (k : ℕ). breach 24 (Between (row_in q k).reader (row_in q k).writer (first_of (between_in t succ pred (row_in q k)) slots) (row_in q k).address)) e
      ∙ named_yes (first_of (over_in t q succ pred) n) n _ (omega arith)

module _ (n : ℕ) (o : Option ℕ) (l : o ≡ None) where
  pub rule21_no : (q : List ℕ) → o ≡ first_some (unlike_in q) n → unbreached ≡ rule21_in q n
  unfolding rule21_in
  rule21_no q e = named_no (first_of (unlike_in q) n) n _ (none_is (unlike_in q) n o e l)

  pub rule22_no : (succ : List ℕ) → o ≡ first_some (cyclic_in succ) n → unbreached ≡ rule22_in succ n
  unfolding rule22_in
  rule22_no succ e = named_no (first_of (cyclic_in succ) n) n _ (none_is (cyclic_in succ) n o e l)

  pub rule23_no : (q succ : List ℕ) → o ≡ first_some (turned_in q succ) n → unbreached ≡ rule23_in q n succ
  unfolding rule23_in
  rule23_no q succ e = named_no (first_of (turned_in q succ) n) n _ (none_is (turned_in q succ) n o e l)

pub rule24_no : (t q succ pred : List ℕ) (n : ℕ) → ((d : ℕ) → d < n → over_in t q succ pred d ≡ false) → unbreached ≡ rule24_in t q n succ pred
unfolding rule24_in
rule24_no t q succ pred n before = let e = first_past (over_in t q succ pred) n n (omega arith) before in named_no (first_of (over_in t q succ pred) n) n _ (omega arith)

pub rule22_yes : (succ : List ℕ) (n e : ℕ) (o : Option ℕ) → o ≡ first_some (cyclic_in succ) n → o ≡ Some e → breach 22 (OfEvent e) ≡ rule22_in succ n
unfolding rule22_in
rule22_yes succ n e o f g =
    let k = some_is (cyclic_in succ) n o e f g in
    ap (λ (x : ℕ). breach 22 (OfEvent x)) k.0 ∙ named_yes (first_of (cyclic_in succ) n) n _ (omega arith)

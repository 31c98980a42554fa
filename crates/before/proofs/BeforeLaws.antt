-- The laws of specs/Before.antt. Assumes nothing.
--     row_gains, row_keeps                       a row that makes a step, and one that makes none
--     rows_none, rows_more, rows_length, pairs_none, pairs_more, pairs_length, steps_length     a loop's turn, and lengths
--     turn_none, turn_more, turn_length, columns_mem     the columns
--     closed_steps_unique                             two conforming results are equal
use mathlib.Core.Path.{◌≡◌, refl, sym, ap, ◌∙◌}
use mathlib.Core.Bool.{Bool, true, false, cond}
use mathlib.Core.List.{List}
use Prim.Native.Nat.{ℕ, zero, suc, ◌+◌, ◌%◌}
use native.Mathlib.Omega.{arith}
use borrow.Author.Tests.{le-ltb}
use lib.Dec.{eqb, ltb}
use lib.ListN.{length, get_or}
use Rattle.basis.specs.Test.{◌and◌, ◌or◌}
use Rattle.basis.proofs.BoolLaws.{and_fails, or_none, and_assoc, or_assoc, below_next, by_bool}
use Rattle.format.specs.declared.Row.{Row}
use Rattle.sets.specs.Mask.{slots, mem}
use Rattle.closing.specs.Closure.{taken}
use Rattle.closing.proofs.ClosureLaws.{closed_unique}
use Rattle.cells.specs.Walk.{up_to}
use Rattle.cells.specs.Cells.{gaining, placing}
use Rattle.cells.proofs.WalkLaws.{up_to_more}
use Rattle.cells.proofs.CellsLaws.{gaining_length, scatter_length, scatter_mem, placing_length}
use Rattle.tables.specs.Tables.{row_in, pair_in}
use Rattle.own.specs.Own.{own_in}
use Rattle.before.specs.Before.{sync_in, sync_gains, row_steps_in, pair_gains, pair_steps_in, steps_in, turn_at, columns_in, ClosedSteps}

-- ---- rows

module _ (t : List ℕ) (r : Row) (l : List ℕ) where
  pub row_gains : sync_in t r ≡ true → sync_gains t r l ≡ gaining l (r.writer % slots) (r.reader % slots)
  unfolding sync_gains
  row_gains h = ap (λ (b : Bool). cond b (gaining l (r.writer % slots) (r.reader % slots)) l) h

  pub row_keeps : sync_in t r ≡ false → sync_gains t r l ≡ l
  unfolding sync_gains
  row_keeps h = ap (λ (b : Bool). cond b (gaining l (r.writer % slots) (r.reader % slots)) l) h

  pub row_length : length (sync_gains t r l) ≡ length l
  row_length =
      by_bool (sync_in t r) (λ h. ap length (row_gains h) ∙ gaining_length l (r.writer % slots) (r.reader % slots)) (λ h. ap length (row_keeps h))

module _ (t q l : List ℕ) where
  pub rows_none : l ≡ row_steps_in t q 0 l
  unfolding row_steps_in up_to
  rows_none = refl

  pub rows_more : (j : ℕ) → sync_gains t (row_in q j) (row_steps_in t q j l) ≡ row_steps_in t q (j + 1) l
  unfolding row_steps_in
  rows_more j = sym (up_to_more (λ (i : ℕ). sync_gains t (row_in q i)) j l)

  pub rows_length : (n : ℕ) → length (row_steps_in t q n l) ≡ length l
  unfolding row_steps_in up_to
  rows_length zero = refl
  rows_length (suc n) = row_length t (row_in q n) (up_to (λ (i : ℕ). sync_gains t (row_in q i)) n l) ∙ rows_length n

-- ---- pairs

module _ (p l : List ℕ) where
  pub pairs_none : l ≡ pair_steps_in p 0 l
  unfolding pair_steps_in up_to
  pairs_none = refl

  pub pairs_more : (j : ℕ) → pair_gains (pair_in p j) (pair_steps_in p j l) ≡ pair_steps_in p (j + 1) l
  unfolding pair_steps_in
  pairs_more j = sym (up_to_more (λ (i : ℕ). pair_gains (pair_in p i)) j l)

  pub pairs_length : (n : ℕ) → length (pair_steps_in p n l) ≡ length l
  unfolding pair_steps_in up_to
  pairs_length zero = refl
  pairs_length (suc n) =
      gaining_length (up_to (λ (i : ℕ). pair_gains (pair_in p i)) n l) ((pair_in p n).first % slots) ((pair_in p n).second % slots) ∙ pairs_length n

-- ---- the whole

pub steps_length : (t : List ℕ) (n : ℕ) (q : List ℕ) (m : ℕ) (p : List ℕ) (k : ℕ) (l : List ℕ) → length (steps_in t n q m p k l) ≡ length l
unfolding steps_in
steps_length t n q m p k l =
    pairs_length p (row_steps_in t q m (placing (own_in t n) n l)) k ∙ rows_length t q (placing (own_in t n) n l) m ∙ placing_length (own_in t n) l n

-- ---- the columns

module _ (succ : List ℕ) (l : List ℕ) where
  pub turn_none : l ≡ up_to (turn_at succ) 0 l
  unfolding up_to
  turn_none = refl

  pub turn_more : (k : ℕ) → turn_at succ k (up_to (turn_at succ) k l) ≡ up_to (turn_at succ) (k + 1) l
  turn_more k = sym (up_to_more (turn_at succ) k l)

  pub turn_length : (k : ℕ) → length (up_to (turn_at succ) k l) ≡ length l
  unfolding up_to
  turn_length zero = refl
  turn_length (suc k) = scatter_length (get_or succ k 0) k (up_to (turn_at succ) k l) ∙ turn_length k

  pub columns_length : (n : ℕ) → length (columns_in succ n l) ≡ length l
  unfolding columns_in
  columns_length n = turn_length (taken n succ)

  turn_mem : length l ≡ slots → (k d e : ℕ) → mem (get_or (up_to (turn_at succ) k l) d 0) e ≡ (mem (get_or l d 0) e or (ltb e k and (ltb d slots and mem (get_or succ e 0) d)))
  unfolding up_to ◌or◌
  turn_mem long zero d e = sym (ap (λ (b : Bool). mem (get_or l d 0) e or b) (and_fails (ltb e 0) _ (le-ltb e 0 (omega arith))) ∙ or_none (mem (get_or l d 0) e))
  turn_mem long (suc k) d e =
      scatter_mem (get_or succ k 0) k (up_to (turn_at succ) k l) (let z = turn_length k in omega arith) d e
      ∙ ap (λ (b : Bool). b or (ltb d slots and (mem (get_or succ k 0) d and eqb k e))) (turn_mem long k d e)
      ∙ or_assoc (mem (get_or l d 0) e) (ltb e k and (ltb d slots and mem (get_or succ e 0) d)) (ltb d slots and (mem (get_or succ k 0) d and eqb k e))
      ∙ ap (λ (b : Bool). mem (get_or l d 0) e or ((ltb e k and (ltb d slots and mem (get_or succ e 0) d)) or b)) (sym (and_assoc (ltb d slots) (mem (get_or succ k 0) d) (eqb k e)))
      ∙ ap (λ (b : Bool). mem (get_or l d 0) e or b) (below_next (λ (i : ℕ). ltb d slots and mem (get_or succ i 0) d) k e)

  -- pred has exactly the columns of succ, besides what it had
  pub columns_mem : length l ≡ slots → (n d e : ℕ) → mem (get_or (columns_in succ n l) d 0) e ≡ (mem (get_or l d 0) e or (ltb e (taken n succ) and (ltb d slots and mem (get_or succ e 0) d)))
  unfolding columns_in
  columns_mem long n d e = turn_mem long (taken n succ) d e

-- ---- two conforming results

pub closed_steps_unique : (t : List ℕ) (n : ℕ) (q : List ℕ) (m : ℕ) (p : List ℕ) (k : ℕ) (succ pred a b c d : List ℕ) → ClosedSteps t n q m p k succ a pred b
    → ClosedSteps t n q m p k succ c pred d → (a ≡ c) × (b ≡ d)
closed_steps_unique t n q m p k succ pred a b c d o u =
    let e = closed_unique o.closed u.closed in (e, o.turned ∙ ap (λ (l : List ℕ). columns_in l n pred) e ∙ sym u.turned)

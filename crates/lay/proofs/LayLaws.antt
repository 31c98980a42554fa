-- The laws of specs/Lay.antt. Assumes nothing.
--     up_to_length .. pairs_length            a loop's turn, and lengths
use mathlib.Core.Path.{◌≡◌, refl, sym, ◌∙◌}
use mathlib.Core.List.{List}
use Prim.Native.Nat.{ℕ, zero, suc, ◌+◌}
use lib.ListN.{length, length-set}
use Rattle.entries.specs.declared.Counts.{Counts}
use Rattle.cells.specs.Walk.{up_to}
use Rattle.cells.proofs.WalkLaws.{up_to_more}
use Rattle.row_data.specs.RowData.{row_put}
use Rattle.row_data.proofs.RowDataLaws.{row_length}
use Rattle.lay.specs.Lay.{event_step, events_put, rows_put, pair_put, pairs_put}

-- a loop whose turns keep a table's length
module _ (f : ℕ → List ℕ → List ℕ) (size : (j : ℕ) (l : List ℕ) → length (f j l) ≡ length l) (l : List ℕ) where
  pub up_to_length : (n : ℕ) → length (up_to f n l) ≡ length l
  unfolding up_to
  up_to_length zero = refl
  up_to_length (suc n) = size n (up_to f n l) ∙ up_to_length n

pub event_length : (s : List ℕ) (edition : ℕ) (at : List ℕ) (e : ℕ) (l : List ℕ) → length (event_step s edition at e l) ≡ length l
event_length s edition at e l = simp length-set

pub pair_length : (s : List ℕ) (x : Counts) (j : ℕ) (l : List ℕ) → length (pair_put s x j l) ≡ length l
unfolding pair_put
pair_length s x j l = simp length-set

module _ (s : List ℕ) (edition : ℕ) (at l : List ℕ) where
  pub events_none : l ≡ events_put s edition at 0 l
  unfolding events_put up_to
  events_none = refl

  pub events_more : (e : ℕ) → event_step s edition at e (events_put s edition at e l) ≡ events_put s edition at (e + 1) l
  unfolding events_put
  events_more e = sym (up_to_more (event_step s edition at) e l)

  pub events_length : (n : ℕ) → length (events_put s edition at n l) ≡ length l
  unfolding events_put
  events_length n = up_to_length (event_step s edition at) (event_length s edition at) l n

module _ (s : List ℕ) (x : Counts) (at t l : List ℕ) where
  pub rows_none : l ≡ rows_put s x at t 0 l
  unfolding rows_put up_to
  rows_none = refl

  pub rows_more : (j : ℕ) → row_put s x at t j (rows_put s x at t j l) ≡ rows_put s x at t (j + 1) l
  unfolding rows_put
  rows_more j = sym (up_to_more (row_put s x at t) j l)

  pub rows_length : (n : ℕ) → length (rows_put s x at t n l) ≡ length l
  unfolding rows_put
  rows_length n = up_to_length (row_put s x at t) (row_length s x at t) l n

module _ (s : List ℕ) (x : Counts) (l : List ℕ) where
  pub pairs_none : l ≡ pairs_put s x 0 l
  unfolding pairs_put up_to
  pairs_none = refl

  pub pairs_more : (j : ℕ) → pair_put s x j (pairs_put s x j l) ≡ pairs_put s x (j + 1) l
  unfolding pairs_put
  pairs_more j = sym (up_to_more (pair_put s x) j l)

  pub pairs_length : (n : ℕ) → length (pairs_put s x n l) ≡ length l
  unfolding pairs_put
  pairs_length n = up_to_length (pair_put s x) (pair_length s x) l n

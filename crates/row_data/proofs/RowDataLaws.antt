-- The laws of specs/RowData.antt. Assumes nothing.
--     row_length     the table of rows keeps its length
use mathlib.Core.Path.{◌≡◌}
use mathlib.Core.List.{List}
use Prim.Native.Nat.{ℕ}
use lib.ListN.{length, length-set}
use Rattle.entries.specs.declared.Counts.{Counts}
use Rattle.row_data.specs.RowData.{row_put}

pub row_length : (s : List ℕ) (x : Counts) (at t : List ℕ) (j : ℕ) (l : List ℕ) → length (row_put s x at t j l) ≡ length l
unfolding row_put
row_length s x at t j l = simp length-set

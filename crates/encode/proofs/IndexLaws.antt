-- The laws of specs/Index.antt.
--     same_end, same_next           no field more, one field more
--     index_none, index_some        by the number
-- Assumes nothing.
use mathlib.Core.Path.{◌≡◌}
use mathlib.Core.Bool.{true, false, cond}
use mathlib.Core.List.{List}
use Prim.Native.Nat.{ℕ, suc, ◌+◌, ◌<◌, ◌≤◌}
use borrow.Author.Tests.{lt-ltb, le-ltb}
use lib.Dec.{eqb}
use Rattle.format.specs.Field.{tag_at, next_at}
use Rattle.encode.specs.Index.{same_from, no_entry, index_of}

module _ (s : List ℕ) (k q p : ℕ) where
  pub same_end : p ≤ q → same_from s (suc k) q p ≡ 0
  unfolding same_from
  same_end h = rw (le-ltb q p h, same_from)

  pub same_next : q < p → same_from s (suc k) q p ≡ cond (eqb (tag_at s q) (tag_at s p)) 1 0 + same_from s k (next_at s q) p
  unfolding same_from
  same_next h = rw (lt-ltb q p h, same_from)

-- by the number
pub index_none : (s : List ℕ) (n p : ℕ) → no_entry n ≡ true → 0 ≡ index_of s n p
unfolding index_of
index_none s n p h = rw h

pub index_some : (s : List ℕ) (n p : ℕ) → no_entry n ≡ false → same_from s (suc p) 0 p ≡ index_of s n p
unfolding index_of
index_some s n p h = rw h

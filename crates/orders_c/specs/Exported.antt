-- The count of reachable sets as one number. Assumes nothing.
--     number_of r      the number, and all bits for "over the limit"
--     Exported ..     the answer of `count_sets`, as that number
use Rattle.std.specs.Prelude.{Option, Some, None, ℕ, ◌≡◌, List}
use Rattle.reach.specs.Reachable.{Tallied}

abbrev pub number_of : Option ℕ → ℕ
number_of (Some c) = c
number_of None = 18446744073709551615

pub record Exported (k m : ℕ) (before bars scratch : List ℕ) (limit r : ℕ) (scratch' : List ℕ) : Type 0 where
  pub answer : Option ℕ
  pub is : Tallied k m before bars scratch limit answer scratch'
  pub number : r ≡ number_of answer

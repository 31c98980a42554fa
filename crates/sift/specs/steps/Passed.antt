-- The pass over the first m rows: what the private step promises. Assumes nothing.
--     Passed .. o ..     o is a count exactly where none of the rows is amiss; they are listed then, by any sets of equal ranges that agree with eq
use Rattle.std.specs.Prelude.{◌≡◌, List, ℕ, Option, Some, is_some}
use Rattle.sets.specs.Tells.{Tells}
use Rattle.torn.specs.steps.Noticed.{Among}
use Rattle.bars.specs.Listed.{Listed}
use Rattle.sift.specs.Clean.{AmissAt}
use Rattle.sift.specs.steps.Alikes.{Agrees}

pub record Passed (t eq : List ℕ) (far : ℕ) (l succ pred q : List ℕ) (k m : ℕ) (o : Option ℕ) (between readers writers : List ℕ) : Type 0 where
  pub is : Tells (is_some o) (Among m (AmissAt t succ pred far l q) → ⊥)
  pub listed : (count : ℕ) → o ≡ Some count → (eqs : List ℕ) → Agrees t eq eqs → Listed t eqs succ pred q k m count between readers writers

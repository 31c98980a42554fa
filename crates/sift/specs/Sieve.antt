-- What one pass over tables of n events and m rows finds. Laws: proofs/CleanLaws.antt.
--     Sieve .. o ..          o is a count exactly where the tables are clean, as Clean has it; no rule of 22 to 25 is broken then, and the list is that of
--                            crate bars. far and bytes tell who may write a byte
-- Assumes nothing.
use Rattle.std.specs.Prelude.{◌≡◌, true, List, ℕ, Option, Some, is_some}
use Rattle.answer.specs.Rules.{unbreached}
use Rattle.sets.specs.Tells.{Tells}
use Rattle.rules.specs.Rules.{rest_in}
use Rattle.alike.specs.Ranges.{equals_in}
use Rattle.bars.specs.Listed.{Listed}
use Rattle.sift.specs.Clean.{Telling, Clean}

pub record Sieve (t : List ℕ) (n : ℕ) (succ pred q : List ℕ) (k m : ℕ) (o : Option ℕ) (between readers writers : List ℕ) : Type 0 where
  pub far : ℕ
  pub bytes : List ℕ
  pub telling : Telling t n far bytes
  pub is : Tells (is_some o) (Clean t n succ pred far bytes q m)
  pub kept : is_some o ≡ true → rest_in t n succ pred q m ≡ unbreached
  pub listed : (count : ℕ) → o ≡ Some count → Listed t (equals_in t n) succ pred q k m count between readers writers

-- A flag that says whether something holds. Laws: proofs/TellsLaws.antt. Assumes nothing.
--     Tells r A    r is true where A holds, and false where it does not
use Rattle.std.specs.Prelude.{◌≡◌, Bool, true, false}

pub record Tells (r : Bool) (A : Type 0) : Type 0 where
  pub holds : r ≡ true → A
  pub fails : r ≡ false → A → ⊥

-- The first of the lists that pass. Laws: proofs/FirstLaws.antt. Assumes nothing.
--     Lex k l        k is l, or comes first of the two
--     FirstOf Q l    l is the first of the lists that are Q
use Rattle.std.specs.Prelude.{ℕ, ◌<◌, ◌≡◌, ◌⊎◌, List, [], ◌∷◌}

-- 01: "compared event number by event number"
abbrev pub Lex : List ℕ → List ℕ → Type 0
Lex [] l = Unit {0}
Lex (x ∷ k) [] = ⊥
Lex (x ∷ k) (y ∷ l) = (x < y) ⊎ ((x ≡ y) × Lex k l)

-- 01: "Of all such orders the first .. is reported."
pub record FirstOf (Q : List ℕ → Type 0) (l : List ℕ) : Type 0 where
  pub is : Q l
  pub least : (k : List ℕ) → Q k → Lex l k

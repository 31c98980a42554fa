-- A step through the members of a set, from the least up. Assumes nothing.
--     Taken s e t         of the set s the least member, e, was taken, and t is left
--     NextMember s r t    one step: the least member is taken, or s is empty and nothing comes
use Rattle.std.specs.Prelude.{◌≡◌, ℕ, ◌<◌, Option, MatchOption}
use Rattle.sets.specs.Mask.{slots, Has, Lowest, remove}

pub record Taken (s e t : ℕ) : Type 0 where
  pub some : s ≡ 0 → ⊥
  pub low : Lowest s e
  pub member : Has s e
  pub slot : e < slots
  pub rest : t ≡ remove s e

abbrev pub NextMember : ℕ → Option ℕ → ℕ → Type 0
NextMember s r t = MatchOption r ((s ≡ 0) × (t ≡ 0)) (λ (e : ℕ). Taken s e t)

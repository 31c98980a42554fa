-- A loop that looks at all and only notices, without a jump: what it finds is joined, and one test at the end tells whether there was any.
-- Beside private steps, `others` cites this file. Laws: proofs/NoticedLaws.antt. Assumes nothing.
--     Marks r A       the number r is not 0 where A holds, and 0 where it does not
--     Among n P       P holds of a number below n
use Rattle.std.specs.Prelude.{◌≡◌, ℕ, ◌<◌, ◌≢◌}

pub record Marks (r : ℕ) (A : Type 0) : Type 0 where
  pub none : r ≡ 0 → A → ⊥
  pub some : (r ≢ 0) → A

pub record Among (n : ℕ) (P : ℕ → Type 0) : Type 0 where
  pub at : ℕ
  pub inside : at < n
  pub holds : P at

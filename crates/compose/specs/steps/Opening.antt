-- The contract of a private step.
--     opening tag n     the bytes before a value of n bytes
-- Assumes nothing.
use Rattle.std.specs.Prelude.{List, [], ◌∷◌, ℕ, ◌/◌, ◌%◌}

abbrev pub opening : ℕ → ℕ → List ℕ
opening tag n = tag ∷ n / 256 % 256 ∷ n % 256 ∷ []

-- Rows of successors and their closure (01, "the transitive closure"; 02 §3, "a whole row of successors at once"): row e is the set of the
-- events that e leads to in one step. Laws: proofs/ClosureLaws.antt. Assumes nothing.
--     taken n rows            how many of n rows are worked on: those that are there, and at most a mask's bits
--     Reach n rows e d        d is reached from e by one or more steps, each but the last to a number below n
--     Square n rows           the first n rows have no member but the numbers below n: then Reach n is plain reachability
--     Closed n rows rows'     the first n rows of rows' are the closure of those of rows, and the others are as they were
use Rattle.std.specs.Prelude.{◌≡◌, List, ◌↔◌, ℕ, ◌^◌, ◌<◌, min, get_or, length, drop}
use Rattle.sets.specs.Mask.{slots, Has}

abbrev pub taken : ℕ → List ℕ → ℕ
taken n rows = min n (min slots (length rows))

pub data Reach (n : ℕ) (rows : List ℕ) : ℕ → ℕ → Type 0 where
  step : {e d : ℕ} → Has (get_or rows e 0) d → Reach n rows e d
  more : {e m d : ℕ} → Has (get_or rows e 0) m → m < n → Reach n rows m d → Reach n rows e d

abbrev pub Square : ℕ → List ℕ → Type 0
Square n rows = (e : ℕ) → e < n → get_or rows e 0 < 2 ^ n

pub record Closed (n : ℕ) (rows rows' : List ℕ) : Type 0 where
  pub size : length rows' ≡ length rows
  pub reach : (e : ℕ) → e < n → (d : ℕ) → Has (get_or rows' e 0) d ↔ Reach n rows e d
  pub rest : drop n rows' ≡ drop n rows

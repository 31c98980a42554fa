-- The placement problem: what has to come before what, and what may not come between. It knows nothing of sheets. Assumes nothing.
--     Problem    the number of events, what has to come before what, and the bars
use Rattle.std.specs.Prelude.{ℕ}

-- The events are the numbers below `events`.
-- `Before a b`: a has to come before b (01: a total order "contains happens-before").
-- `Bar r w v`: 02 §8, "A bar is a triple (R, W, V) .. from which 01's (a), (b) or (c) forbids W, V, R in that order."
pub record Problem : Type 1 where
  pub events : ℕ
  pub Before : ℕ → ℕ → Type 0
  pub Bar : ℕ → ℕ → ℕ → Type 0

-- What makes placing one event at a time, from the set of the inits, find the first of all total orders (READINGS: "The first one always
-- begins with all inits in number order .. That is a lemma to prove"). Laws: proofs/InitsLaws.antt. Assumes nothing.
--     Begins P k    the events below k may stand first, and everything that P names is an event
use Rattle.std.specs.Prelude.{ℕ, ◌<◌, ◌≤◌, ◌≡◌}
use Rattle.orders.specs.Problem.{Problem}

pub record Begins (P : Problem) (k : ℕ) : Type 0 where
  -- what is named is an event, and in a bar R is not V
  pub inits : k ≤ P.events
  pub before_event : (a b : ℕ) → P.Before a b → b < P.events
  pub bar_event : (r w v : ℕ) → P.Bar r w v → r < P.events
  pub bar_apart : (r w v : ℕ) → P.Bar r w v → r ≡ v → ⊥
  -- nothing has to come before an init
  pub first : (a b : ℕ) → b < k → P.Before a b → ⊥
  -- no bar has an init as V
  pub no_bar : (r w v : ℕ) → v < k → P.Bar r w v → ⊥
  -- a bar with an init as W has W before V
  pub early : (r w v : ℕ) → w < k → P.Bar r w v → P.Before w v

-- What the crate promises beyond its function's contract. proofs/Promises.antt proves each. Assumes nothing.
--     Strict c            happens-before is of the trial's events, and no event happens before itself: what 22, which is tested first, leaves
--     AcceptedIsMeets     accepted are the lists that meet the trial's problem, and no others
--     FaultMeans          what a named fault says of the list, in 02's words
use Rattle.std.specs.Prelude.{ℕ, ◌<◌, ◌≡◌, ◌↔◌, List, T}
use Rattle.orders.specs.Order.{Meets}
use Rattle.log_order.specs.declared.Fault.{Fault}
use Rattle.std.specs.Prelude.{Ok, Err}
use Rattle.log_order.specs.Listed.{Trial, list_fault, said_of}
use Rattle.log_order.specs.Trial.{problem_of}
use Rattle.log_order.specs.Means.{Means}

pub record Strict (c : Trial) : Type 0 where
  pub inside : (a b : ℕ) → T (c.before a b) → (a < c.events) × (b < c.events)
  pub apart : (a : ℕ) → T (c.before a a) → ⊥

-- 02 §5: "accept exactly when the list names every event once and the order meets the rules of 01"
abbrev pub AcceptedIsMeets : Type 0
AcceptedIsMeets = (c : Trial) → Strict c → (l : List ℕ) → (said_of (list_fault c l) ≡ (Ok tt)) ↔ Meets (problem_of c) l

-- 02 §5: "Otherwise give the first fault"
abbrev pub FaultMeans : Type 0
FaultMeans = (c : Trial) → Strict c → (l : List ℕ) (f : Fault) → said_of (list_fault c l) ≡ Err f → Means c l f

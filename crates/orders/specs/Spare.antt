-- Bars that never stop an event, and so may be left out. Laws: proofs/SameLaws.antt. Assumes nothing.
--     Spares P Q k    Q is P without some bars (R, W, V) in which V has to come before W anyway, and W is no init
--     Idles P Q k     the same, and bars are left out too in which R has to come before V
use Rattle.std.specs.Prelude.{ℕ, ◌≤◌, ◌≡◌, ◌⊎◌, ◌↔◌}
use Rattle.orders.specs.Problem.{Problem}

pub record Spares (P Q : Problem) (k : ℕ) : Type 0 where
  pub events : P.events ≡ Q.events
  pub before : (a b : ℕ) → P.Before a b ↔ Q.Before a b
  pub fewer : (r w v : ℕ) → Q.Bar r w v → P.Bar r w v
  pub settled : (r w v : ℕ) → P.Bar r w v → Q.Bar r w v ⊎ ((k ≤ w) × P.Before v w)

pub record Idles (P Q : Problem) (k : ℕ) : Type 0 where
  pub events : P.events ≡ Q.events
  pub before : (a b : ℕ) → P.Before a b ↔ Q.Before a b
  pub fewer : (r w v : ℕ) → Q.Bar r w v → P.Bar r w v
  pub settles : (r w v : ℕ) → P.Bar r w v → Q.Bar r w v ⊎ (P.Before r v ⊎ ((k ≤ w) × P.Before v w))

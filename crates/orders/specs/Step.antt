-- The same problem one event at a time, over the set of the events placed so far. A set is a predicate. Laws: proofs/StepLaws.antt.
-- Assumes nothing.
--     With S e       S with the event e
--     Below k        the set of the events below k: that of the inits
--     Ready P S e    e can be placed next, after the events of S
--     Runs P S l     the events of l can be placed in its order after those of S, and then all are placed
--     Dead P S       no list can
use Rattle.std.specs.Prelude.{ℕ, ◌<◌, ◌≡◌, ◌⊎◌, List, [], ◌∷◌}
use Rattle.orders.specs.Problem.{Problem}

abbrev pub With : (ℕ → Type 0) → ℕ → ℕ → Type 0
With S e d = (d ≡ e) ⊎ S d

abbrev pub Below : ℕ → ℕ → Type 0
Below k d = d < k

-- 02 §9: "placing events one at a time, each when all that happen before it are placed and it is not the V of a bar with W placed and R
-- not". The last is put positively, so that nothing has to be decided: of each bar with W placed, R is placed too.
pub record Ready (P : Problem) (S : ℕ → Type 0) (e : ℕ) : Type 0 where
  pub event : e < P.events
  pub fresh : S e → ⊥
  pub after : (a : ℕ) → P.Before a e → S a
  pub clear : (r w : ℕ) → P.Bar r w e → S w → S r

abbrev pub Runs : Problem → (ℕ → Type 0) → List ℕ → Type 0
Runs P S [] = (e : ℕ) → e < P.events → S e
Runs P S (e ∷ l) = Ready P S e × Runs P (With S e) l

abbrev pub Dead : Problem → (ℕ → Type 0) → Type 0
Dead P S = (l : List ℕ) → Runs P S l → ⊥

-- Total orders as lists of events, and which of them meet a problem. Laws: proofs/OrderLaws.antt. Assumes nothing.
--     In x l            x stands in the list l
--     Precedes a b l    a stands in l, and b after it
--     Distinct l        no number stands twice in l
--     Meets P l         l is a total order of the events that meets the problem P
use Rattle.std.specs.Prelude.{ℕ, ◌<◌, ◌≡◌, ◌⊎◌, List, [], ◌∷◌}
use Rattle.orders.specs.Problem.{Problem}

abbrev pub In : ℕ → List ℕ → Type 0
In x [] = ⊥
In x (y ∷ l) = (x ≡ y) ⊎ In x l

abbrev pub Precedes : ℕ → ℕ → List ℕ → Type 0
Precedes a b [] = ⊥
Precedes a b (x ∷ l) = ((a ≡ x) × In b l) ⊎ Precedes a b l

abbrev pub Distinct : List ℕ → Type 0
Distinct [] = Unit {0}
Distinct (x ∷ l) = (In x l → ⊥) × Distinct l

-- 01: "A total order of all events meets the rules when it contains happens-before and there is no row (R, W) and writing sc event V placed
-- after W and before R with any of: (a) .. (b) .. (c) .."
-- 02 §5: "the list names every event once and the order meets the rules of 01"
pub record Meets (P : Problem) (l : List ℕ) : Type 0 where
  pub events : (e : ℕ) → In e l → e < P.events
  pub all : (e : ℕ) → e < P.events → In e l
  pub once : Distinct l
  pub before : (a b : ℕ) → P.Before a b → Precedes a b l
  pub bars : (r w v : ℕ) → P.Bar r w v → Precedes w v l → Precedes v r l → ⊥

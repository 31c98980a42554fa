-- What has to come before what, as far as bars show it before any way is gone. Laws: proofs/ForcedLaws.antt. Assumes nothing.
--     Waits f S l             as the events of l are placed after those of S, each waits for the members of its mask in f
--     Forced P k before f     however all events are placed from the inits on, each waits so; an init for nothing, another at least for what
--                             `before` has
--     Pressed P k ..          what pressing the bars ends with: that no way is left, or a table that still is forced
--     Forces A P k ..         the same where the numbers fit, which is A; else false, and nothing changed
use Rattle.std.specs.Prelude.{◌≡◌, ℕ, ◌<◌, ◌≤◌, Bool, true, false, List, [], ◌∷◌, length, slice_index}
use Rattle.sets.specs.Mask.{slots, Has, Within}
use Rattle.orders.specs.Problem.{Problem}
use Rattle.orders.specs.Step.{With, Below, Runs, Dead}

abbrev pub Waits : List ℕ → (ℕ → Type 0) → List ℕ → Type 0
Waits f S [] = Unit {0}
Waits f S (e ∷ l) = ((a : ℕ) → Has (slice_index f e) a → S a) × Waits f (With S e) l

pub record Forced (P : Problem) (k : ℕ) (before f : List ℕ) : Type 0 where
  pub size : length f ≡ slots
  pub waits : (l : List ℕ) → Runs P (Below k) l → Waits f (Below k) l
  pub keeps : (e : ℕ) → k ≤ e → e < P.events → Within (slice_index before e) (slice_index f e)
  pub idle : (e : ℕ) → e < k → slice_index f e ≡ 0

pub record Pressed (P : Problem) (k : ℕ) (before : List ℕ) (r : Bool) (f : List ℕ) : Type 0 where
  pub none : r ≡ true → Dead P (Below k)
  pub still : Forced P k before f

pub record Forces (A : Type 0) (P : Problem) (k : ℕ) (before f : List ℕ) (r : Bool) (f' : List ℕ) : Type 0 where
  pub fit : A → Pressed P k before r f'
  pub unfit : (A → ⊥) → (r ≡ false) × (f' ≡ f)

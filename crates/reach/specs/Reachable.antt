-- The sets that can be built by placing events one at a time, and their number (02 §9). A set is a number here, a bit for each event, so
-- that they can be counted. Laws: proofs/ReachableLaws.antt. Assumes nothing.
--     Reached P s₀ s          s can be built from s₀
--     Counted P s₀ c          c is the number of these sets
--     Exceeds P s₀ limit      there are more than `limit` of them
--     CountIs P s₀ limit r    the answer to a count with a limit
--     Tallied ..              the answer of `count_sets`
use Rattle.std.specs.Prelude.{Option, Some, None, ℕ, ◌-◌, ◌<◌, ◌≤◌, ◌≡◌, List, length}
use Rattle.sets.specs.Mask.{Has, insert, full}
use Rattle.marks.specs.Table.{bytes_for, cleared}
use Rattle.orders.specs.Problem.{Problem}
use Rattle.orders.specs.Order.{In, Distinct}
use Rattle.orders.specs.Step.{Ready}
use Rattle.orders.specs.Tables.{tabled}
use Rattle.orders.specs.Answer.{Fits}

-- 02 §9: "A set of placed events is reachable when it can be built from the set of all inits by placing events one at a time"
pub data Reached (P : Problem) (s₀ : ℕ) : ℕ → Type 0 where
  start : Reached P s₀ s₀
  place : {s e : ℕ} → Reached P s₀ s → Ready P (Has s) e → Reached P s₀ (insert s e)

-- 02 §9: "the number of reachable sets, counting the starting one": a list of c different ones has them all
pub record Counted (P : Problem) (s₀ c : ℕ) : Type 0 where
  pub sets : List ℕ
  pub number : length sets ≡ c
  pub once : Distinct sets
  pub reached : (s : ℕ) → In s sets → Reached P s₀ s
  pub all : (s : ℕ) → Reached P s₀ s → In s sets

pub record Exceeds (P : Problem) (s₀ limit : ℕ) : Type 0 where
  pub sets : List ℕ
  pub once : Distinct sets
  pub reached : (s : ℕ) → In s sets → Reached P s₀ s
  pub over : limit < length sets

-- 02 §9: unfinished "exactly when .. the number of reachable sets .. is over the limit"
abbrev pub CountIs : Problem → ℕ → ℕ → Option ℕ → Type 0
CountIs P s₀ limit (Some c) = Counted P s₀ c × (c ≤ limit)
CountIs P s₀ limit None = Exceeds P s₀ limit

-- what does not fit is answered Some(0), which no count is, with nothing changed
pub record Tallied (k m : ℕ) (before bars scratch : List ℕ) (limit : ℕ) (r : Option ℕ) (scratch' : List ℕ) : Type 0 where
  pub fit : Fits k m (length scratch) → CountIs (tabled m before bars) (full k) limit r × (scratch' ≡ cleared (bytes_for (m - k)) scratch)
  pub unfit : (Fits k m (length scratch) → ⊥) → (r ≡ Some 0) × (scratch' ≡ scratch)

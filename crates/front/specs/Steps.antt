-- What the judge's steps give over the tables of an execution, for events with one access or two: what the model's definitions say of it.
-- The steps' own contracts (`ClosedSteps`, `filled_in`, `rule_in`, `settled_in`) say by form what comes. Proved in proofs/Steps.antt.
--     Stored x t n q m p k     the tables t, q, p hold the n events, m rows, k pairs of x
--     HappensBefore          the masks of successors test happens-before, and those of predecessors are their columns
--     Bars                   the bars are the model's
--     Rules                  the first broken rule of 21 to 25, and whom it names, are the model's
--     Pairs                  orderly, or the lowest unsettled pair, is the model's
-- Assumes nothing.
use Rattle.std.specs.Prelude.{◌≡◌, List, ℕ, ◌+◌, ◌*◌, ◌<◌, get_or, replicate}
use Rattle.format.specs.Execution.{Execution}
use Rattle.sets.specs.Mask.{slots, mem}
use Rattle.model.specs.Happens.{Tests}
use Rattle.model.specs.Bar.{bar}
use Rattle.model.specs.Rules.{fault}
use Rattle.model.specs.Unsettled.{unsettled_pair}
use Rattle.model.specs.Judged.{settled_of}
use Rattle.model.proofs.Sound.{Sound}
use Rattle.bars.specs.Bars.{filled_in}
use Rattle.before.specs.Before.{ClosedSteps}
use Rattle.settle.specs.Settle.{settled_in}
use Rattle.rules.specs.Rules.{rule_in}
use Rattle.front.specs.Tabled.{Slotted, Agents, Rowed, Seen, Paired, hb_of, Turned, found_of}

-- `Sound` is what the model's theorems ask of an execution: each row's two ends, a row for each byte read, pairs of markers, inits in front and
-- apart.
pub record Stored (x : Execution) (t : List ℕ) (n : ℕ) (q : List ℕ) (m : ℕ) (p : List ℕ) (k : ℕ) : Type 0 where
  pub sound : Sound x
  pub slotted : Slotted x t n
  pub agents : Agents x t n
  pub rowed : Rowed x q m
  pub seen : Seen x q m
  pub paired : Paired x p k

-- the masks that the step `before` makes of the tables, from empty ones
abbrev pub Made : List ℕ → ℕ → List ℕ → ℕ → List ℕ → ℕ → List ℕ → List ℕ → Type 0
Made t n q m p k succ pred = ClosedSteps t n q m p k (replicate slots 0) succ (replicate slots 0) pred

-- 01: "Happens-before: the transitive closure of agent order, synchronises-with, and init to every other event whose range overlaps it."
abbrev pub HappensBefore : Type 0
HappensBefore =
    (x : Execution) (t : List ℕ) (n : ℕ) (q : List ℕ) (m : ℕ) (p : List ℕ) (k : ℕ) → Stored x t n q m p k
    → (succ pred : List ℕ) → Made t n q m p k succ pred → Tests x (hb_of succ) × Turned succ pred

-- 02 §8: "A bar is a triple (R, W, V) of three different events from which 01's (a), (b) or (c) forbids W, V, R in that order."
abbrev pub Bars : Type 0
Bars =
    (x : Execution) (t : List ℕ) (n : ℕ) (q : List ℕ) (m : ℕ) (p : List ℕ) (k : ℕ) → Stored x t n q m p k
    → (succ pred : List ℕ) → Made t n q m p k succ pred
    → (r w v : ℕ) → w < slots → v < slots → mem (get_or (filled_in t n succ pred q m (replicate (slots * slots) 0)) (v * slots + w) 0) r ≡ bar x (hb_of succ) r w v

-- 01: "Each is tested over the whole sheet before the next. Rows are taken in order; then the lowest V. For 22 the lowest event, for 25 the
-- lowest (R, W, V)."
abbrev pub Rules : Type 0
Rules =
    (x : Execution) (t : List ℕ) (n : ℕ) (q : List ℕ) (m : ℕ) (p : List ℕ) (k : ℕ) → Stored x t n q m p k
    → (succ pred : List ℕ) → Made t n q m p k succ pred → found_of (rule_in t n succ pred q m) ≡ fault x (hb_of succ)

-- 01: "Orderly: no such pair. Otherwise the lowest pair is named."
abbrev pub Pairs : Type 0
Pairs =
    (x : Execution) (t : List ℕ) (n : ℕ) (q : List ℕ) (m : ℕ) (p : List ℕ) (k : ℕ) → Stored x t n q m p k
    → (succ pred : List ℕ) → Made t n q m p k succ pred → settled_in t succ n ≡ settled_of (unsettled_pair x (hb_of succ))

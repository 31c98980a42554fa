-- What a search for an order answers, and what it leaves in the lent buffers, for all inputs. Laws: proofs/AnswerLaws.antt. Assumes nothing.
--     Fits k m room        k inits of m events, and `room` bytes of scratch: what a search takes
--     Possible P k ..      whether all events can be placed one at a time, from the set of the inits on
--     Ordered P k ..       the first order in which they can
--     Told ..              the answer of `possible` (crate `first_order`)
--     Answered ..          the answer of `first`
use Rattle.std.specs.Prelude.{ℕ, ◌-◌, ◌≤◌, ◌≡◌, Bool, true, false, List, ◌++◌, length, drop}
use Rattle.basis.specs.Test.{from}
use Rattle.sets.specs.Mask.{slots}
use Rattle.marks.specs.Table.{bytes_for, cleared}
use Rattle.orders.specs.Problem.{Problem}
use Rattle.orders.specs.First.{FirstOf}
use Rattle.orders.specs.Step.{Below, Runs, Dead}
use Rattle.orders.specs.Tables.{tabled}

-- 01: "With n events that are not inits, the scratch needs the larger of 1 and 2^n / 8 bytes"
pub record Fits (k m room : ℕ) : Type 0 where
  pub inits : k ≤ m
  pub events : m ≤ slots
  pub scratch : bytes_for (m - k) ≤ room

-- 01: "the needed part of the scratch is zero, the rest .. unchanged"
pub record Possible (P : Problem) (k : ℕ) (scratch : List ℕ) (r : Bool) (scratch' : List ℕ) : Type 0 where
  pub clean : scratch' ≡ cleared (bytes_for (P.events - k)) scratch
  pub some : r ≡ true → (l : List ℕ) × Runs P (Below k) l
  pub none : r ≡ false → Dead P (Below k)

-- 01: "the order buffer's first bytes, one for each event, hold the order; its rest is unchanged", or the order buffer is unchanged
pub record Ordered (P : Problem) (k : ℕ) (scratch order : List ℕ) (r : Bool) (scratch' order' : List ℕ) : Type 0 where
  pub clean : scratch' ≡ cleared (bytes_for (P.events - k)) scratch
  pub found : r ≡ true → (l : List ℕ) × FirstOf (Runs P (Below k)) l × (order' ≡ (from 0 k ++ l) ++ drop P.events order)
  pub none : r ≡ false → Dead P (Below k)
  pub kept : r ≡ false → order' ≡ order

-- what does not fit is answered false, with nothing changed
pub record Told (k m : ℕ) (before bars scratch : List ℕ) (r : Bool) (scratch' : List ℕ) : Type 0 where
  pub fit : Fits k m (length scratch) → Possible (tabled m before bars) k scratch r scratch'
  pub unfit : (Fits k m (length scratch) → ⊥) → (r ≡ false) × (scratch' ≡ scratch)

pub record Answered (k m : ℕ) (before bars scratch order : List ℕ) (r : Bool) (scratch' order' : List ℕ) : Type 0 where
  pub fit : Fits k m (length scratch) → m ≤ length order → Ordered (tabled m before bars) k scratch order r scratch' order'
  pub unfit : (Fits k m (length scratch) × (m ≤ length order) → ⊥) → (r ≡ false) × (scratch' ≡ scratch) × (order' ≡ order)

-- The tables of an execution, and what they mean. Laws: proofs/TabledLaws.antt, proofs/BarredLaws.antt, proofs/RuledLaws.antt,
-- proofs/SheetLaws.antt.
--     Slotted x t n         the table t holds the accesses of the n events of x, each in its slot: one (Single) or two (Double) to an event
--     Tabled x t n          what the steps ask of the table t: the access of each event of x at each byte
--     Rowed x q m           the table q holds the m rows of x
--     Agents x t n          the table t holds the agents of the n events of x
--     Paired x p k          the table p holds the k pairs of x
--     Seen x q m            and for each of them the byte seen and the byte written
--     Owned x               of an event's accesses no two cover a byte: whichever covers one is the access at that byte
--     hb_of succ             the test of happens-before that rows of successors are
--     Turned succ pred      pred holds the columns of succ
--     found_of               what a rule finds, as an option
--     Held x n m t q succ pred     the tables hold the n events and the m rows of x, succ and pred its happens-before
-- Assumes nothing.
use Rattle.std.specs.Prelude.{◌≡◌, Bool, true, false, ◌⊎◌, ℕ, ◌+◌, ◌*◌, ◌<◌, ◌≤◌, T, length, get_or}
use mathlib.Core.List.{List, [], ◌∷◌, Memᴰ}
use Rattle.std.proofs.Math.Option.{Option, none, some}
use Rattle.basis.specs.Test.{each, from}
use Rattle.format.specs.Shape.{covers}
use Rattle.format.specs.Event.{Access, shape_at, saw, wrote}
use Rattle.format.specs.Execution.{Execution, event}
use Rattle.sets.specs.Mask.{slots, mem}
use Rattle.model.specs.Happens.{Tests}
use Rattle.model.specs.Rules.{Fault, faulty}
use Rattle.tables.specs.Tables.{agent_in, shape_in, at_in, row_room, row_in, seen_in, wrote_in, pair_in}
use Rattle.std.specs.Prelude.{Ok, Err}
use Rattle.answer.specs.Rules.{Rule}

-- event e's only access, in its first slot
pub record Single (t : List ℕ) (e : ℕ) (l : List Access) : Type 0 where
  pub only : Access
  pub is : l ≡ only ∷ []
  pub first : only.shape ≡ shape_in t (2 * e)
  pub second : (shape_in t (2 * e + 1)).width ≡ 0

-- event e's two accesses, in its two slots. 02 §11 has them in distinct regions, so no flat byte is covered by both.
pub record Double (t : List ℕ) (e : ℕ) (l : List Access) : Type 0 where
  pub one : Access
  pub other : Access
  pub is : l ≡ one ∷ other ∷ []
  pub first : one.shape ≡ shape_in t (2 * e)
  pub second : other.shape ≡ shape_in t (2 * e + 1)
  pub apart : (a : ℕ) → covers one.shape a ≡ true → covers other.shape a ≡ false

pub record Slotted (x : Execution) (t : List ℕ) (n : ℕ) : Type 0 where
  pub count : length x.events ≡ n
  pub few : n ≤ slots
  pub holds : (e : ℕ) → e < n → Single t e (event x e).accesses ⊎ Double t e (event x e).accesses
  pub beyond : (e : ℕ) → n ≤ e → e < slots → ((shape_in t (2 * e)).width ≡ 0) × ((shape_in t (2 * e + 1)).width ≡ 0)

-- All that the rules ask of an event is its access at a byte; no event has two there. Whether it has one access or two is not said.
pub record Tabled (x : Execution) (t : List ℕ) (n : ℕ) : Type 0 where
  pub count : length x.events ≡ n
  pub few : n ≤ slots
  pub shape_at_lem : (e a : ℕ) → e < slots → shape_at (event x e) a ≡ at_in t e a
  pub apart : (e a : ℕ) → e < slots → covers (shape_in t (2 * e)) a ≡ true → covers (shape_in t (2 * e + 1)) a ≡ false

abbrev pub Rowed : Execution → List ℕ → ℕ → Type 0
Rowed x q m = x.rows ≡ each (row_in q) (from 0 m)

abbrev pub Agents : Execution → List ℕ → ℕ → Type 0
Agents x t n = (e : ℕ) → e < n → (event x e).agent ≡ agent_in t e

abbrev pub Paired : Execution → List ℕ → ℕ → Type 0
Paired x p k = x.pairs ≡ each (pair_in p) (from 0 k)

abbrev pub Owned : Execution → Type 0
Owned x = (e : ℕ) (a : Access) (k : ℕ) → Memᴰ a (event x e).accesses → T (covers a.shape k) → a.shape ≡ shape_at (event x e) k

abbrev pub hb_of : List ℕ → ℕ → ℕ → Bool
hb_of succ e d = mem (get_or succ e 0) d

abbrev pub Turned : List ℕ → List ℕ → Type 0
Turned succ pred = (e d : ℕ) → mem (get_or pred d 0) e ≡ mem (get_or succ e 0) d

pub record Seen (x : Execution) (q : List ℕ) (m : ℕ) : Type 0 where
  pub seen : (j : ℕ) → j < m → seen_in q j ≡ saw (event x (row_in q j).reader) (row_in q j).address
  pub wrote : (j : ℕ) → j < m → wrote_in q j ≡ wrote (event x (row_in q j).writer) (row_in q j).address

abbrev pub found_of : Rule → Option Fault
found_of (Ok u) = none
found_of (Err e) = some (faulty e.number e.names)

-- what the judge's later steps start from, when the tables are filled: how they were filled is no longer said
pub record Held (x : Execution) (n m : ℕ) (t q succ pred : List ℕ) : Type 0 where
  pub tabled : Tabled x t n
  pub owned : Owned x
  pub rows_few : m ≤ row_room
  pub rowed : Rowed x q m
  pub tests : Tests x (hb_of succ)
  pub turned : Turned succ pred

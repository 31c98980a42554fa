-- Happens-before over the tables, by masks of successors; what two events make by themselves is crate own's. Laws: proofs/BeforeLaws.antt.
--     sync_in t r                the row's two accesses at its byte are both sc with equal ranges
--     row_steps_in, pair_steps_in   the masks with the steps of the first rows, of the first pairs
--     steps_in                   all direct steps                                   columns_in        the masks with the columns
--     ClosedSteps               the direct steps, closed, and their columns
--     direct_in, step_in          the same of two events, as a test: what they make by themselves, and any direct step
-- Assumes nothing.
use Rattle.std.specs.Prelude.{◌≡◌, Bool, cond, List, ℕ, ◌%◌, eqb, ltb, get_or}
use Rattle.basis.specs.Test.{◌and◌, ◌or◌, any, from}
use Rattle.format.specs.declared.Row.{Row}
use Rattle.format.specs.declared.Pair.{Pair}
use Rattle.format.specs.Shape.{both_sc}
use Rattle.sets.specs.Mask.{slots}
use Rattle.closing.specs.Closure.{taken, Closed}
use Rattle.cells.specs.Walk.{up_to}
use Rattle.cells.specs.Cells.{gaining, scatter, placing}
use Rattle.tables.specs.Tables.{agent_in, at_in, row_in, pair_in}
use Rattle.own.specs.Own.{met_in, later_in, own_in}

-- ---- what rows and pairs add

unfoldable pub sync_in : List ℕ → Row → Bool
sync_in t r = both_sc (at_in t (r.writer % slots) r.address) (at_in t (r.reader % slots) r.address)

unfoldable pub sync_gains : List ℕ → Row → List ℕ → List ℕ
sync_gains t r l = cond (sync_in t r) (gaining l (r.writer % slots) (r.reader % slots)) l

unfoldable pub row_steps_in : List ℕ → List ℕ → ℕ → List ℕ → List ℕ
row_steps_in t q n l = up_to (λ (j : ℕ). sync_gains t (row_in q j)) n l

abbrev pub pair_gains : Pair → List ℕ → List ℕ
pair_gains p l = gaining l (p.first % slots) (p.second % slots)

unfoldable pub pair_steps_in : List ℕ → ℕ → List ℕ → List ℕ
pair_steps_in p n l = up_to (λ (j : ℕ). pair_gains (pair_in p j)) n l

-- ---- the whole

unfoldable pub steps_in : List ℕ → ℕ → List ℕ → ℕ → List ℕ → ℕ → List ℕ → List ℕ
steps_in t n q m p k l = pair_steps_in p k (row_steps_in t q m (placing (own_in t n) n l))

abbrev pub turn_at : List ℕ → ℕ → List ℕ → List ℕ
turn_at succ e l = scatter l (get_or succ e 0) e

unfoldable pub columns_in : List ℕ → ℕ → List ℕ → List ℕ
columns_in succ n l = up_to (turn_at succ) (taken n succ) l

pub record ClosedSteps (t : List ℕ) (n : ℕ) (q : List ℕ) (m : ℕ) (p : List ℕ) (k : ℕ) (succ succ' pred pred' : List ℕ) : Type 0 where
  pub closed : Closed (taken n (steps_in t n q m p k succ)) (steps_in t n q m p k succ) succ'
  pub turned : pred' ≡ columns_in succ' n pred

-- ---- the same, event by event

unfoldable pub direct_in : List ℕ → ℕ → ℕ → ℕ → Bool
direct_in t n e d = ltb e n and ltb d n and cond (eqb (agent_in t e) 0) (met_in t e d) (later_in t e d)

unfoldable pub row_step : List ℕ → ℕ → ℕ → Row → Bool
row_step t e d r = eqb r.writer e and eqb r.reader d and sync_in t r

unfoldable pub pair_step : ℕ → ℕ → Pair → Bool
pair_step e d p = eqb p.first e and eqb p.second d

unfoldable pub step_in : List ℕ → ℕ → List ℕ → ℕ → List ℕ → ℕ → ℕ → ℕ → Bool
step_in t n q m p k e d =
    (direct_in t n e d or any (λ (j : ℕ). row_step t e d (row_in q j)) (from 0 m)) or any (λ (j : ℕ). pair_step e d (pair_in p j)) (from 0 k)

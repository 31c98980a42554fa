-- Whom a broken rule names, said of the names that are given (01, "Rules, in the order they are tested": "Each is tested over the whole sheet
-- before the next. Rows are taken in order; then the lowest V. For 22 the lowest event, for 25 the lowest (R, W, V)."). Proved of every fault that
-- is answered: proofs/LowestLaws.antt.
--     LowestNames x hb n names     rule n is broken where the names say, and nowhere before that
--     Somewhere x hb m             rule m is broken somewhere
--     FirstBroken x hb n names     rule n is the first that is broken, and the names are the lowest
-- `Lex` (orders/specs/First.antt) compares number by number.
-- Assumes nothing.
use Rattle.std.specs.Prelude.{Bool, List, [], ◌∷◌, ℕ, ◌≤◌, ◌<◌, T, length}
use Rattle.format.specs.Execution.{Execution}
use Rattle.parse.specs.Promise.{row}
use Rattle.orders.specs.Order.{Meets}
use Rattle.orders.specs.First.{Lex}
use Rattle.answer.specs.declared.Names.{Names}
use Rattle.answer.specs.declared.Names.TheVariants.{Row as OfRow, Event as OfEvent, Between, Torn, Nobody}
use Rattle.model.specs.Rules.{breaks21, breaks22, breaks23, breaks24, breaks25}
use Rattle.model.specs.Order.{problem}

pub data LowestNames (x : Execution) (hb : ℕ → ℕ → Bool) : ℕ → Names → Type 0 where
  -- row number j, and no earlier row
  at_21 : (j : ℕ) → j < length x.rows → T (breaks21 x (row x j)) → ((i : ℕ) → i < length x.rows → T (breaks21 x (row x i)) → j ≤ i)
      → LowestNames x hb 21 (OfRow (row x j).reader (row x j).writer (row x j).address)
  -- event e, and no lower event
  at_22 : (e : ℕ) → T (breaks22 hb e) → ((d : ℕ) → T (breaks22 hb d) → e ≤ d) → LowestNames x hb 22 (OfEvent e)
  at_23 : (j : ℕ) → j < length x.rows → T (breaks23 hb (row x j)) → ((i : ℕ) → i < length x.rows → T (breaks23 hb (row x i)) → j ≤ i)
      → LowestNames x hb 23 (OfRow (row x j).reader (row x j).writer (row x j).address)
  -- row number j and v: no earlier row, and with this row no lower V
  at_24 : (j v : ℕ) → j < length x.rows → T (breaks24 x hb (row x j) v)
      → ((i u : ℕ) → i < length x.rows → T (breaks24 x hb (row x i) u) → Lex (j ∷ v ∷ []) (i ∷ u ∷ []))
      → LowestNames x hb 24 (Between (row x j).reader (row x j).writer v (row x j).address)
  -- no lower (R, W, V)
  at_25 : (r w v : ℕ) → T (breaks25 x r w v) → ((p q u : ℕ) → T (breaks25 x p q u) → Lex (r ∷ w ∷ v ∷ []) (p ∷ q ∷ u ∷ []))
      → LowestNames x hb 25 (Torn r w v)
  at_26 : ((o : List ℕ) → Meets (problem x hb) o → ⊥) → LowestNames x hb 26 Nobody

-- rule m is broken somewhere
pub data Somewhere (x : Execution) (hb : ℕ → ℕ → Bool) : ℕ → Type 0 where
  by_21 : (j : ℕ) → j < length x.rows → T (breaks21 x (row x j)) → Somewhere x hb 21
  by_22 : (e : ℕ) → T (breaks22 hb e) → Somewhere x hb 22
  by_23 : (j : ℕ) → j < length x.rows → T (breaks23 hb (row x j)) → Somewhere x hb 23
  by_24 : (j v : ℕ) → j < length x.rows → T (breaks24 x hb (row x j) v) → Somewhere x hb 24
  by_25 : (r w v : ℕ) → T (breaks25 x r w v) → Somewhere x hb 25
  by_26 : ((o : List ℕ) → Meets (problem x hb) o → ⊥) → Somewhere x hb 26

pub record FirstBroken (x : Execution) (hb : ℕ → ℕ → Bool) (n : ℕ) (names : Names) : Type 0 where
  pub lowest : LowestNames x hb n names
  pub none_before : (m : ℕ) → Somewhere x hb m → n ≤ m

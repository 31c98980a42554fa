-- What is answered of counts and tables, whatever they hold. Laws: proofs/WeighedLaws.antt. What it means of a whole sheet: crates/judge/proofs/WeighLaws.antt.
--     broken_in x t q succ pred          the first broken rule of 21 to 25, among so many events and rows as the counts say and have a place
--     Breached need number names ..     a rule is broken: its number and names, the scratch cleared, the order buffer as it was
--     Decided k n m .. rule ..          what follows from the first broken rule; where there is none, the last step
--     Weighed s x t q need ..           the happens-before of these tables and of the sheet's pairs, and what follows from its rules
-- Assumes nothing.
use Rattle.std.specs.Prelude.{◌≡◌, List, ℕ, min, replicate, Ok, Err}
use Rattle.entries.specs.declared.Counts.{Counts}
use Rattle.sets.specs.Mask.{slots}
use Rattle.marks.specs.Table.{cleared}
use Rattle.answer.specs.declared.Answer.{Answer}
use Rattle.answer.specs.declared.Answer.TheVariants.{Broken}
use Rattle.answer.specs.declared.Names.{Names}
use Rattle.answer.specs.Rules.{Rule}
use Rattle.tables.specs.Tables.{row_room, pair_room, pair_cells}
use Rattle.lay.specs.Lay.{pairs_put}
use Rattle.before.specs.Before.{ClosedSteps}
use Rattle.rules.specs.Rules.{rule_in}
use Rattle.arrange.specs.Arranged.{Arranged}

abbrev pub broken_in : Counts → (t q succ pred : List ℕ) → Rule
broken_in x t q succ pred = rule_in t (min x.events slots) succ pred q (min x.rows row_room)

-- "the needed part of the scratch is zero, the rest and the order buffer unchanged"
pub record Breached (need number : ℕ) (names : Names) (scratch order : List ℕ) (r : Answer) (scratch' order' : List ℕ) : Type 0 where
  pub says : r ≡ Broken number names
  pub scratch_cleared : scratch' ≡ cleared need scratch
  pub order_kept : order' ≡ order

abbrev pub Decided : (k n m : ℕ) (t q succ pred : List ℕ) (need : ℕ) (scratch order : List ℕ) → Rule → (r : Answer) (scratch' order' : List ℕ) → Type 0
Decided k n m t q succ pred need scratch order (Err e) r scratch' order' = Breached need e.number e.names scratch order r scratch' order'
Decided k n m t q succ pred need scratch order (Ok u) r scratch' order' = Arranged k n m t q succ pred scratch order r scratch' order'

pub record Weighed (s : List ℕ) (x : Counts) (t q : List ℕ) (need : ℕ) (scratch order : List ℕ) (r : Answer) (scratch' order' : List ℕ) : Type 0 where
  pub p : List ℕ
  pub pairs : p ≡ pairs_put s x (min x.pairs pair_room) (replicate pair_cells 0)
  pub succ : List ℕ
  pub pred : List ℕ
  pub ordered : ClosedSteps t (min x.events slots) q (min x.rows row_room) p (min x.pairs pair_room) (replicate slots 0) succ (replicate slots 0) pred
  pub decided : Decided x.inits x.events x.rows t q succ pred need scratch order (broken_in x t q succ pred) r scratch' order'

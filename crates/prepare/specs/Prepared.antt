-- What is found of tables, whatever they hold. Laws: proofs/PreparedLaws.antt. Who cites it: weigh/proofs/WeighedLaws, log_check/proofs/CheckedLaws.
--     Ruled s x t q succ succ' ..     the happens-before of these tables and of the sheet's pairs, and the first broken rule of 21 to 25, among so many
--                                     events and rows as the counts say and have a place; the masks are left where none is broken
--     Readied s x t q ..              the same; and where none is broken, what one pass over the rows lists (crate sift), as many entries as the count says;
--                                     no count where the pass was not clean
-- Assumes nothing.
use Rattle.std.specs.Prelude.{◌≡◌, List, ℕ, min, replicate, Option, Result, Ok, Err}
use Rattle.entries.specs.declared.Counts.{Counts}
use Rattle.sets.specs.Mask.{slots}
use Rattle.answer.specs.declared.Breach.{Breach}
use Rattle.answer.specs.Rules.{Rule, unbreached}
use Rattle.tables.specs.Tables.{row_room, pair_room, pair_cells}
use Rattle.lay.specs.Lay.{pairs_put}
use Rattle.before.specs.Before.{ClosedSteps}
use Rattle.rules.specs.Rules.{rule_in}
use Rattle.sift.specs.Sieve.{Sieve}

pub record Ruled (s : List ℕ) (x : Counts) (t q succ succ' pred pred' : List ℕ) (r : Rule) : Type 0 where
  pub p : List ℕ
  pub pairs : p ≡ pairs_put s x (min x.pairs pair_room) (replicate pair_cells 0)
  pub after : List ℕ
  pub before : List ℕ
  pub ordered : ClosedSteps t (min x.events slots) q (min x.rows row_room) p (min x.pairs pair_room) succ after pred before
  pub says : r ≡ rule_in t (min x.events slots) after before q (min x.rows row_room)
  pub left : r ≡ unbreached → (succ' ≡ after) × (pred' ≡ before)

-- the rule, without what was listed
abbrev pub rule_of : Result (Option ℕ) Breach → Rule
rule_of (Ok listed) = unbreached
rule_of (Err e) = Err e

-- the list is that of one pass, where it was clean
pub record Readied (s : List ℕ) (x : Counts) (t q succ succ' pred pred' : List ℕ) (r : Result (Option ℕ) Breach) (between readers writers : List ℕ) : Type 0 where
  pub ruled : Ruled s x t q succ succ' pred pred' (rule_of r)
  pub listed : (listed : Option ℕ) → r ≡ Ok listed → Sieve t (min x.events slots) succ' pred' q x.inits (min x.rows row_room) listed between readers writers

-- What is weighed of a sheet that is whole, with buffers that are long enough, is what is to be answered: the rules 21 to 25 that the tables break are
-- those that its execution breaks. Assumes nothing.
--     weighed_judged     `Weighed` of an admitted sheet is `Judged`
use mathlib.Core.Path.{◌≡◌, refl, sym, ap, ◌∙◌, subst}
use mathlib.Core.Logic.{inl}
use mathlib.Core.List.{List}
use Prim.Native.Nat.{ℕ, min}
use lib.ListN.{length, replicate}
use Rattle.entries.specs.declared.Counts.{Counts}
use Rattle.entries.specs.Entries.{execution}
use Rattle.parse.specs.Promise.{WellFormed}
use Rattle.parse.proofs.PromiseLaws.{promise}
use Rattle.sets.specs.Mask.{slots}
use Rattle.marks.specs.Table.{cleared}
use Rattle.tables.specs.Tables.{columns, row_room, row_cells, pair_cells}
use Rattle.lay.specs.Lay.{events_put, rows_put, Layered}
use Rattle.answer.specs.declared.Names.{Names}
use Rattle.answer.specs.declared.Answer.{Answer}
use Rattle.std.specs.Prelude.{Ok, Err}
use Rattle.answer.specs.Rules.{Rule, unbreached, breach}
use Rattle.model.specs.Rules.{faulty, fault}
use Rattle.model.specs.Judged.{JudgedBroken, Judged}
use Rattle.model.proofs.JudgedLaws.{admitted_whole}
use Rattle.weigh.specs.Weighed.{broken_in, Breached, Decided, Weighed}
use Rattle.front.specs.Tabled.{hb_of, found_of}
use Rattle.front.proofs.SheetLaws.{sheet_held, sheet_rules}
use Rattle.judge.proofs.JudgeLaws.{Admits}
use Rattle.judge.proofs.ArrangeLaws.{Unbroken, arranged_judged}

module _ {s : List ℕ} {x : Counts} {at : List ℕ} {need : ℕ} {scratch order : List ℕ} (a : Admits s x at need scratch order) {t q : List ℕ}
    (accesses : t ≡ events_put s x.head.edition at (min x.events slots) (replicate columns 0))
    (rows : q ≡ rows_put s x at t (min x.rows row_room) (replicate row_cells 0)) {r : Answer} {scratch' order' : List ℕ}
    (w : Weighed s x t q need scratch order r scratch' order') where
  laid : Layered s x at (replicate columns 0) t (replicate row_cells 0) q (replicate pair_cells 0) w.p
  laid = record { events = accesses; rows = rows; pairs = w.pairs }

  well : WellFormed (execution s x at)
  well = promise s (execution s x at) (admitted_whole s (length scratch) (length order) (execution s x at) a.describes).describes

  -- the first broken rule of the tables, which is the model's
  abbrev rule : Rule
  rule = broken_in x t q w.succ w.pred

  found : found_of rule ≡ fault (execution s x at) (hb_of w.succ)
  found = sheet_rules a.laid well laid w.ordered

  unbroken : rule ≡ unbreached → Unbroken s x.inits x.events x.rows t q w.succ w.pred scratch order
  unbroken k =
      record {
        execution = execution s x at;
        describes = a.describes;
        starts = a.laid.inits;
        held = sheet_held a.laid well laid w.ordered;
        kept = sym found ∙ ap found_of k;
      }

  broken : {n : ℕ} {names : Names} → rule ≡ breach n names → Breached need n names scratch order r scratch' order'
      → JudgedBroken s scratch order (faulty n names) scratch' order'
  broken k b =
      record {
        execution = execution s x at;
        describes = a.describes;
        hb = hb_of w.succ;
        tests = (sheet_held a.laid well laid w.ordered).tests;
        breaks = inl (sym found ∙ ap found_of k);
        scratch_cleared = b.scratch_cleared ∙ ap (λ (i : ℕ). cleared i scratch) a.needs;
        order_kept = b.order_kept;
      }

  judged : (i : Rule) → rule ≡ i → Decided x.inits x.events x.rows t q w.succ w.pred need scratch order i r scratch' order'
      → Judged s scratch order r scratch' order'
  judged (Ok u) k d = arranged_judged (unbroken k) d
  judged (Err e) k b = subst (λ (z : Answer). Judged s scratch order z scratch' order') (sym b.says) (broken {n = e.number} {names = e.names} k b)

  pub weighed_judged : Judged s scratch order r scratch' order'
  weighed_judged = judged rule refl w.decided

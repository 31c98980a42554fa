-- The laws of the judge's first steps: refusals, and buffers that are too short. Assumes nothing.
--     refused_sheet, short_scratch, short_order     refusals
--     Admits s x at need scratch order              the sheet is refused by none of 1 to 14, and needs so much scratch
--     admits                                        what is weighed
use mathlib.Core.Path.{◌≡◌, refl}
use mathlib.Core.List.{List}
use Prim.Native.Nat.{ℕ, ◌-◌, ◌<◌, ◌≤◌, min}
use borrow.Author.Tests.{lt-ltb, le-ltb}
use lib.ListN.{length}
use Rattle.format.specs.Execution.{Execution}
use Rattle.entries.specs.declared.Counts.{Counts}
use Rattle.parse.specs.Parse.{refused, whole, parse}
use Rattle.entries.specs.Entries.{execution}
use Rattle.sheet.specs.Handed.{Laid, HandedWhole}
use Rattle.sets.specs.Mask.{slots}
use Rattle.marks.specs.Table.{bytes_for}
use Rattle.model.specs.Judged.{needed, lent, admitted, JudgedRefused}
use Rattle.model.proofs.JudgedLaws.{whole_admitted}
use Rattle.front.proofs.LaidLaws.{laid_count, laid_need}

-- the reader found the sheet whole, and neither 01's "12 scratch too short" nor "13 order buffer shorter than the number of events" applies
pub record Admits (s : List ℕ) (x : Counts) (at : List ℕ) (need : ℕ) (scratch order : List ℕ) : Type 0 where
  pub laid : Laid s x at
  pub describes : admitted s (length scratch) (length order) ≡ whole (execution s x at)
  pub needs : need ≡ needed (execution s x at)

-- a sheet that the reader refuses
pub refused_sheet : {s scratch order : List ℕ} {n p : ℕ} → parse s ≡ refused n p → JudgedRefused s scratch order n p scratch order
unfolding admitted lent
refused_sheet e = record { says = rw e; scratch_kept = refl; order_kept = refl }

-- ---- the buffers

module _ {s : List ℕ} {x : Counts} {at : List ℕ} (h : HandedWhole s x at) where
  abbrev X : Execution
  X = execution s x at

  module _ {need : ℕ} {scratch order : List ℕ} (k : need ≡ bytes_for (min (x.events - x.inits) slots)) where
    pub short_scratch : length scratch < need → JudgedRefused s scratch order 12 0 scratch order
    unfolding admitted lent
    short_scratch l = record { says = rw (h.says, lt-ltb (length scratch) (needed X) (rw (laid_need h.laid k) at l)); scratch_kept = refl; order_kept = refl }

    pub short_order : need ≤ length scratch → length order < x.events → JudgedRefused s scratch order 13 0 scratch order
    unfolding admitted lent
    short_order i l =
        record {
          says = rw (h.says, le-ltb (length scratch) (needed X) (rw (laid_need h.laid k) at i), lt-ltb (length order) (length X.events) (rw (laid_count h.laid) l));
          scratch_kept = refl;
          order_kept = refl;
        }

    pub admits : need ≤ length scratch → x.events ≤ length order → Admits s x at need scratch order
    admits i l =
        record {
          laid = h.laid;
          describes = whole_admitted s (length scratch) (length order) X h.says (rw (laid_need h.laid k) at i) (rw (laid_count h.laid) l);
          needs = laid_need h.laid k;
        }

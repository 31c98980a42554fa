-- What a list is held against, as tables and as a problem. Laws: proofs/TrialLaws.antt.
--     trial_in n t succ pred q m     the trial of the tables' first n events and m rows: pred[b] is the mask of what happens before b, and what a row
--                                   bars is the mask that crate bars gives it
--     problem_of c                   the placement problem of a trial (crate orders): `Meets (problem_of c) l`
-- Assumes nothing.
use Rattle.std.specs.Prelude.{List, ℕ, T, eqb, get_or}
use Rattle.basis.specs.Test.{◌and◌, any, each, from}
use Rattle.format.specs.declared.Row.{Row}
use Rattle.sets.specs.Mask.{mem}
use Rattle.tables.specs.Tables.{row_in}
use Rattle.alike.specs.Ranges.{equals_in}
use Rattle.bars.specs.Bars.{mask_in}
use Rattle.orders.specs.Problem.{Problem}
use Rattle.log_order.specs.Listed.{Trial}

abbrev pub trial_in : ℕ → List ℕ → List ℕ → List ℕ → List ℕ → ℕ → Trial
trial_in n t succ pred q m =
    record {
      events = n;
      before = λ a b. mem (get_or pred b 0) a;
      rows = each (row_in q) (from 0 m);
      bars = λ r v. mem (mask_in t (equals_in t n) succ pred r) v;
    }

-- 01: "A total order of all events meets the rules when it contains happens-before and there is no row (R, W) and writing sc event V placed
-- after W and before R with any of: (a) .. (b) .. (c) .."
abbrev pub problem_of : Trial → Problem
problem_of c =
    record {
      events = c.events;
      Before = λ a b. T (c.before a b);
      Bar = λ r w v. T (any (λ (p : Row). eqb p.reader r and eqb p.writer w and c.bars p v) c.rows);
    }

-- The problem that two tables of masks state. Laws: proofs/TablesLaws.antt. Assumes nothing.
--     tabled m before bars     the problem with m events: before[b] is the mask of the a that have to come before b, and
--                              bars[v * 32 + w] that of the r with a bar (r, w, v)
use Rattle.std.specs.Prelude.{ℕ, ◌<◌, List, get_or}
use Rattle.sets.specs.Mask.{Has}
use Rattle.gather.specs.Writers.{bar_at}
use Rattle.orders.specs.Problem.{Problem}

abbrev pub tabled : ℕ → List ℕ → List ℕ → Problem
tabled m before bars =
    record {
      events = m;
      Before = λ a b. (b < m) × Has (get_or before b 0) a;
      Bar = λ r w v. (v < m) × (w < m) × Has (bar_at bars v w) r;
    }

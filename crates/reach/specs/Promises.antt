-- What the crate promises beyond its function's contract. proofs/Promises.antt proves each in a line. Assumes nothing.
--     CountAgrees    two conforming answers are equal, the scratch too
--     CountAtMost    the number of reachable sets is at most 2^n
use Rattle.std.specs.Prelude.{Option, ℕ, ◌-◌, ◌^◌, ◌≤◌, ◌≡◌, List}
use Rattle.sets.specs.Mask.{full}
use Rattle.orders.specs.Problem.{Problem}
use Rattle.reach.specs.Reachable.{Counted, Tallied}

-- 01: "That any two conforming answers agree is itself proved"
abbrev pub CountAgrees : Type 0
CountAgrees =
    (k m : ℕ) (before bars scratch : List ℕ) (limit : ℕ) (r q : Option ℕ) (s t : List ℕ) → Tallied k m before bars scratch limit r s
    → Tallied k m before bars scratch limit q t → (r ≡ q) × (s ≡ t)

-- 02 §9: "The number is at most 2^n."
abbrev pub CountAtMost : Type 1
CountAtMost = (P : Problem) (k c : ℕ) → k ≤ P.events → Counted P (full k) c → c ≤ 2 ^ (P.events - k)

-- Bars as a list (02 §8), and the problem with the bars of a list and no others. Laws: proofs/SearchLaws.antt, BeforeLaws.antt. Assumes nothing.
--     Triple           a bar: R, and behind it W and V
--     triples n        all triples of n events, rising by (R, W, V)
--     posed n hb l     n events, happens-before by the test hb, and the bars of the list l
use Rattle.std.specs.Prelude.{Bool, ℕ, T}
use mathlib.Core.List.{List, Memᴰ}
use Rattle.basis.specs.Test.{across, from}
use Rattle.orders.specs.Problem.{Problem}

-- 02 §8: "A bar is a triple (R, W, V)"
abbrev pub Triple : Type 0
Triple = ℕ × (ℕ × ℕ)

-- 02 §8: "rising by (R, W, V)": the first part changes slowest
abbrev pub triples : ℕ → List Triple
triples n = across (from 0 n) (across (from 0 n) (from 0 n))

-- 02 §8: "the remaining bars together with happens-before"
abbrev pub posed : ℕ → (ℕ → ℕ → Bool) → List Triple → Problem
posed n hb l = record { events = n; Before = λ a b. T (hb a b); Bar = λ r w v. Memᴰ {A = Triple} (r, (w, v)) l }

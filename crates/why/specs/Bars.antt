-- The bars of an execution as a list, and what some of them leave (02 §8). Laws: proofs/BarsLaws.antt. Assumes nothing.
--     all_bars x hb          all bars, once each, rising by (R, W, V)
--     OrderedBy x hb l      some total order of the events meets happens-before and the bars of the list l
use Rattle.std.specs.Prelude.{Bool, List, ℕ, length}
use Rattle.basis.specs.Test.{those}
use Rattle.format.specs.Execution.{Execution}
use Rattle.orders.specs.Posed.{Triple, triples, posed}
use Rattle.orders.specs.Order.{Meets}
use Rattle.model.specs.Bar.{bar}

-- 02 §8: "A bar is a triple (R, W, V) of three different events from which 01's (a), (b) or (c) forbids W, V, R in that order. List all bars once
-- each, rising by (R, W, V)."
abbrev pub all_bars : Execution → (ℕ → ℕ → Bool) → List Triple
all_bars x hb = those (λ (b : Triple). bar x hb b.0 b.1.0 b.1.1) (triples (length x.events))

-- 02 §8: "the remaining bars together with happens-before still leave no order" is its opposite
abbrev pub OrderedBy : Execution → (ℕ → ℕ → Bool) → List Triple → Type 0
OrderedBy x hb l = (o : List ℕ) × Meets (posed (length x.events) hb l) o

-- Total orders that meet the rules (01, "Rules", below the table). Laws: proofs/OrderLaws.antt.
--     problem x hb     what an order of the events of x has to meet: `Meets (problem x hb) o`, `FirstOf (Meets (problem x hb)) o`
-- 01: "A total order of all events meets the rules when it contains happens-before and there is no row (R, W) and writing sc event V placed
-- after W and before R with any of: (a) .. (b) .. (c)". `Meets P o` (orders/specs/Order.antt) says: o names every event once; what is `Before`
-- stands before; and no `Bar` (R, W, V) has W before V and V before R in o. 01: "Of all such orders the first, compared event number by event
-- number, is reported" is `FirstOf` (orders/specs/First.antt).
-- Assumes nothing.
use Rattle.std.specs.Prelude.{Bool, ℕ, T, length}
use Rattle.format.specs.Execution.{Execution}
use Rattle.orders.specs.Problem.{Problem}
use Rattle.model.specs.Bar.{bar}

abbrev pub problem : Execution → (ℕ → ℕ → Bool) → Problem
problem x hb = record { events = length x.events; Before = λ e d. T (hb e d); Bar = λ r w v. T (bar x hb r w v) }

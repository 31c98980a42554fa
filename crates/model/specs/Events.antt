-- The events of an execution by their numbers, and the accesses that a rule looks at. Laws: proofs/EventsLaws.antt.
--     numbers x           the numbers of all events
--     at_row x r e         the access of event e at the row's byte          of_reader x r, of_writer x r     the row's own two accesses
--     any_two f a b        some access of event a and some access of event b pass
-- 02 §11: "taken access by access". Today an event has one access, and then these are 01's sentences over events: proofs/Single.antt.
-- Assumes nothing.
use Rattle.std.specs.Prelude.{Bool, List, ℕ, length}
use Rattle.basis.specs.Test.{any, from}
use Rattle.format.specs.declared.Shape.{Shape}
use Rattle.format.specs.declared.Row.{Row}
use Rattle.format.specs.Event.{Access, Event, shape_at}
use Rattle.format.specs.Execution.{Execution, event}

-- 01: "Events are numbered from 0 as they appear."
unfoldable pub numbers : Execution → List ℕ
numbers x = from 0 (length x.events)

-- the access of event e that covers the row's byte
unfoldable pub at_row : Execution → Row → ℕ → Shape
at_row x r e = shape_at (event x e) r.address

abbrev pub of_reader : Execution → Row → Shape
of_reader x r = at_row x r r.reader

abbrev pub of_writer : Execution → Row → Shape
of_writer x r = at_row x r r.writer

unfoldable pub any_two : (Shape → Shape → Bool) → Event → Event → Bool
any_two f a b = any (λ (p : Access). any (λ (q : Access). f p.shape q.shape) b.accesses) a.accesses

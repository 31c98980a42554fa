-- What the private steps of this crate answer: an event by its number, where there may be none; what keeps an init from standing behind an event.
-- Laws: proofs/ByNumberLaws.antt. What the crate promises stands in crates/content/specs/Content.antt.
--     shape_no, agent_no     of event e
--     blocks a d           d is no init, or overlaps a
-- Assumes nothing.
use Rattle.std.specs.Prelude.{Bool, cond, List, ℕ, min, ltb, length, get_or}
use Rattle.basis.specs.Test.{◌or◌, non}
use Rattle.format.specs.declared.Shape.{Shape}
use Rattle.format.specs.Shape.{no_shape}
use Rattle.format.specs.Event.{Event, is_init, meets}
use Rattle.format.specs.Field.{rest_at}
use Rattle.format.specs.Layout.{agent_of, shape_of}
use Rattle.entries.specs.declared.Counts.{Counts}

unfoldable pub shape_no : List ℕ → Counts → List ℕ → ℕ → Shape
shape_no s x at e = cond (ltb e (min x.events (length at))) (shape_of x.head.edition (rest_at s (get_or at e 0))) no_shape

unfoldable pub agent_no : List ℕ → Counts → List ℕ → ℕ → ℕ
agent_no s x at e = cond (ltb e (min x.events (length at))) (agent_of (rest_at s (get_or at e 0))) 0

unfoldable pub blocks : Shape → Event → Bool
blocks a d = non (is_init d) or meets a d

-- `spot::noted` meets its contract: an agent among the slots counts by its number. Assumes nothing.
use mathlib.Core.Path.{refl, ◌∙◌}
use borrow.Author.Tests.{lt-ltb, le-ltb}
use native.Mathlib.Omega.{arith}
use Rattle.sets.specs.Mask.{slots, insert}
use Rattle.sets.proofs.MaskLaws.{at_slot}
use Rattle.spot.proofs.noted.Goals as goal

pub returns-then-agent-lt-SLOTS : goal.returns-then-agent-lt-SLOTS
returns-then-agent-lt-SLOTS c = rw (lt-ltb c.args.agent slots c.if-agent-lt-SLOTS.true) (c.with.ensures ∙ at_slot (insert c.args.agents) c.args.agent c.if-agent-lt-SLOTS.true)

pub returns : goal.returns
returns c = rw (le-ltb c.args.agent slots (omega (arith, c.if-agent-lt-SLOTS.false))) refl

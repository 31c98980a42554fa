-- `steps_c::steps_bars` meets its contract: what `bars::fill` leaves, and the word of what `settle` answers. Assumes nothing.
use mathlib.Core.Path.{◌∙◌, ap}
use Rattle.answer.specs.declared.Settled.{Settled}
use Rattle.answer.specs.declared.Answer.TheVariants.{Consistent}
use Rattle.answer.specs.Word.{packed}
use Rattle.steps_c.proofs.steps_bars.Goals as goal

pub returns : goal.returns
returns c = record { filled = c.fill.ensures; word = c.pack.ensures ∙ ap (λ (s : Settled). packed (Consistent s)) c.settle-settled.ensures }

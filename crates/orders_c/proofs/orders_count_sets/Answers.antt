-- `orders_count_sets` meets its contract: the number, or all bits where there is none. Assumes nothing.
use mathlib.Core.Path.{◌∙◌}
use Rattle.orders_c.proofs.ExportedLaws.{number_or}
use Rattle.orders_c.proofs.orders_count_sets.Goals as goal

pub returns : goal.returns
returns c = record { answer = c.count_sets-answer.result; is = c.count_sets-answer.ensures; number = c.unwrap_or.ensures ∙ number_or c.count_sets-answer.result }

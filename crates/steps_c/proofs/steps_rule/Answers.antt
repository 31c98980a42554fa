-- `steps_c::steps_rule` meets its contract: case by case the word of the rule that `first_broken` answers. Assumes nothing.
use mathlib.Core.Path.{◌∙◌, sym, ap}
use Rattle.steps_c.specs.Exported.{rule_word}
use Rattle.steps_c.proofs.steps_rule.Goals as goal

pub returns-in-Ok : goal.returns-in-Ok
returns-in-Ok c = record { ordered = c.fill.ensures; word = sym (ap rule_word c.in-Ok.is) ∙ ap rule_word c.first_broken-rule.ensures }

pub returns-in-Err : goal.returns-in-Err
returns-in-Err c = record { ordered = c.fill.ensures; word = c.pack.ensures ∙ sym (ap rule_word c.in-Err.is) ∙ ap rule_word c.first_broken-rule.ensures }

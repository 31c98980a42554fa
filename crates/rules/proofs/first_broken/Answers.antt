-- `rules::first_broken` meets its contract: 21, and where it is kept the rest. Assumes nothing.
use mathlib.Core.Path.{◌≡◌, sym, ◌∙◌}
use Rattle.std.proofs.Common.{rules, Err}
use Rattle.answer.proofs.RulesLaws.{also_here, also_later}
use Rattle.rules.specs.Rules.{rule_in}
use Rattle.rules.proofs.first_broken.Goals as goal

pub returns-in_err-bytes : goal.returns-in_err-bytes
unfolding rule_in
returns-in_err-bytes c =
    let k : c.from_residual.result ≡ Err c.in_err-bytes.field-0.0 = search rules in
    k ∙ also_here _ (sym c.in_err-bytes.was ∙ c.bytes.ensures)

pub returns : goal.returns
unfolding rule_in
returns c = also_later (sym c.in_ok-bytes.was ∙ c.bytes.ensures) c.rest.ensures

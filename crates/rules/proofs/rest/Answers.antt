-- `rules::rest` meets its contract: each rule, where those before it found nothing. Assumes nothing.
use mathlib.Core.Path.{◌≡◌, sym, ◌∙◌}
use Rattle.std.proofs.Common.{rules, Err}
use Rattle.answer.proofs.RulesLaws.{also_here, also_later}
use Rattle.rules.specs.Rules.{rest_in}
use Rattle.rules.proofs.rest.Goals as goal

pub returns-in_err-rule22 : goal.returns-in_err-rule22
unfolding rest_in
returns-in_err-rule22 c =
    let k : c.from_residual.result ≡ Err c.in_err-rule22.field-0.0 = search rules in
    k ∙ also_here _ (sym c.in_err-rule22.was ∙ c.rule22.ensures)

pub returns-in_err-rule23 : goal.returns-in_err-rule23
unfolding rest_in
returns-in_err-rule23 c =
    let k : c.from_residual-in_err-rule23.result ≡ Err c.in_err-rule23.field-0.0 = search rules in
    also_later (sym c.in_ok-rule22.was ∙ c.rule22.ensures) (k ∙ also_here _ (sym c.in_err-rule23.was ∙ c.rule23.ensures))

pub returns-in_err-rule24 : goal.returns-in_err-rule24
unfolding rest_in
returns-in_err-rule24 c =
    let k : c.from_residual-in_err-rule24.result ≡ Err c.in_err-rule24.field-0.0 = search rules in
    also_later (sym c.in_ok-rule22.was ∙ c.rule22.ensures) (also_later (sym c.in_ok-rule23.was ∙ c.rule23.ensures) (k ∙ also_here _ (sym c.in_err-rule24.was ∙ c.rule24.ensures)))

pub returns : goal.returns
unfolding rest_in
returns c = also_later (sym c.in_ok-rule22.was ∙ c.rule22.ensures) (also_later (sym c.in_ok-rule23.was ∙ c.rule23.ensures) (also_later (sym c.in_ok-rule24.was ∙ c.rule24.ensures) c.rule25.ensures))

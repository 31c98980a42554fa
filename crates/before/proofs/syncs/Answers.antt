-- `before::syncs` meets its contract, by the writer's mode. Assumes nothing.
use mathlib.Core.Path.{sym, ap, ◌∙◌}
use Prim.Native.Nat.{◌%◌}
use Rattle.basis.proofs.BoolLaws.{and_fails}
use Rattle.format.specs.Shape.{sc, both_sc}
use Rattle.sets.specs.Mask.{slots}
use Rattle.tables.specs.Tables.{at_in}
use Rattle.before.specs.Before.{sync_in}
use Rattle.before.proofs.syncs.Goals as goal

pub returns-then-not-sc : goal.returns-then-not-sc
unfolding sync_in both_sc
returns-then-not-sc c =
    let w = at_in c.args.t.now (c.args.r.writer % slots) c.args.r.address in
    sym (and_fails (sc w) _ (ap sc (sym c.at-w.ensures) ∙ sym c.sc.ensures ∙ c.if-not-sc.true))

pub returns : goal.returns
unfolding sync_in
returns c = c.both_sc.ensures ∙ (λ z. both_sc (c.at-w.ensures z) (c.at.ensures z))

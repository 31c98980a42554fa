-- `before::syncs_first` meets its contract, by the first accesses. Assumes nothing.
use mathlib.Core.Path.{ap, ◌∙◌}
use native.Mathlib.Nat.{mod-eq_of_lt}
use native.Mathlib.Omega.{arith}
use Rattle.format.specs.Shape.{covers, both_sc}
use Rattle.tables.specs.Tables.{shape_in}
use Rattle.before.proofs.RowLaws.{sync_first}
use Rattle.before.proofs.syncs_first.Goals as goal

pub returns : goal.returns
returns c =
    let t = c.args.t.now in
    let r = c.args.r in
    let a = c.shape-a.ensures ∙ ap (shape_in t) (mod-eq_of_lt (omega arith)) in
    let b = c.shape-b.ensures ∙ ap (shape_in t) (mod-eq_of_lt (omega arith)) in
    sync_first t c.requires r c.both_sc.result c.covers.result (c.both_sc.ensures ∙ (λ i. both_sc (a i) (b i))) (c.covers.ensures ∙ ap (λ x. covers x r.address) a)

-- `before::join` meets its contract. Assumes nothing.
use mathlib.Core.Path.{ap, ◌∙◌, subst}
use native.Mathlib.Nat.{mod-eq_of_lt}
use Prim.Native.Nat.{ℕ}
use lib.ListN.{get_or}
use Rattle.sets.specs.Mask.{insert}
use Rattle.before.specs.steps.Linked.{Grew}
use Rattle.before.proofs.join.Goals as goal

pub returns : goal.returns
returns c =
    let is = c.with-u.ensures ∙ ap (insert (get_or c.args.cols.now c.args.a 0)) (mod-eq_of_lt c.requires.0) in
    record {
      rows = subst (λ (x : ℕ). Grew x c.args.d c.args.succ.now c.grow.new.masks) is c.grow.ensures;
      columns = subst (λ (x : ℕ). Grew c.args.d x c.args.cols.now c.grow-2.new.masks) is c.grow-2.ensures;
    }

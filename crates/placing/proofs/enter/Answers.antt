-- `placing::enter` meets its contract: what a step on stores. Assumes nothing.
use mathlib.Core.Path.{refl, sym, ap, ◌∙◌}
use Prim.Native.Nat.{ℕ, ◌%◌}
use lib.Seq.{set_out}
use Rattle.sets.specs.Mask.{slots, above}
use Rattle.marks.specs.Table.{marking}
use Rattle.placing.proofs.enter.Goals as goal

pub returns-then-depth-path : goal.returns-then-depth-path
returns-then-depth-path c =
    let a = c.args in
    record {
      grown = c.with-t.ensures;
      marked = c.mark.ensures ∙ ap (marking a.table.now) (c.above-x.ensures ∙ ap (λ (x : ℕ). above x (a.k % slots)) c.with-t.ensures);
      stored = refl;
    }

pub returns-else-depth-path : goal.returns-else-depth-path
returns-else-depth-path c =
    let a = c.args in
    record {
      grown = c.with-t.ensures;
      marked = c.mark.ensures ∙ ap (marking a.table.now) (c.above-x.ensures ∙ ap (λ (x : ℕ). above x (a.k % slots)) c.with-t.ensures);
      stored = sym (set_out a.path.now a.depth _ c.if-depth-path.false);
    }

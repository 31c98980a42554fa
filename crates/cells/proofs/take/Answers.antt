-- `cells::take` meets its contract, by the test. Assumes nothing.
use mathlib.Core.Path.{sym, ap, ◌∙◌}
use mathlib.Core.Bool.{Bool, cond}
use Prim.Native.Nat.{◌%◌}
use Rattle.sets.specs.Mask.{slots, insert}
use Rattle.cells.proofs.take.Goals as goal

pub returns-then-test : goal.returns-then-test
returns-then-test c = c.with.ensures ∙ sym (ap (λ (b : Bool). cond b (insert c.args.m (c.args.e % slots)) c.args.m) c.if-test.true)

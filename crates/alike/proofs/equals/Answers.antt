-- `alike::equals` meets its contract: the keys, then what first accesses give and, where one is sc, what second ones do. Assumes nothing.
use mathlib.Core.Path.{ap, ◌∙◌}
use Prim.Native.Nat.{min}
use native.Mathlib.Omega.{arith}
use Rattle.sets.specs.Mask.{slots}
use Rattle.alike.specs.Ranges.{side_in, equals_on}
use Rattle.alike.proofs.SingleLaws.{first_side}
use Rattle.alike.proofs.equals.Goals as goal

pub returns-then-single : goal.returns-then-single
returns-then-single c =
    let a = c.args in
    c.side.ensures ∙ first_side a.t.now (min a.n slots) (omega arith) (c.single.ensures.holds c.if-single.true) a.eq.now

pub returns : goal.returns
unfolding equals_on
returns c =
    let a = c.args in
    c.side-2.ensures ∙ ap (side_in a.t.now (min a.n slots) 1) c.side.ensures

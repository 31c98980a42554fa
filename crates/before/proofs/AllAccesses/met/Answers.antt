-- `before::All::met` meets its contract, by `own::met`. Assumes nothing.
use mathlib.Core.Path.{◌≡◌, ◌∙◌}
use Prim.Native.Nat.{◌%◌, min}
use native.Mathlib.Nat.{mod-eq_of_lt}
use native.Mathlib.Omega.{arith}
use Rattle.sets.specs.Mask.{slots}
use Rattle.cells.specs.Walk.{picked}
use Rattle.own.specs.Own.{met_in}
use Rattle.before.proofs.AllAccesses.met.Goals as goal

pub returns : goal.returns
returns c =
    let all : min c.args.n slots ≡ c.args.n = omega (arith, c.requires.0) in
    let slot : c.args.e % slots ≡ c.args.e = mod-eq_of_lt c.requires.1 in
    c.met.ensures ∙ (λ i. picked (all i) (met_in c.args.self.now.t.now (slot i)))

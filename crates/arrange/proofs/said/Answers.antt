-- `arrange::said` meets its contract: by what was found. Assumes nothing.
use mathlib.Core.Path.{sym, ap, ◌∙◌}
use mathlib.Core.Bool.{Bool}
use Prim.Native.Nat.{min}
use Rattle.sets.specs.Mask.{slots}
use Rattle.answer.specs.declared.Settled.{Settled}
use Rattle.answer.specs.declared.Answer.TheVariants.{Consistent}
use Rattle.settle.specs.Settle.{settled_in}
use Rattle.arrange.specs.Arranged.{said_of}
use Rattle.arrange.proofs.said.Goals as goal

pub returns-then-not-found : goal.returns-then-not-found
returns-then-not-found c =
    let a = c.args in
    ap (λ (b : Bool). said_of b (settled_in a.t.now a.succ.now (min a.events slots))) (sym c.if-not-found.true)

pub returns : goal.returns
returns c =
    let a = c.args in
    ap (λ (z : Settled). Consistent z) c.settle-settled.ensures
    ∙ ap (λ (b : Bool). said_of b (settled_in a.t.now a.succ.now (min a.events slots))) (sym c.if-not-found.false)

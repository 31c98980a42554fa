-- `barred` meets its contract: what the first i entries stop. Assumes nothing.
use mathlib.Core.Path.{◌≡◌, subst}
use Prim.Native.Nat.{ℕ}
use native.Mathlib.Omega.{arith}
use Rattle.glides.specs.steps.Glide.{Barred}
use Rattle.glides.proofs.GlideLaws.{barred_none, barred_more}
use Rattle.glides.proofs.Entries.barred.Goals as goal

pub loop-i-init : goal.loop-i-init
loop-i-init c =
    let l = c.args.self.now in
    (omega arith, barred_none l.between.now l.readers.now l.writers.now c.args.s)

pub loop-i-preserved : goal.loop-i-preserved
loop-i-preserved c =
    let l = c.args.self.now in
    (omega arith, rw (c.only-c.ensures, c.has.ensures, c.has-in-loop-i.ensures) (barred_more l.between.now l.readers.now l.writers.now c.args.s c.loop-i.invariant.1))

pub returns : goal.returns
returns c =
    let l = c.args.self.now in
    let e : c.loop-i.i ≡ l.n = omega arith in
    subst (λ (x : ℕ). Barred l.between.now l.readers.now l.writers.now x c.args.s c.loop-i.c) e c.loop-i.invariant.1

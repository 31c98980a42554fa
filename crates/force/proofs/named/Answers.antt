-- `force::named` meets its contract: c has the writers of the events so far. Assumes nothing.
use Rattle.std.proofs.Common.{◌≡◌, ℕ, min, subst, arith}
use Rattle.std.proofs.lemmas.List.{get_or-take, length-take-le}
use Rattle.sets.specs.Mask.{slots, Within, full}
use Rattle.force.proofs.ForcedLaws.{Gathering, named_none, named_more, named_end}
use Rattle.force.proofs.named.Goals as goal

pub loop-w-init : goal.loop-w-init
loop-w-init c = named_none c.args.writers.now

pub loop-w-preserved : goal.loop-w-preserved
loop-w-preserved c =
    let l = c.loop-w in
    let z = length-take-le c.args.m c.args.writers.now (omega (arith, c.requires)) in
    rw (get_or-take c.args.m c.args.writers.now l.w-index 0 (omega (arith, z))) (named_more c.args.writers.now l.w-index l.c l.invariant)

pub returns : goal.returns
returns c z =
    let k = length-take-le c.args.m c.args.writers.now (omega (arith, c.requires)) in
    let e : c.loop-w.w-index ≡ c.args.m = omega (arith, k) in
    let n : min c.args.m slots ≡ c.args.m = omega (arith, c.requires) in
    let w = subst (λ (x : ℕ). Within c.loop-w.c x) c.full.ensures (c.subset.ensures.holds z) in
    named_end c.args.m c.args.writers.now c.loop-w.c
    (subst (λ (x : ℕ). Gathering c.args.writers.now x c.loop-w.c) e c.loop-w.invariant)
    (subst (λ (x : ℕ). Within c.loop-w.c (full x)) n w)

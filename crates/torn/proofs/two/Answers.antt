-- `torn::two` meets its contract: the second is the lowest of what is left without the first. Assumes nothing.
use Rattle.std.proofs.Common.{ℕ, ◌%◌, subst, arith}
use Rattle.sets.specs.Mask.{slots, Lowest}
use Rattle.sets.specs.Mask.{remove}
use Rattle.torn.proofs.TwoLaws.{two_found, two_first, two_last}
use Rattle.torn.proofs.two.Goals as goal

pub overflow_mul-result : goal.overflow_mul-result
overflow_mul-result c =
    let low : Lowest (remove c.args.m (c.lowest-w.result % slots)) c.lowest-v.result = subst (λ (x : ℕ). Lowest x c.lowest-v.result) c.without.ensures c.lowest-v.ensures in
    let t = (two_found c.args.m c.lowest-w.result c.lowest-v.result c.ranges.m.fits c.lowest-w.ensures low c.if-v-lt-SLOTS.true).rising in
    omega arith

pub overflow_add-result : goal.overflow_add-result
overflow_add-result c =
    let low : Lowest (remove c.args.m (c.lowest-w.result % slots)) c.lowest-v.result = subst (λ (x : ℕ). Lowest x c.lowest-v.result) c.without.ensures c.lowest-v.ensures in
    let t = (two_found c.args.m c.lowest-w.result c.lowest-v.result c.ranges.m.fits c.lowest-w.ensures low c.if-v-lt-SLOTS.true).rising in
    omega arith

pub returns-then-v-lt-SLOTS : goal.returns-then-v-lt-SLOTS
returns-then-v-lt-SLOTS c =
    let low : Lowest (remove c.args.m (c.lowest-w.result % slots)) c.lowest-v.result = subst (λ (x : ℕ). Lowest x c.lowest-v.result) c.without.ensures c.lowest-v.ensures in
    two_first c.args.m c.lowest-w.result c.lowest-v.result c.ranges.m.fits c.lowest-w.ensures low c.if-v-lt-SLOTS.true

pub returns : goal.returns
returns c =
    let low : Lowest (remove c.args.m (c.lowest-w.result % slots)) c.lowest-v.result = subst (λ (x : ℕ). Lowest x c.lowest-v.result) c.without.ensures c.lowest-v.ensures in
    two_last c.args.m c.lowest-w.result c.lowest-v.result c.ranges.m.fits c.lowest-w.ensures low c.if-v-lt-SLOTS.false

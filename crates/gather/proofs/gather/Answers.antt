-- `gather::gather` meets its contract: the first v masks are gathered, and the others are as they were. Assumes nothing.
use mathlib.Core.Path.{◌≡◌, sym, subst}
use mathlib.Core.List.{◌++◌}
use Prim.Native.Nat.{ℕ}
use native.Mathlib.Omega.{arith}
use borrow.Author.Count.{below_more}
use lib.ListN.{length, get_or, set, drop}
use lib.Seq.{get_or-set_same, get_or-set_other}
use Rattle.std.proofs.lemmas.List.{length-take-le}
use Rattle.gather.specs.Writers.{Writers, Gathers}
use Rattle.gather.proofs.WritersLaws.{gathers_part}
use Rattle.gather.proofs.gather.Goals as goal

pub loop-v-init : goal.loop-v-init
loop-v-init c = λ x h. absurd (omega arith)

pub writers_of-requires : goal.writers_of-requires
writers_of-requires c =
    let e = c.least-n.ensures in
    let f = c.least-room.ensures in
    let z = length-take-le c.least-room.result c.args.writers.now (omega arith) in
    (omega (arith, e), omega (arith, e, f, z))

pub loop-v-preserved : goal.loop-v-preserved
loop-v-preserved c =
    let l = c.loop-v in
    let r = c.writers_of.result in
    below_more (λ (x : ℕ). Writers c.least-n.result c.args.bars.now x (get_or (set l.c-items l.v r) x 0)) l.v
    (λ x h. subst (Writers c.least-n.result c.args.bars.now x) (sym (get_or-set_other l.c-items l.v x r 0 (λ q. omega arith))) (l.invariant x h))
    (subst (Writers c.least-n.result c.args.bars.now l.v) (sym (get_or-set_same l.c-items l.v r 0 (omega arith))) c.writers_of.ensures)

pub returns : goal.returns
returns c =
    let l = c.loop-v in
    let ws = c.args.writers.now in
    let z = length-take-le c.least-room.result ws (omega arith) in
    let size : length l.c-items ≡ c.least-room.result = omega (arith, z) in
    subst (λ (n : ℕ). Gathers n c.args.bars.now ws (l.c-items ++ drop c.least-room.result ws)) c.least-n.ensures
    (gathers_part l.c-items c.least-room.ensures size (λ v h. l.invariant v (omega (arith, z))))

-- `gather::writers_of` meets its contract: c has the writers below w. Assumes nothing.
use mathlib.Core.Path.{◌≡◌, sym, ap, ◌∙◌, subst}
use Prim.Native.Nat.{ℕ, ◌+◌, ◌-◌, ◌*◌, ◌%◌, ◌<◌}
use native.Mathlib.Nat.{mod-eq_of_lt}
use native.Mathlib.Omega.{arith}
use Rattle.sets.specs.Mask.{slots, insert}
use Rattle.gather.specs.Writers.{Writers}
use Rattle.gather.proofs.WritersLaws.{writers_empty, writers_none, writers_in_lem, writers_out, row_length, row_at}
use Rattle.gather.proofs.writers_of.Goals.{then-readers-ne0, else-readers-ne0}
use Rattle.gather.proofs.writers_of.Goals as goal

pub returns-then-readers_of-eq0 : goal.returns-then-readers_of-eq0
returns-then-readers_of-eq0 c = writers_empty c.args.m c.args.bars.now c.args.v c.readers_of.result c.requires.0 c.readers_of.ensures c.if-readers_of-eq0.true

pub loop-w-init : goal.loop-w-init
loop-w-init c = writers_none c.args.bars.now c.args.v

pub loop-w-preserved : goal.loop-w-preserved
loop-w-preserved c =
    let l = c.loop-w in
    let bars = c.args.bars.now in
    let v = c.args.v in
    let n = v * 32 + c.args.m - v * 32 in
    let z = row_length bars (v * 32) n (omega arith) in
    let inside : l.w < c.args.m = omega (arith, z) in
    let at = row_at bars (v * 32) n l.w (omega arith) in
    let slot : l.w % slots ≡ l.w = mod-eq_of_lt (omega arith) in
    elim c.if-readers-ne0.branch [
      | then-readers-ne0 x ↦ subst (Writers (l.w + 1) bars v) (sym (x.c-is ∙ x.with-c.ensures ∙ ap (insert l.c) slot)) (writers_in_lem l.invariant (λ e. x.if-readers-ne0.true (at ∙ e)))
      | else-readers-ne0 x ↦ subst (Writers (l.w + 1) bars v) (sym x.c-is) (writers_out l.invariant (sym at ∙ x.if-readers-ne0.false))
    ]

pub returns : goal.returns
returns c =
    let l = c.loop-w in
    let bars = c.args.bars.now in
    let v = c.args.v in
    let z = row_length bars (v * 32) (v * 32 + c.args.m - v * 32) (omega arith) in
    let e : l.w ≡ c.args.m = omega (arith, z) in
    subst (λ (x : ℕ). Writers x bars v l.c) e l.invariant

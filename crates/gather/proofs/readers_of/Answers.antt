-- `gather::readers_of` meets its contract: c has the readers of the writers so far. Assumes nothing.
use mathlib.Core.Path.{◌≡◌, subst}
use Prim.Native.Nat.{ℕ, ◌+◌, ◌-◌, ◌*◌}
use native.Mathlib.Omega.{arith}
use Rattle.sets.specs.Mask.{slots}
use Rattle.gather.specs.Writers.{Readers}
use Rattle.gather.proofs.WritersLaws.{readers_none, readers_more, row_length, row_at}
use Rattle.gather.proofs.readers_of.Goals as goal

pub loop-readers-init : goal.loop-readers-init
loop-readers-init c = readers_none c.args.bars.now c.args.v

pub loop-readers-preserved : goal.loop-readers-preserved
loop-readers-preserved c =
    let l = c.loop-readers in
    let bars = c.args.bars.now in
    let v = c.args.v in
    let z = row_length bars (v * 32) ((v + 1) * 32 - v * 32) (omega arith) in
    let x = row_at bars (v * 32) ((v + 1) * 32 - v * 32) l.readers-index (omega (arith, z)) in
    rw x (readers_more bars v l.readers-index l.c l.invariant)

pub returns : goal.returns
returns c =
    let l = c.loop-readers in
    let bars = c.args.bars.now in
    let v = c.args.v in
    let z = row_length bars (v * 32) ((v + 1) * 32 - v * 32) (omega arith) in
    let e : l.readers-index ≡ slots = omega (arith, z) in
    subst (λ (x : ℕ). Readers x bars v l.c) e l.invariant

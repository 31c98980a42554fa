-- `sift::cover` meets its contract: the masks so far have gained x. Assumes nothing.
use mathlib.Core.Path.{◌≡◌, sym, subst}
use Prim.Native.Nat.{ℕ, ◌+◌, ◌-◌, min}
use native.Mathlib.Omega.{arith}
use borrow.Rule.Slice.PartMut.{put_mid, put_same, mid_len}
use Rattle.sift.specs.Cover.{Covered}
use Rattle.sift.proofs.CoverLaws.{covered_none, covered_part}
use Rattle.sift.proofs.cover.Goals as goal

pub loop-byte-init : goal.loop-byte-init
loop-byte-init c =
    let a = c.args in
    let w = c.least-w.result in
    subst (Covered a.k (min w 0) a.x a.bytes.now) (sym (put_same a.k (a.k + w - a.k) a.bytes.now)) (covered_none a.k w a.x a.bytes.now)

pub loop-byte-preserved : goal.loop-byte-preserved
loop-byte-preserved c =
    let l = c.loop-byte in
    let a = c.args in
    let w = c.least-w.result in
    let z = c.least-w.ensures in
    let m = mid_len a.k (a.k + w) a.bytes.now (omega (arith, c.told-bytes, c.requires, z)) in
    covered_part a.k w a.x l.byte-index (a.k + w - a.k) a.bytes.now l.byte-items (omega (arith, c.told-bytes, c.requires)) (omega (arith, c.loop-byte-test.true, l.auto.byte-items)) (omega (arith, c.loop-byte-test.true, m)) l.invariant

pub returns : goal.returns
returns c =
    let l = c.loop-byte in
    let a = c.args in
    let w = c.least-w.result in
    let z = c.least-w.ensures in
    let m = mid_len a.k (a.k + w) a.bytes.now (omega (arith, c.told-bytes, c.requires, z)) in
    let e : min w l.byte-index ≡ min a.width 8 = omega (arith, c.loop-byte-test.false, m, z) in
    subst (λ (n : ℕ). Covered a.k n a.x a.bytes.now (put_mid a.k (a.k + w - a.k) a.bytes.now l.byte-items)) e l.invariant

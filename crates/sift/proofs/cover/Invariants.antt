-- `sift::cover` meets its contract: the masks so far have gained x. Assumes nothing.
use Prim.Native.Nat.{◌+◌, ◌-◌, min}
use borrow.Rule.Slice.PartMut.{put_mid}
use Rattle.sift.specs.Cover.{Covered}
use Rattle.sift.proofs.cover.Given as goal

abbrev pub invariant-loop-byte : goal.invariant-loop-byte
invariant-loop-byte l = Covered l.k (min l.w l.byte-index) l.x l.fn.bytes (put_mid l.k (l.k + l.w - l.k) l.fn.bytes l.byte-items)

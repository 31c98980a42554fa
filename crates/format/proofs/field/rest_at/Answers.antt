-- `format::field::rest_at` meets its contract: all that is left, or nothing. Assumes nothing.
use mathlib.Core.Path.{sym}
use native.Mathlib.Omega.{arith}
use Prim.Native.Nat.{◌+◌, ◌-◌}
use lib.ListN.{length, drop, length-drop, drop_of_length-le}
use lib.Seq.{take_all}
use Rattle.format.proofs.field.rest_at.Goals as goal

pub returns-then-from-s : goal.returns-then-from-s
returns-then-from-s c =
    let s = c.args.s.now in
    take_all (length s - (c.args.at + 3)) (drop (c.args.at + 3) s) (simp length-drop (omega arith))

pub returns-else-from-s : goal.returns-else-from-s
returns-else-from-s c = sym (drop_of_length-le c.args.s.now {i = c.args.at + 3} (omega arith))

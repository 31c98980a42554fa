-- `row_data::passed` meets its contract: nothing, or the width. Assumes nothing.
use Rattle.std.proofs.Common.{◌≡◌, ℕ, ◌*◌, ◌≤◌, Bool, true, false, arith}
use Rattle.std.specs.Prelude.{cond, eqb}
use mir.Val.{bool_byte}
use Rattle.row_data.proofs.passed.Goals as goal

by_test : (b : Bool) (w : ℕ) → bool_byte b * w ≡ cond b w 0
by_test true w = omega arith
by_test false w = omega arith

at_most : (b : Bool) (w : ℕ) → w ≤ 255 → cond b w 0 ≤ 255
at_most true w h = h
at_most false w h = omega arith

pub overflow_mul-result : goal.overflow_mul-result
overflow_mul-result c = let e = by_test (eqb c.args.b.kind 3) c.args.b.width in let m = at_most (eqb c.args.b.kind 3) c.args.b.width (omega arith) in omega arith

pub returns : goal.returns
returns c = by_test (eqb c.args.b.kind 3) c.args.b.width

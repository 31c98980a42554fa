-- `verdict::judge` lends buffers that are enough for every sheet. Rests on the writes of std.
use mathlib.Core.Path.{refl}
use native.Mathlib.Omega.{arith}
use Rattle.verdict.proofs.judge.Goals as goal

pub answer-requires : goal.answer-requires
answer-requires c = record { scratch_holds = omega arith; order_holds = omega arith; order_unused = refl; line_holds = omega arith }

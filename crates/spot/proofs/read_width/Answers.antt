-- `spot::read_width` meets its contract: nothing, or the width. Assumes nothing.
use mathlib.Core.Path.{ap, ◌∙◌}
use mathlib.Core.Bool.{Bool, cond}
use native.Mathlib.Omega.{arith}
use Rattle.spot.proofs.TallyLaws.{by_test, at_most}
use Rattle.spot.proofs.read_width.Goals as goal

pub overflow_mul-result : goal.overflow_mul-result
overflow_mul-result c = let e = by_test c.reads.result c.args.a.width in let m = at_most c.reads.result c.args.a.width (omega arith) in omega arith

pub returns : goal.returns
returns c = (by_test c.reads.result c.args.a.width ∙ ap (λ (b : Bool). cond b c.args.a.width 0) c.reads.ensures, (let e = by_test c.reads.result c.args.a.width in let m = at_most c.reads.result c.args.a.width (omega arith) in omega arith))

-- `bars::covered` meets its contract, test by test. Assumes nothing.
use mathlib.Core.Path.{◌≡◌, ap, ◌∙◌}
use Prim.Native.Nat.{◌*◌, ◌%◌}
use native.Mathlib.Nat.{mod-eq_of_lt}
use native.Mathlib.Omega.{arith}
use Rattle.format.specs.declared.Shape.{Shape}
use Rattle.format.specs.Shape.{covers}
use Rattle.sets.specs.Mask.{slots}
use Rattle.tables.specs.Tables.{accesses, shape_in}
use Rattle.bars.proofs.CoveredLaws.{covered_is}
use Rattle.bars.proofs.covered.Goals as goal

pub returns : goal.returns
returns c =
    let t = c.args.t.now in
    let r = c.args.r in
    let i : (2 * (r.reader % slots)) % accesses ≡ 2 * (r.reader % slots) = mod-eq_of_lt (omega arith) in
    let j : (2 * (r.writer % slots)) % accesses ≡ 2 * (r.writer % slots) = mod-eq_of_lt (omega arith) in
    covered_is t r c.covers.result c.covers-2.result
    (c.covers.ensures ∙ ap (λ (a : Shape). covers a r.address) (c.shape-a.ensures ∙ ap (shape_in t) i))
    (c.covers-2.ensures ∙ ap (λ (a : Shape). covers a r.address) (c.shape-b.ensures ∙ ap (shape_in t) j))

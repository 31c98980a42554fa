-- `plain::end_of` meets its contract: the greater of two ends. Assumes nothing.
use mathlib.Core.Path.{◌≡◌, ap}
use native.Mathlib.Omega.{arith}
use Rattle.format.specs.declared.Shape.{Shape}
use Rattle.format.specs.Field.{rest_at}
use Rattle.format.specs.Layout.{shape_of}
use Rattle.plain.proofs.end_of.Goals as goal

pub returns-then-high-end : goal.returns-then-high-end
returns-then-high-end c =
    let a = c.args in
    let b : Shape = shape_of 2 (rest_at a.s.now a.p) in
    let st : c.shape_here-a.result.start ≡ b.start = ap (λ (d : Shape). d.start) c.shape_here-a.ensures in
    let wd : c.shape_here-a.result.width ≡ b.width = ap (λ (d : Shape). d.width) c.shape_here-a.ensures in
    let l = c.if-high-end.true in
    (l, omega (arith, st, wd, l))

pub returns : goal.returns
returns c =
    let a = c.args in
    let b : Shape = shape_of 2 (rest_at a.s.now a.p) in
    let st : c.shape_here-a.result.start ≡ b.start = ap (λ (d : Shape). d.start) c.shape_here-a.ensures in
    let wd : c.shape_here-a.result.width ≡ b.width = ap (λ (d : Shape). d.width) c.shape_here-a.ensures in
    let l = c.if-high-end.false in
    (omega arith, omega (arith, st, wd, l))

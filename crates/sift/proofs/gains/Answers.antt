-- `sift::gains` meets its contract: the first e masks are done. The measure is what is left. Assumes nothing.
use mathlib.Core.Path.{◌≡◌, sym, ap, ◌∙◌}
use mathlib.Core.Bool.{Bool, cond}
use mathlib.Core.List.{List}
use Prim.Native.Nat.{ℕ, ◌+◌, ◌%◌}
use native.Mathlib.Omega.{arith}
use lib.Dec.{eqb}
use lib.ListN.{length, get_or, set}
use Rattle.sets.specs.Mask.{slots, insert}
use Rattle.cells.specs.Cells.{placing}
use Rattle.cells.proofs.CellsLaws.{placing_none, placing_more, placing_length, placing_beyond}
use Rattle.alike.specs.Ranges.{match}
use Rattle.sift.proofs.gains.Goals as goal

pub loop-e-init : goal.loop-e-init
loop-e-init c = (omega arith, c.requires, placing_none _ c.args.eq.now)

pub loop-e-preserved : goal.loop-e-preserved
loop-e-preserved c =
    let l = c.loop-e in
    let eq₀ = c.args.eq.now in
    let f : ℕ → Bool = λ (i : ℕ). eqb (get_or c.args.by.now i 0) c.args.x in
    let v = c.args.v % slots in
    let long : length eq₀ ≡ slots = c.requires in
    let same : get_or l.eq l.e 0 ≡ get_or eq₀ l.e 0 = ap (λ (y : List ℕ). get_or y l.e 0) l.invariant.2 ∙ placing_beyond (match f v eq₀) eq₀ l.e l.e (omega arith) in
    let next = ap (set l.eq l.e) (c.take.ensures ∙ ap (λ (x : ℕ). cond (f l.e) (insert x v) x) same)
    ∙ ap (λ (y : List ℕ). set y l.e (match f v eq₀ l.e)) l.invariant.2
    ∙ placing_more (match f v eq₀) eq₀ l.e in
    (omega arith, ap length next ∙ placing_length (match f v eq₀) eq₀ (l.e + 1) ∙ long, next)

pub shape_of-eq : goal.shape_of-eq
shape_of-eq c = c.loop-e.invariant.1 ∙ sym c.requires

pub returns : goal.returns
returns c =
    let a = c.args in
    let e : c.loop-e.e ≡ slots = omega arith in
    c.loop-e.invariant.2 ∙ ap (λ (x : ℕ). placing (match (λ (i : ℕ). eqb (get_or a.by.now i 0) a.x) (a.v % slots) a.eq.now) x a.eq.now) e

-- `alike::gains` meets its contract: the first k masks are done. The measure is what is left. Assumes nothing.
use mathlib.Core.Path.{◌≡◌, ap, ◌∙◌}
use mathlib.Core.Bool.{Bool, cond}
use mathlib.Core.List.{List}
use Prim.Native.Nat.{ℕ, ◌%◌, min}
use native.Mathlib.Omega.{arith}
use lib.Dec.{eqb}
use lib.ListN.{length, get_or, set}
use Rattle.sets.specs.Mask.{slots, insert}
use Rattle.tables.specs.Tables.{accesses}
use Rattle.cells.specs.Cells.{placing}
use Rattle.cells.proofs.CellsLaws.{placing_none, placing_more, placing_length, placing_beyond}
use Rattle.alike.specs.Ranges.{match}
use Rattle.alike.proofs.gains.Goals as goal

pub loop-k-init : goal.loop-k-init
loop-k-init c =
    let z = c.least.ensures in
    let y = c.least-m.ensures in
    (omega arith, omega arith, omega arith, placing_none _ c.args.eq.now)

pub bounds-eq-k : goal.bounds-eq-k
bounds-eq-k c =
    let z = ap length c.loop-k.invariant.3 ∙ placing_length _ c.args.eq.now c.loop-k.k in omega arith

pub bounds-eq-k-in-loop-k : goal.bounds-eq-k-in-loop-k
bounds-eq-k-in-loop-k c =
    let z = ap length c.loop-k.invariant.3 ∙ placing_length _ c.args.eq.now c.loop-k.k in omega arith

pub loop-k-preserved : goal.loop-k-preserved
loop-k-preserved c =
    let l = c.loop-k in
    let eq₀ = c.args.eq.now in
    let f : ℕ → Bool = λ (i : ℕ). eqb (get_or c.args.keys.now i 0) c.args.x in
    let v = c.args.v % slots in
    let same : get_or l.eq l.k 0 ≡ get_or eq₀ l.k 0 = ap (λ (y : List ℕ). get_or y l.k 0) l.invariant.3 ∙ placing_beyond (match f v eq₀) eq₀ l.k l.k (omega arith) in (
      omega arith,
      l.invariant.1,
      l.invariant.2,
      ap (set l.eq l.k) (c.take.ensures ∙ ap (λ (x : ℕ). cond (f l.k) (insert x v) x) same)
          ∙ ap (λ (y : List ℕ). set y l.k (match f v eq₀ l.k)) l.invariant.3
          ∙ placing_more (match f v eq₀) eq₀ l.k,
    )

pub shape_of-eq : goal.shape_of-eq
shape_of-eq c = ap length c.loop-k.invariant.3 ∙ placing_length _ c.args.eq.now c.loop-k.k

pub returns : goal.returns
returns c =
    let z = c.least.ensures in
    let y = c.least-m.ensures in
    let e : c.loop-k.k ≡ min c.args.n (min accesses (length c.args.eq.now)) = omega arith in
    c.loop-k.invariant.3 ∙ ap (λ (x : ℕ). placing (match (λ (i : ℕ). eqb (get_or c.args.keys.now i 0) c.args.x) (c.args.v % slots) c.args.eq.now) x c.args.eq.now) e

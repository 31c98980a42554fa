-- `sift::note` meets its contract: the first e events are done. The measure is what is left. Assumes nothing.
use mathlib.Core.Path.{◌≡◌, ap, ◌∙◌, subst}
use mathlib.Core.Bool.{cond, ◌&&◌, ◌||◌}
use Prim.Native.Nat.{ℕ, ◌+◌, ◌*◌, ◌%◌, min}
use native.Mathlib.Nat.{mod-eq_of_lt}
use native.Mathlib.Omega.{arith}
use lib.Dec.{ltb}
use lib.ListN.{length}
use Rattle.sets.specs.Mask.{slots, insert}
use Rattle.cells.proofs.CellsLaws.{placing_length}
use Rattle.tables.specs.Tables.{shape_in}
use Rattle.sift.specs.steps.Noted.{NotedIn}
use Rattle.sift.proofs.NotedLaws.{noted_none, noted_more}
use Rattle.sift.proofs.note.Goals as goal

pub loop-e-init : goal.loop-e-init
loop-e-init c =
    let z = c.least-m.ensures in
    (omega arith, omega arith, noted_none c.args.t.now c.args.by.now)

pub loop-e-preserved : goal.loop-e-preserved
loop-e-preserved c =
    let l = c.loop-e in
    let t = c.args.t.now in
    let a = c.shape-a.result in
    let at : l.e % slots ≡ l.e = mod-eq_of_lt (omega arith) in
    let is_a : a ≡ shape_in t (2 * l.e) = c.shape-a.ensures ∙ ap (shape_in t) (mod-eq_of_lt (omega arith)) in
    let is_b : c.shape-b.result ≡ shape_in t (2 * l.e + 1) = c.shape-b.ensures ∙ ap (shape_in t) (mod-eq_of_lt (omega arith)) in (
      omega arith,
      l.invariant.1,
      noted_more t l.e c.args.by.now l.by l.far l.sc l.writers l.seconds l.invariant.2 a is_a c.shape-b.result is_b c.key.result c.key.ensures c.sc.result c.writes-w.result c.sc.ensures c.writes-w.ensures _ c.place.ensures
          _ (c.join-far.ensures ∙ ap (λ (x : ℕ). cond (ltb 8 a.width || ltb 63 a.start) (insert l.far x) l.far) at) _ (c.join-sc.ensures ∙ ap (λ (x : ℕ). cond (c.sc.result && c.writes-w.result) (insert l.sc x) l.sc) at) _ (c.join-writers.ensures ∙ ap (λ (x : ℕ). cond c.writes-w.result (insert l.writers x) l.writers) at),
    )

pub shape_of-by : goal.shape_of-by
shape_of-by c = ap length c.loop-e.invariant.2.keys ∙ placing_length _ c.args.by.now c.loop-e.e

pub returns : goal.returns
returns c =
    let l = c.loop-e in
    let z = c.least-m.ensures in
    let e : l.e ≡ min c.args.n slots = omega arith in
    subst (λ (x : ℕ). NotedIn c.args.t.now x c.args.by.now l.by l.far l.sc l.writers l.seconds) e l.invariant.2

-- `alike::writers` meets its contract: s has what passes of the events below v. The measure is what is left. Assumes nothing.
use mathlib.Core.Path.{◌≡◌, sym, ap, ◌∙◌}
use mathlib.Core.Bool.{Bool, cond, ◌&&◌}
use mathlib.Core.List.{List}
use Prim.Native.Nat.{ℕ, ◌+◌, ◌*◌, ◌%◌, min}
use native.Mathlib.Nat.{mod-eq_of_lt}
use native.Mathlib.Omega.{arith}
use Rattle.basis.specs.Test.{◌and◌}
use Rattle.basis.proofs.BoolLaws.{amp_and}
use Rattle.format.specs.declared.Shape.{Shape}
use Rattle.format.specs.Shape.{sc, writes}
use Rattle.sets.specs.Mask.{slots, insert}
use Rattle.tables.specs.Tables.{accesses, shape_in}
use Rattle.cells.specs.Walk.{picked}
use Rattle.cells.proofs.WalkLaws.{picked_none, picked_more}
use Rattle.alike.specs.Ranges.{sc_writes, writers_in}
use Rattle.alike.proofs.writers.Goals as goal

-- the test of one access, as the machine makes it
noted : (t : List ℕ) (k : ℕ) {a : Shape} {x y : Bool} → a ≡ shape_in t k → x ≡ sc a → y ≡ writes a → (x && y) ≡ sc_writes t k
unfolding sc_writes
noted t k {a} {x} {y} e f g = amp_and x y ∙ (λ i. f i and g i) ∙ ap (λ (s : Shape). sc s and writes s) e

pub loop-v-init : goal.loop-v-init
loop-v-init c =
    let z = c.least-m.ensures in
    (omega arith, omega arith, picked_none _)

pub loop-v-preserved : goal.loop-v-preserved
loop-v-preserved c =
    let l = c.loop-v in
    let f : ℕ → Bool = λ (d : ℕ). sc_writes c.args.t.now (2 * d + c.args.b % 2) in
    let i : (2 * l.v + c.args.b % 2) % accesses ≡ 2 * l.v + c.args.b % 2 = mod-eq_of_lt (omega arith) in
    let w : (c.sc.result && c.writes.result) ≡ f l.v = noted c.args.t.now _ (c.shape-a.ensures ∙ ap (shape_in c.args.t.now) i) c.sc.ensures c.writes.ensures in (
      omega arith,
      l.invariant.1,
      c.take-s.ensures ∙ ap (λ (x : Bool). cond x (insert l.s (l.v % slots)) l.s) w
          ∙ ap (λ (x : ℕ). cond (f l.v) (insert l.s x) l.s) (mod-eq_of_lt (omega arith))
          ∙ ap (λ (x : ℕ). cond (f l.v) (insert x l.v) x) l.invariant.2
          ∙ sym (picked_more l.v f),
    )

pub returns : goal.returns
unfolding writers_in
returns c =
    let z = c.least-m.ensures in
    let e : c.loop-v.v ≡ min c.args.n slots = omega arith in
    c.loop-v.invariant.2 ∙ ap (λ (x : ℕ). picked x (λ (d : ℕ). sc_writes c.args.t.now (2 * d + c.args.b % 2))) e

-- `alike::keys` meets its contract: the first k keys are placed. The measure is what is left. Assumes nothing.
use mathlib.Core.Path.{◌≡◌, ap, ◌∙◌, subst}
use Prim.Native.Nat.{ℕ, ◌*◌, ◌%◌, min}
use native.Mathlib.Nat.{mod-eq_of_lt}
use native.Mathlib.Omega.{arith}
use Rattle.format.specs.declared.Shape.{Shape}
use Rattle.sets.specs.Mask.{slots}
use Rattle.tables.specs.Tables.{accesses, shape_in}
use Rattle.alike.specs.steps.Keys.{Keyed, KeysIn}
use Rattle.alike.proofs.KeysLaws.{keys_none, keys_more, keys_length}
use Rattle.alike.proofs.keys.Goals as goal

pub loop-k-init : goal.loop-k-init
loop-k-init c =
    let z = c.least-m.ensures in
    (omega arith, omega arith, keys_none c.args.t.now c.args.keys.now)

pub loop-k-preserved : goal.loop-k-preserved
loop-k-preserved c =
    let i : c.loop-k.k % accesses ≡ c.loop-k.k = mod-eq_of_lt (omega arith) in (
      omega arith,
      c.loop-k.invariant.1,
      keys_more c.loop-k.invariant.2 (subst (λ (a : Shape). Keyed a c.key.result) (c.shape.ensures ∙ ap (shape_in c.args.t.now) i) c.key.ensures) c.place.ensures,
    )

pub shape_of-keys : goal.shape_of-keys
shape_of-keys c = keys_length c.loop-k.invariant.2

pub returns : goal.returns
returns c =
    let z = c.least-m.ensures in
    let e : c.loop-k.k ≡ 2 * min c.args.n slots = omega arith in
    subst (λ (x : ℕ). KeysIn c.args.t.now x c.args.keys.now c.loop-k.keys) e c.loop-k.invariant.2

-- `own::agents` meets its contract: the masks have the first e events. The measure is what is left. Assumes nothing.
use mathlib.Core.Path.{◌≡◌, ap, ◌∙◌}
use mathlib.Core.List.{List}
use Prim.Native.Nat.{ℕ, ◌-◌, ◌%◌, min}
use native.Mathlib.Nat.{mod-eq_of_lt}
use native.Mathlib.Omega.{arith}
use lib.ListN.{length}
use Rattle.sets.specs.Mask.{slots}
use Rattle.cells.specs.Cells.{gaining}
use Rattle.tables.specs.Tables.{agent_in}
use Rattle.own.specs.steps.ByAgent.{agents_in}
use Rattle.own.proofs.OwnLaws.{agents_none, agents_more, agents_length}
use Rattle.own.proofs.agents.Goals as goal

pub loop-e-init : goal.loop-e-init
loop-e-init c = (omega arith, omega arith, agents_none c.args.t.now c.args.by.now)

pub loop-e-preserved : goal.loop-e-preserved
loop-e-preserved c =
    let l = c.loop-e in
    let t = c.args.t.now in
    let slot : l.e % slots ≡ l.e = mod-eq_of_lt (omega arith) in (
      omega arith,
      l.invariant.1,
      c.gain.ensures
          ∙ ap (λ (a : ℕ). gaining l.by a (l.e % slots)) c.agent.ensures
          ∙ ap (λ (i : ℕ). gaining l.by (agent_in t i) i) slot
          ∙ ap (λ (x : List ℕ). gaining x (agent_in t l.e) l.e) l.invariant.2
          ∙ agents_more t c.args.by.now l.e,
    )

pub shape_of-by : goal.shape_of-by
shape_of-by c = ap length c.loop-e.invariant.2 ∙ agents_length c.args.t.now c.args.by.now c.loop-e.e

pub returns : goal.returns
returns c =
    let l = c.loop-e in
    let z = c.least-m.ensures in
    let k : l.e ≡ min c.args.n slots = omega arith in
    l.invariant.2 ∙ ap (λ (x : ℕ). agents_in c.args.t.now x c.args.by.now) k

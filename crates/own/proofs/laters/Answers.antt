-- `own::laters` meets its contract: the first e masks of both tables are there. The measure is what is left. Assumes nothing.
use mathlib.Core.Path.{◌≡◌, ap, ◌∙◌}
use mathlib.Core.Bool.{cond}
use mathlib.Core.List.{List}
use Prim.Native.Nat.{ℕ, ◌-◌, ◌%◌, min}
use native.Mathlib.Nat.{mod-eq_of_lt}
use native.Mathlib.Omega.{arith}
use lib.Dec.{eqb}
use lib.ListN.{length, set}
use Rattle.sets.specs.Mask.{slots}
use Rattle.tables.specs.Tables.{agent_in}
use Rattle.cells.specs.Cells.{placing}
use Rattle.cells.proofs.CellsLaws.{placing_none, placing_more, placing_length}
use Rattle.own.specs.Own.{later_of, earlier_of}
use Rattle.own.specs.steps.ByAgent.{behind_in, ahead_in, later_by, earlier_by}
use Rattle.own.proofs.OwnLaws.{later_is, earlier_is}
use Rattle.own.proofs.laters.Goals as goal

pub loop-e-init : goal.loop-e-init
loop-e-init c = (omega arith, omega arith, placing_none _ _, placing_none _ _)

pub loop-e-preserved : goal.loop-e-preserved
unfolding later_by earlier_by
loop-e-preserved c =
    let l = c.loop-e in
    let t = c.args.t.now in
    let n = min c.args.n slots in
    let z = c.least-m.ensures in
    let slot : l.e % slots ≡ l.e = mod-eq_of_lt (omega arith) in
    let agent = c.agent-agent.ensures ∙ ap (agent_in t) slot in
    let one : c.unless_init.result ≡ later_of t n l.e =
    c.unless_init.ensures ∙ (λ i. cond (eqb (agent i) 0) 0 ((c.behind.ensures ∙ ap (behind_in t _) slot) i))
    ∙ ap (λ (b : List ℕ). later_by t b l.e) c.agents.ensures ∙ later_is t n l.e (omega arith) (omega arith) in
    let two : c.unless_init-in-loop-e.result ≡ earlier_of t n l.e =
    c.unless_init-in-loop-e.ensures ∙ (λ i. cond (eqb (agent i) 0) 0 ((c.ahead.ensures ∙ ap (ahead_in t _) slot) i))
    ∙ ap (λ (b : List ℕ). earlier_by t b l.e) c.agents.ensures ∙ earlier_is t n l.e (omega arith) (omega arith) in (
      omega arith,
      l.invariant.1,
      c.place.ensures ∙ ap (set l.later l.e) one ∙ ap (λ (x : List ℕ). set x l.e (later_of t n l.e)) l.invariant.2 ∙ placing_more (later_of t n) c.args.later.now l.e,
      c.place-in-loop-e.ensures ∙ ap (set l.earlier l.e) two ∙ ap (λ (x : List ℕ). set x l.e (earlier_of t n l.e)) l.invariant.3 ∙ placing_more (earlier_of t n) c.args.earlier.now l.e,
    )

pub shape_of-later : goal.shape_of-later
shape_of-later c = ap length c.loop-e.invariant.2 ∙ placing_length (later_of c.args.t.now (min c.args.n slots)) c.args.later.now c.loop-e.e

pub shape_of-earlier : goal.shape_of-earlier
shape_of-earlier c = ap length c.loop-e.invariant.3 ∙ placing_length (earlier_of c.args.t.now (min c.args.n slots)) c.args.earlier.now c.loop-e.e

pub returns : goal.returns
returns c =
    let l = c.loop-e in
    let z = c.least-m.ensures in
    let k : l.e ≡ min c.args.n slots = omega arith in
    (l.invariant.2 ∙ ap (λ (x : ℕ). placing (later_of c.args.t.now (min c.args.n slots)) x c.args.later.now) k, l.invariant.3 ∙ ap (λ (x : ℕ). placing (earlier_of c.args.t.now (min c.args.n slots)) x c.args.earlier.now) k)

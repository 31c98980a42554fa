-- `before::add_init` meets its contract, by the agent. Assumes nothing.
use mathlib.Core.Path.{◌≡◌, ap, sym, subst, ◌∙◌}
use Prim.Native.Nat.{ℕ, ◌%◌}
use native.Mathlib.Nat.{mod-eq_of_lt}
use native.Mathlib.Omega.{arith}
use lib.Dec.{eqb}
use borrow.Author.Tests.{eq-eqb, ne_eqb}
use Rattle.sets.specs.Mask.{slots}
use Rattle.tables.specs.Tables.{agent_in}
use Rattle.own.specs.Own.{met_in}
use Rattle.before.specs.steps.Linked.{Beyond}
use Rattle.before.proofs.LinkedLaws.{beyond_picked, init_adds, init_none}
use Rattle.before.proofs.add_init.Goals as goal

pub returns-then-not-init : goal.returns-then-not-init
returns-then-not-init g c =
    let slot : c.args.e % slots ≡ c.args.e = mod-eq_of_lt (omega (arith, c.requires.0, c.requires.1)) in
    init_none c.args.n c.requires.0 c.args.succ.now c.args.cols.now c.requires.2 c.requires.3 (g.A.Accesses.table c.args.of.now) c.args.e c.requires.1
    (ap (λ (x : ℕ). eqb x 0) (sym (c.agent-init.ensures ∙ (λ i. agent_in (c.columns.ensures i) (slot i)))) ∙ ne_eqb _ 0 c.if-not-init.true)

pub returns : goal.returns
returns g c =
    let slot : c.args.e % slots ≡ c.args.e = mod-eq_of_lt (omega (arith, c.requires.0, c.requires.1)) in
    init_adds c.args.n c.requires.0 c.args.succ.now c.args.cols.now c.requires.2 c.requires.3 (g.A.Accesses.table c.args.of.now) c.args.e c.requires.1
    (ap (λ (x : ℕ). eqb x 0) (sym (c.agent-init.ensures ∙ (λ i. agent_in (c.columns.ensures i) (slot i)))) ∙ eq-eqb _ 0 c.if-not-init.false)
    c.beyond-d.result (beyond_picked c.args.n (met_in (g.A.Accesses.table c.args.of.now) c.args.e) c.args.succ.now c.beyond-d.result c.requires.0 (subst (λ (x : ℕ). Beyond slots c.args.succ.now x c.beyond-d.result) c.met.ensures c.beyond-d.ensures)) c.join.ensures

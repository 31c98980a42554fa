-- `agents::present` meets its contract. The invariant: noted are the agents of the first e events, whatever the edition. Assumes nothing.
use mathlib.Core.Path.{◌≡◌, sym, subst, ◌∙◌}
use Prim.Native.Nat.{ℕ, ◌+◌, ◌<◌}
use native.Mathlib.Omega.{arith}
use lib.ListN.{set}
use Rattle.entries.specs.Entries.{events_on}
use Rattle.agents.specs.steps.Present.{agent_numbers, Present}
use Rattle.agents.proofs.AgentsLaws.{present_none, present_more, present_all}
use Rattle.agents.proofs.present.Goals as goal

pub loop-e-init : goal.loop-e-init
loop-e-init c =
    let start : (ed : ℕ) → Present (events_on c.args.s.now ed 0 c.args.at.now) c.args.seen.now =
    λ ed. subst (Present (events_on c.args.s.now ed 0 c.args.at.now)) (sym c.requires) (present_none c.args.s.now ed c.args.at.now) in
    ((start 0).size, start)

pub bounds-at-e : goal.bounds-at-e
bounds-at-e c = let n = c.count-n.ensures in omega arith

pub bounds-seen-a : goal.bounds-seen-a
bounds-seen-a c = let z = c.loop-e.invariant.0 in omega arith

pub loop-e-preserved : goal.loop-e-preserved
loop-e-preserved c =
    let n = c.count-n.ensures in
    let g : c.agent_at-a.result < agent_numbers = omega arith in
    let more : (ed : ℕ) → Present (events_on c.args.s.now ed (c.loop-e.e + 1) c.args.at.now) (set c.loop-e.seen c.agent_at-a.result 1) =
    λ ed. subst (λ (k : ℕ). Present (events_on c.args.s.now ed (c.loop-e.e + 1) c.args.at.now) (set c.loop-e.seen k 1)) (sym c.agent_at-a.ensures)
    (present_more c.args.s.now ed c.args.at.now c.loop-e.e c.loop-e.seen (omega arith) (rw c.agent_at-a.ensures at g) (c.loop-e.invariant.1 ed)) in
    ((more 0).size, more)

pub returns : goal.returns
returns c =
    let e : c.loop-e.e ≡ c.count-n.result = omega arith in
    present_all c.args.s.now c.args.x.head.edition c.args.at.now c.args.x.events c.loop-e.e c.loop-e.seen (e ∙ c.count-n.ensures) (c.loop-e.invariant.1 c.args.x.head.edition)

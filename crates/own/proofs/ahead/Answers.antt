-- `own::ahead` meets its contract. Assumes nothing.
use mathlib.Core.Path.{◌≡◌, ap, ◌∙◌}
use Prim.Native.Nat.{ℕ, ◌%◌, min}
use native.Mathlib.Nat.{mod-eq_of_lt}
use native.Mathlib.Omega.{arith}
use lib.Bits.{bit_and}
use lib.ListN.{get_or}
use Rattle.sets.specs.Mask.{slots, full}
use Rattle.tables.specs.Tables.{agent_room, agent_in}
use Rattle.tables.proofs.TablesLaws.{agent_place}
use Rattle.own.specs.steps.ByAgent.{ahead_in}
use Rattle.own.proofs.ahead.Goals as goal

pub returns : goal.returns
unfolding ahead_in
returns c =
    let t = c.args.t.now in
    let i = c.args.e % slots in
    let slot : i % slots ≡ i = mod-eq_of_lt (omega arith) in
    let a : c.agent.result % agent_room ≡ agent_in t i =
    ap (λ (k : ℕ). k % agent_room) (c.agent.ensures ∙ ap (agent_in t) slot) ∙ mod-eq_of_lt (agent_place t i) in
    ap (λ (k : ℕ). bit_and (get_or c.args.by.now (c.agent.result % agent_room) 0) k) c.full.ensures
    ∙ ap (λ (k : ℕ). bit_and (get_or c.args.by.now k 0) (full (min i slots))) a

-- `spot::lay_event` meets its contract: each entry by itself. Assumes nothing.
use mathlib.Core.Path.{◌≡◌, ap, ◌∙◌}
use mathlib.Core.List.{List}
use Prim.Native.Nat.{ℕ, ◌*◌, ◌%◌, ◌<◌}
use native.Mathlib.Nat.{mod-eq_of_lt}
use native.Mathlib.Omega.{arith}
use lib.ListN.{set}
use Rattle.sets.specs.Mask.{slots}
use Rattle.tables.specs.Tables.{accesses, putting}
use Rattle.spot.proofs.lay_event.Goals as goal

pub returns : goal.returns
returns c =
    let n = c.args.n in
    let h : n % slots < slots = omega arith in
    let i : n % slots % slots ≡ n % slots = mod-eq_of_lt h in
    let k : 2 * (n % slots) % accesses ≡ 2 * (n % slots) = mod-eq_of_lt (omega arith) in
    (c.keep.ensures, c.put_access.ensures ∙ ap (λ (l : List ℕ). putting l (2 * (n % slots) % accesses) c.args.a) (c.put_agent.ensures ∙ ap (λ (z : ℕ). set c.args.t.now z c.args.agent) i) ∙ ap (λ (z : ℕ). putting (set c.args.t.now (n % slots) c.args.agent) z c.args.a) k)

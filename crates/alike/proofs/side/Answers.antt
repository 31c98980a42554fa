-- `alike::side` meets its contract: eq has gained the members that are no longer left. Assumes nothing.
use mathlib.Core.Path.{◌≡◌, sym, ap₂, ◌∙◌, subst}
use mathlib.Core.List.{List}
use Prim.Native.Nat.{ℕ, ◌+◌, ◌*◌, ◌/◌, ◌%◌, min}
use native.Mathlib.Nat.{mod-eq_of_lt}
use native.Mathlib.Omega.{arith}
use lib.Dec.{eqb}
use lib.ListN.{length, get_or}
use Rattle.sets.specs.Mask.{slots}
use Rattle.cells.specs.Cells.{placing}
use Rattle.cells.proofs.WalkLaws.{Stand, stand_start, stand_taken, stand_end}
use Rattle.tables.specs.Tables.{accesses}
use Rattle.alike.specs.Ranges.{match, matched_in, side_in}
use Rattle.alike.proofs.KeysLaws.{gained}
use Rattle.alike.proofs.RangesLaws.{writers_one}
use Rattle.alike.proofs.side.Goals as goal

pub loop-v-init : goal.loop-v-init
loop-v-init c =
    let a = c.args in
    let f : ℕ → List ℕ → List ℕ = matched_in a.t.now (min a.n slots) (a.b % 2) in
    rw (c.into_iter-v-iterator.ensures.into_iter_gives, c.members-v-items.ensures)
    (subst (λ (x : ℕ). Stand x f a.eq.now c.writers.result a.eq.now) c.writers.ensures (stand_start c.writers.result f a.eq.now (omega arith)))

pub loop-v-preserved : goal.loop-v-preserved
loop-v-preserved c =
    let a = c.args in
    let v : ℕ = c.in-Some.v in
    let k = c.in-Some.ensures.steps in
    let s = c.loop-v.invariant in
    let n : ℕ = min a.n slots in
    let w = writers_one a.t.now n (a.b % 2) v (sym (s.same v (s.later v k.member)) ∙ k.member) in
    let keys = a.keys.now in
    let eq = c.loop-v.eq in
    let is : ◌≡◌ {A = List ℕ} c.gains.new.eq (matched_in a.t.now n (a.b % 2) v eq) =
    c.gains.ensures
    ∙ ap₂ (λ (m d : ℕ). placing (match (λ (i : ℕ). eqb (get_or keys i 0) (get_or keys (2 * v + a.b % 2) 0)) d eq) (min ((m + 3) / 4 * 8) (min accesses (length eq))) eq) c.least.ensures (mod-eq_of_lt k.slot)
    ∙ gained (omega arith) c.requires (a.b % 2) v (omega arith) w.0 w.1 eq in
    rw is (stand_taken s v c.next.new.self.left k)

pub returns : goal.returns
unfolding side_in
returns c = stand_end c.loop-v.invariant c.in-None.ensures.steps.0

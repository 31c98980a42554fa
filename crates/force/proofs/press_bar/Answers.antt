-- `force::press_bar` meets its contract: what it writes is forced. Assumes nothing.
use Rattle.std.proofs.Common.{ℕ, ◌%◌, cond, sym, ap, ◌∙◌}
use Rattle.sets.specs.Mask.{slots, insert}
use Rattle.force.proofs.PressLaws.{presses_first, presses_other}
use Rattle.force.proofs.press_bar.Goals as goal

pub returns-then-after : goal.returns-then-after
returns-then-after c =
    let a = c.args in
    let p = c.requires in
    let is = c.take.ensures ∙ ap (λ (x : ℕ). cond c.has-ahead.result (insert x (a.v % slots)) x) c.with.ensures in
    rw is (presses_first p.5 _ _ _ p.0 p.1 p.2 p.3 c.has.result p.4 c.has.ensures c.if-after.true c.has-ahead.result c.has-ahead.ensures)

pub returns-then-ahead : goal.returns-then-ahead
returns-then-ahead c = let p = c.requires in rw c.with-then-ahead.ensures (presses_other p.5 _ _ _ p.0 p.1 p.2 p.3 c.has.result c.if-after.false c.if-writer-v.false (sym c.has-ahead.ensures ∙ c.if-ahead.true))

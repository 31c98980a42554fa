-- `kept::turn` meets its contract: the bar is idle, dropped, or put back. Assumes nothing.
use mathlib.Core.Path.{sym, ◌∙◌}
use Rattle.kept.proofs.ThinLaws.{turn_idled, turn_dropped, turn_needed}
use Rattle.kept.proofs.turn.Goals as goal

pub returns-then-possible : goal.returns-then-possible
returns-then-possible c = turn_needed c.mask_at-old.ensures c.without.ensures c.put.ensures c.requires c.possible.ensures c.if-possible.true c.put-then-possible.ensures

pub returns-else-possible : goal.returns-else-possible
returns-else-possible c = turn_dropped c.mask_at-old.ensures c.without.ensures c.put.ensures c.requires c.possible.ensures c.if-possible.false

pub returns-else-not-idle : goal.returns-else-not-idle
returns-else-not-idle c = turn_idled c.mask_at-old.ensures c.without.ensures c.put.ensures (sym c.idle.ensures ∙ c.if-not-idle.false)

-- `kept::idle` meets its contract: the same tests. Assumes nothing.
use mathlib.Core.Path.{refl}
use Rattle.kept.specs.steps.Idle.{is_idle}
use Rattle.kept.proofs.idle.Goals as goal

pub returns : goal.returns
unfolding is_idle
returns c = rw (c.has-first.ensures, c.has-second.ensures) refl

-- `kept::is_bar` meets its contract: the same tests. Assumes nothing.
use mathlib.Core.Path.{refl}
use Rattle.kept.specs.steps.Numbers.{is_bar}
use Rattle.kept.proofs.is_bar.Goals as goal

pub returns : goal.returns
unfolding is_bar
returns c = rw (c.has-there.ensures, c.mask_at-mask.ensures) refl

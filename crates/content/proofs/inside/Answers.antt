-- `content::inside` meets its contract by computation. Assumes nothing.
use mathlib.Core.Path.{refl}
use Rattle.content.specs.Content.{inside}
use Rattle.content.proofs.inside.Goals as goal

pub returns : goal.returns
unfolding inside
returns c = refl

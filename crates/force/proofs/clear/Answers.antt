-- `force::clear` meets its contract. Assumes nothing.
use Rattle.std.proofs.Common.{ℕ, replicate, ap, ◌∙◌}
use Rattle.force.proofs.clear.Goals as goal

pub returns : goal.returns
returns c = c.fill.ensures.after (λ y h. h) ∙ ap (λ (k : ℕ). replicate k 0) c.requires

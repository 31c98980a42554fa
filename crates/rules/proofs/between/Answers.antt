-- `rules::between` meets its contract: the search, over what lies between the two. Assumes nothing.
use Rattle.rules.specs.Rules.{between_in}
use Rattle.rules.proofs.between.Goals as goal

pub returns : goal.returns
unfolding between_in
returns c = c.writer_in.ensures

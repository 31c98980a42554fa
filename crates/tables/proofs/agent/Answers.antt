-- `tables::agent` meets its contract. Assumes nothing.
use mathlib.Core.Path.{refl}
use Rattle.tables.specs.Tables.{agent_in}
use Rattle.tables.proofs.agent.Goals as goal

pub returns : goal.returns
unfolding agent_in
returns c = refl

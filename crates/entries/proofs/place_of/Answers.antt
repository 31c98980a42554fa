-- `entries::place_of` meets its contract: past the end the list's default. Assumes nothing.
use mathlib.Core.Path.{sym}
use lib.ListN.{get_or-eq_default}
use borrow.Author.Rules.{rules}
use Rattle.entries.proofs.place_of.Goals as goal

pub returns-else-i-at : goal.returns-else-i-at
returns-else-i-at c = sym (get_or-eq_default c.args.at.now 0 {n = c.args.e} (search rules))

-- `sheet::reader::missing` meets its contract: by the set of agents where it holds all that can be promised, or the search. Assumes nothing.
use Rattle.entries.specs.Entries.{execution}
use Rattle.spot.proofs.TallyLaws.{told_missing}
use Rattle.sheet.proofs.reader.missing.Goals as goal

pub returns-then-n-lt-SLOTS : goal.returns-then-n-lt-SLOTS
returns-then-n-lt-SLOTS c = told_missing (execution c.args.s.now c.args.x c.args.at.now) c.args.t c.requires c.if-n-lt-SLOTS.true c.subset.result (rw (c.without-promised.ensures, c.full.ensures) at c.subset.ensures)

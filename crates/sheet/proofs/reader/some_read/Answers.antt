-- `sheet::reader::some_read` meets its contract: where bytes are read, some event reads; else the search. Assumes nothing.
use Rattle.entries.specs.Entries.{events_in}
use Rattle.spot.proofs.TallyLaws.{told_some}
use Rattle.sheet.proofs.reader.some_read.Goals as goal

pub returns-then-t-ne0 : goal.returns-then-t-ne0
returns-then-t-ne0 c = told_some (events_in c.args.s.now c.args.x c.args.at.now) c.args.t c.requires c.if-t-ne0.true

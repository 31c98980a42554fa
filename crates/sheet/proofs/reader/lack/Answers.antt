-- `sheet::reader::lack` meets its contract: as many rows as read bytes, or the search. Assumes nothing.
use mathlib.Core.Path.{sym}
use Rattle.spot.proofs.TallyLaws.{told_none_lacking}
use Rattle.sheet.proofs.reader.lack.Goals as goal

pub returns-then-t-x : goal.returns-then-t-x
returns-then-t-x c = sym (told_none_lacking c.args.s.now c.args.last c.args.x c.args.at.now c.args.t c.requires.0 c.requires.1 c.if-t-x.true)

-- `kept::skip` meets its contract: by the W that is no event, by the V, or the next number. Assumes nothing.
use Rattle.kept.proofs.NumbersLaws.{skip_reader, skip_writer, skip_one}
use Rattle.kept.proofs.skip.Goals as goal

pub returns-then-m-i : goal.returns-then-m-i
returns-then-m-i c = skip_reader c.requires c.if-m-i.true

pub returns-then-m-i-2 : goal.returns-then-m-i-2
returns-then-m-i-2 c = skip_writer c.requires c.if-m-i-2.true

pub returns : goal.returns
returns c = skip_one c.requires

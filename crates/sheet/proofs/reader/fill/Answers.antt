-- `sheet::reader::fill` meets its contract: a sheet too long, a field at fault, a test after all fields, or a whole sheet. Assumes nothing.
use Rattle.parse.proofs.ParseLaws.{too_long}
use Rattle.sheet.proofs.CompleteLaws.{read_whole}
use Rattle.sheet.proofs.reader.fill.Goals as goal

pub returns-then-s-gt-MAX_BYTES : goal.returns-then-s-gt-MAX_BYTES
returns-then-s-gt-MAX_BYTES c = rw c.at_start.ensures (record { says = too_long c.args.s.now c.if-s-gt-MAX_BYTES.true })

pub returns : goal.returns
returns c = let g = rw c.in_ok-scan.was at c.fields-scan.ensures in read_whole c.args.s.now _ _ _ _ _ _ _ g.through g.tabled c.in_ok-finish.ensures

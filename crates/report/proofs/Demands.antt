-- The promises of specs/Demands.antt hold. Assumes nothing.
use Rattle.report.specs.Demands.{Agree, LongEnough, Readable}
use Rattle.puts.proofs.DecimalLaws.{decimal_unique}
use Rattle.report.proofs.LineLaws.{line_bound}
use Rattle.report.proofs.LinedLaws.{lined_unique}

pub agree : Agree
agree x order entry r s exit exit' a b = lined_unique a b

pub enough : LongEnough
enough = line_bound

pub readable : Readable
readable = decimal_unique

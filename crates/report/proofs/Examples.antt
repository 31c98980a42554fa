-- The table of specs/Examples.antt is right: antt computes it. Assumes nothing.
use mathlib.Core.Path.{refl}
use Rattle.puts.specs.Decimal.{digits_in, decimal}
use Rattle.report.specs.Line.{line_of}
use Rattle.report.specs.Examples.{Right}

pub examples_right : Right
unfolding digits_in decimal line_of
examples_right = refl

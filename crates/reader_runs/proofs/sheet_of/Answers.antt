-- `reader_runs::sheet_of` is safe: the part has the length asked for. Rests on the reads and writes of std.
use lib.Seq.{length-take-le}
use mathlib.Core.Path.{sym}
use Rattle.reader_runs.proofs.sheet_of.Goals as goal

pub slice_bounds-part-end-2 : goal.slice_bounds-part-end-2
slice_bounds-part-end-2 c = sym (length-take-le _ _ c.requires)

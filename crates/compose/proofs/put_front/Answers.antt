-- `compose::put_front` meets its contract: there are so many bytes. Assumes nothing.
use mathlib.Core.Path.{sym}
use lib.Seq.{length-take-le}
use Rattle.compose.proofs.put_front.Goals as goal

pub slice_bounds-put_bytes-end : goal.slice_bounds-put_bytes-end
slice_bounds-put_bytes-end c = sym (length-take-le c.args.n c.args.v.now c.requires)

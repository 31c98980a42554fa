-- `log_order::cross` meets its contract: the search, over what the row bars and stands before its reader. Assumes nothing.
use mathlib.Core.Path.{ap, ◌∙◌}
use Prim.Native.Nat.{ℕ, ◌%◌}
use lib.Bits.{bit_and}
use lib.ListN.{get_or}
use Rattle.basis.specs.Test.{◌and◌}
use Rattle.sets.specs.Mask.{slots, mem}
use Rattle.cells.specs.First.{first_some}
use Rattle.log_order.specs.steps.Masks.{cross_in}
use Rattle.log_order.proofs.cross.Goals as goal

pub returns : goal.returns
unfolding cross_in
returns c =
    c.behind.ensures
    ∙ ap (λ (m : ℕ). first_some (λ (v : ℕ). mem (bit_and m (get_or c.args.earlier.now (c.args.r.reader % slots) 0)) v and mem (get_or c.args.earlier.now v 0) (c.args.r.writer % slots)) slots) c.of_row-barred.ensures

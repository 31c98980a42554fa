-- `verdict::answer` prints the sheet's line: the buffers are enough, so what `tell` wrote is that. Rests on the writes of std.
use Rattle.tell.proofs.Demands.{prints_the_order}
use Rattle.verdict.proofs.answer.Goals as goal

pub print-requires : goal.print-requires
print-requires c =
    (prints_the_order _ _ _ _ _ _ _ _ c.requires c.tell-n.ensures).line

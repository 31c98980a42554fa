-- `compose::kind_byte` meets its contract: by its one test. Assumes nothing.
use Rattle.compose.proofs.ComposeLaws.{kind_same, kind_other}
use Rattle.compose.proofs.kind_byte.Goals as goal

pub returns-then-byte-a : goal.returns-then-byte-a
returns-then-byte-a c = kind_same c.args.edition c.args.d.now c.shape_of-a.result c.byte.result c.shape_of-a.ensures c.byte.ensures c.if-byte-a.true

pub returns-else-byte-a : goal.returns-else-byte-a
returns-else-byte-a c = kind_other c.args.edition c.args.d.now c.shape_of-a.result c.byte.result c.shape_of-a.ensures c.byte.ensures c.if-byte-a.false

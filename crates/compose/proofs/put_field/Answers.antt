-- `compose::put_field` meets its contract: the opening, then the value. Assumes nothing.
use Rattle.compose.proofs.ComposeLaws.{puts_field}
use Rattle.compose.proofs.put_field.Goals as goal

pub returns : goal.returns
returns c = let a = c.args in puts_field a.tag a.v.now c.put_opening-next.ensures c.put_bytes.ensures

-- `writer::one_if_same` meets its contract: a test as a number. Assumes nothing.
use Rattle.std.proofs.Common.{◌≡◌, refl, Bool, true, false}
use Rattle.std.specs.Prelude.{cond, eqb}
use mir.Val.{bool_byte}
use Rattle.writer.proofs.one_if_same.Goals as goal

one_of : (b : Bool) → bool_byte b ≡ cond b 1 0
one_of true = refl
one_of false = refl

pub returns : goal.returns
returns c = one_of (eqb c.args.a c.args.b)

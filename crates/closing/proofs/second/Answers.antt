-- `closing::second` meets its contract: by the test for an empty set. Assumes nothing.
use mathlib.Core.Path.{refl}
use native.Mathlib.Omega.{arith}
use Rattle.closing.proofs.second.Goals as goal

pub returns-then-left-eq0 : goal.returns-then-left-eq0
returns-then-left-eq0 c = let z = c.if-left-eq0.true in record { member = λ l. absurd (omega (arith, z, l)); none = λ e. refl }

pub returns-else-left-eq0 : goal.returns-else-left-eq0
returns-else-left-eq0 c = record { member = λ l. c.lowest.ensures.member l; none = λ e. absurd (c.if-left-eq0.false e) }

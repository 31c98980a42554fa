-- `orders::fits` meets its contract: its tests are the fields of `Fits`. Assumes nothing.
use mathlib.Core.Path.{◌≡◌}
use Prim.Native.Nat.{◌-◌}
use native.Mathlib.Omega.{arith}
use borrow.Author.Tests.{leb-true, leb-false}
use Rattle.marks.specs.Table.{bytes_for}
use Rattle.sets.proofs.TellsLaws.{tells_no}
use Rattle.orders.proofs.AnswerLaws.{needed_slots}
use Rattle.orders.proofs.fits.Goals as goal

pub returns-then-events-inits : goal.returns-then-events-inits
returns-then-events-inits c = tells_no (λ h. let a = h.inits in omega arith)

pub returns-then-events-gt-SLOTS : goal.returns-then-events-gt-SLOTS
returns-then-events-gt-SLOTS c = tells_no (λ h. let a = h.events in omega arith)

pub returns : goal.returns
returns c =
    let a = c.args in
    let n : c.needed.result ≡ bytes_for (a.events - a.inits) = needed_slots (a.events - a.inits) c.needed.result (omega arith) c.needed.ensures in
    record {
      holds = λ p. let q = leb-true c.needed.result a.room p in record { inits = omega arith; events = omega arith; scratch = omega (arith, q, n) };
      fails = λ p h. let q = leb-false c.needed.result a.room p in let z = h.scratch in omega (arith, q, n, z);
    }

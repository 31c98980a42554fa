-- `fits::agent_no` meets its contract: by whether there is such an event. Assumes nothing.
use mathlib.Core.Path.{◌≡◌}
use mathlib.Core.Bool.{true, false}
use Prim.Native.Nat.{min}
use borrow.Author.Tests.{lt-ltb, le-ltb}
use lib.Dec.{ltb}
use lib.ListN.{length}
use Rattle.fits.specs.steps.ByNumber.{agent_no}
use Rattle.fits.proofs.agent_no.Goals as goal

pub returns-then-e-count : goal.returns-then-e-count
unfolding agent_no
returns-then-e-count c = let h : ltb c.args.e (min c.args.x.events (length c.args.at.now)) ≡ true = lt-ltb _ _ (rw c.count.ensures at c.if-e-count.true) in simp (h, c.agent_at.ensures)

pub returns : goal.returns
unfolding agent_no
returns c = let h : ltb c.args.e (min c.args.x.events (length c.args.at.now)) ≡ false = le-ltb _ _ (rw c.count.ensures at c.if-e-count.false) in simp h

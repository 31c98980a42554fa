-- `fits::pair_rises` meets its contract: the last pair is the one before. Assumes nothing.
use native.Mathlib.Omega.{arith}
use borrow.Author.Tests.{ne_eqb}
use Prim.Native.Nat.{◌-◌, ◌<◌}
use Rattle.basis.specs.Test.{◌or◌}
use Rattle.content.specs.Content.{pair_rises}
use Rattle.entries.proofs.EntriesLaws.{pairs_count, pair_at_lem}
use Rattle.fits.proofs.pair_rises.Goals as goal

pub returns-then-n-eq0 : goal.returns-then-n-eq0
unfolding pair_rises ◌or◌
returns-then-n-eq0 c = simp (pairs_count, c.if-n-eq0.true)

pub returns : goal.returns
unfolding pair_rises ◌or◌
returns c = let h : c.args.x.pairs - 1 < c.args.x.pairs = omega (arith, c.if-n-eq0.false) in simp (c.pair_below.ensures, c.pair_no.ensures, pairs_count, ne_eqb _ _ c.if-n-eq0.false, pair_at_lem c.args.s.now c.args.x.pairs_at c.args.x.pairs (c.args.x.pairs - 1) h)

-- `kept::keep` meets its contract: by the tests before it what fits, and then by the walk. Assumes nothing.
use Prim.Native.Nat.{ℕ, ◌<◌, ◌^◌}
use native.Mathlib.Omega.{arith}
use borrow.Author.Rules.{rules}
use mir.Syntax.{w32}
use mir.Val.{Fits}
use lib.ListN.{get_or}
use Rattle.sets.specs.Mask.{slots}
use Rattle.kept.proofs.NumbersLaws.{bars_few}
use Rattle.kept.proofs.KeepsLaws.{clean_again, keeps_unfit, keeps_order, keeps_small, keeps_bars}
use Rattle.kept.proofs.keep.Goals as goal

-- a value of the machine's width
wide_of : (n : ℕ) → Fits w32 n → n < 2 ^ slots
wide_of n f = f.fits

pub returns-then-not-fits : goal.returns-then-not-fits
returns-then-not-fits c = keeps_unfit (c.fits.ensures.fails c.if-not-fits.true)

pub returns-then-possible : goal.returns-then-possible
returns-then-possible c = keeps_order (c.fits.ensures.holds c.if-not-fits.false) c.possible.ensures c.if-possible.true

pub thin-requires : goal.thin-requires
thin-requires c =
    let f = c.fits.ensures.holds c.if-not-fits.false in
    let z = clean_again c.args.scratch.now f (c.possible.ensures.fit f).clean in
    (z.fits, λ j. wide_of (get_or c.copy-left.result j 0) (search rules), z.again, rw c.copy-left.ensures ((c.possible.ensures.fit f).none c.if-possible.false))

pub overflow_mul-n : goal.overflow_mul-n
overflow_mul-n c = let e = c.count-n.ensures in let l = bars_few c.args.events c.thin.new.bars in omega (arith, e, l)

pub returns-then-out-n : goal.returns-then-out-n
returns-then-out-n c =
    keeps_small (c.fits.ensures.holds c.if-not-fits.false) c.possible.ensures c.if-possible.false c.copy-left.ensures (λ j. wide_of (get_or c.copy-left.result j 0) (search rules))
    c.thin.new.bars c.thin.ensures.0 c.thin.ensures.1 c.count-n.ensures c.if-out-n.true

pub overflow_cast-result : goal.overflow_cast-result
overflow_cast-result c = let e = c.count-n.ensures in let l = bars_few c.args.events c.thin.new.bars in omega (arith, e, l)

pub returns : goal.returns
returns c =
    keeps_bars (c.fits.ensures.holds c.if-not-fits.false) c.possible.ensures c.if-possible.false c.copy-left.ensures (λ j. wide_of (get_or c.copy-left.result j 0) (search rules))
    c.thin.new.bars c.thin.ensures.0 c.thin.ensures.1 c.count-n.ensures c.if-out-n.false c.write.ensures

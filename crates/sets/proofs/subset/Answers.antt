-- `sets::subset` meets its contract: nothing of a is outside b. Assumes nothing.
use borrow.Author.Tests.{eqb-true, eqb-false}
use Rattle.sets.specs.Mask.{slots}
use Rattle.sets.proofs.MaskLaws.{within_of, of_within}
use Rattle.sets.proofs.subset.Goals as goal

pub returns : goal.returns
returns c = let a = c.args.a in
    let b = c.args.b in
    record {
      holds = λ p. within_of slots a b c.ranges.a.fits c.ranges.b.fits (eqb-true _ _ p);
      fails = λ p f. eqb-false _ _ p (of_within slots a b c.ranges.a.fits c.ranges.b.fits f);
    }

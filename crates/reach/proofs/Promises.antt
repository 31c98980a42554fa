-- The promises of specs/Promises.antt hold. Assumes nothing.
use Rattle.reach.specs.Promises.{CountAgrees, CountAtMost}
use Rattle.reach.proofs.ReachableLaws.{counted_most}
use Rattle.reach.proofs.TalliedLaws.{tallied_unique}

pub count_agrees : CountAgrees
count_agrees k m before bars scratch limit r q s t = tallied_unique r q

pub count_at_most : CountAtMost
count_at_most P k c = counted_most

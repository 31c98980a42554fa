-- `weigh::seek` meets its contract: what the list leaves out makes no difference. Assumes nothing.
use Rattle.arrange.proofs.ListingLaws.{listed_answered}
use Rattle.weigh.proofs.seek.Goals as goal

pub returns-then-count-lt-LIST : goal.returns-then-count-lt-LIST
returns-then-count-lt-LIST c = listed_answered c.args.rows (c.requires c.in-Some.count c.in-Some.is) c.if-count-lt-LIST.true c.first_listed.ensures

-- What is said of what was found of the bars. Assumes nothing.
--     told_of found settled     with an order the unsettled pair; else how many bars are kept, or 16
use Rattle.answer.specs.declared.Settled.{Settled}
use Rattle.kept.specs.declared.Finding.{Finding}
use Rattle.kept.specs.declared.Finding.TheVariants.{Order, Bars, Small as FoundSmall, Unfit}
use Rattle.why.specs.declared.Explanation.{Explanation}
use Rattle.why.specs.declared.Explanation.TheVariants.{Refused, Consistent, Kept, Small}

abbrev pub told_of : Finding → Settled → Explanation
told_of Order settled = Consistent settled
told_of (Bars n) settled = Kept n
told_of FoundSmall settled = Small
told_of Unfit settled = Refused 12 0

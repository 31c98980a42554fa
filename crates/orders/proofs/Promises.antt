-- The promises of specs/Promises.antt hold. Assumes nothing.
use Rattle.orders.specs.Promises.{FirstIsFirst, FirstBegins, PossibleIsMeets, FirstAgrees, PossibleAgrees, StepsAreOrders, DeadEnds, FewerKeep, SparedSame, IdleSame}
use Rattle.orders.proofs.StepLaws.{dead_here}
use Rattle.orders.proofs.OrderLaws.{meets_runs, runs_meets, meets_fewer}
use Rattle.orders.proofs.InitsLaws.{first_inits}
use Rattle.orders.proofs.SameLaws.{below_same, idle_same}
use Rattle.orders.proofs.AnswerLaws.{ordered_first, ordered_none, possible_meets, possible_none, answered_unique, told_unique}

pub first_is_first : FirstIsFirst
first_is_first k m before bars scratch order s o r b f l a = let x = a.fit f l in (ordered_first b x, ordered_none b x)

pub first_begins : FirstBegins
first_begins = first_inits

pub possible_is_meets : PossibleIsMeets
possible_is_meets k m before bars scratch s r b f a = let x = a.fit f in (possible_meets b x, possible_none b x)

pub first_agrees : FirstAgrees
first_agrees k m before bars scratch order r q s t o p = answered_unique r q

pub possible_agrees : PossibleAgrees
possible_agrees k m before bars scratch r q s t = told_unique r q

pub steps_are_orders : StepsAreOrders
steps_are_orders P k b l = (meets_runs P b l, runs_meets P b l)

pub dead_ends : DeadEnds
dead_ends = dead_here

pub fewer_keep : FewerKeep
fewer_keep = meets_fewer

pub spared_same : SparedSame
spared_same = below_same

pub idles_same : IdleSame
idles_same = idle_same

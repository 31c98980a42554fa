-- `plain::plain_first` meets its contract: an init by itself that starts where all before it have ended stands apart from them; of any other they are all asked.
-- Assumes nothing.
use mathlib.Core.Bool.{not}
use mathlib.Core.Path.{ap}
use Rattle.plain.proofs.LinedLaws.{first_not, first_held, first_apart}
use Rattle.plain.proofs.plain_first.Goals as goal

pub returns-then-not-plain : goal.returns-then-not-plain
returns-then-not-plain c = first_not c.args.s.now c.args.p c.args.x c.args.at.now c.plain_init-plain.result c.plain_init-plain.ensures (ap not c.if-not-plain.true)

pub shape_here-a-requires : goal.shape_here-a-requires
shape_here-a-requires c = c.plain_init-plain.ensures.front c.if-not-plain.false

pub returns-then-high-a : goal.returns-then-high-a
returns-then-high-a c = first_apart c.args.s.now c.args.p c.args.x c.args.at.now c.plain_init-plain.result c.plain_init-plain.ensures (ap not c.if-not-plain.false) c.shape_here-a.result c.shape_here-a.ensures c.args.high c.requires c.if-high-a.true

pub returns : goal.returns
returns c = first_held c.args.s.now c.args.p c.args.x c.args.at.now c.plain_init-plain.result c.plain_init-plain.ensures (ap not c.if-not-plain.false) c.shape_here-a.result c.shape_here-a.ensures c.stands_first.result c.stands_first.ensures

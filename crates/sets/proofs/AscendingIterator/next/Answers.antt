-- `next` of the members of a set takes the least and leaves the others. Assumes nothing.
use Rattle.std.proofs.Common.{◌^◌, ◌<◌, arith, rules}
use Rattle.sets.specs.Mask.{slots}
use Rattle.sets.proofs.MaskLaws.{taken, taken_less}
use Rattle.sets.proofs.AscendingIterator.next.Goals as goal

pub returns-clause-steps : goal.returns-clause-steps
returns-clause-steps c =
    let w : c.args.self.now.left < 2 ^ slots = omega arith in
    taken c.args.self.now.left c.lowest-e.result c.without-self.result w c.if-self-eq0.false c.lowest-e.ensures c.without-self.ensures

pub returns-clause-goes : goal.returns-clause-goes
returns-clause-goes c =
    let w : c.args.self.now.left < 2 ^ slots = omega arith in
    let l = taken_less (taken c.args.self.now.left c.lowest-e.result c.without-self.result w c.if-self-eq0.false c.lowest-e.ensures c.without-self.ensures) in
    search (rules, l)

-- `kept::thin` meets its contract: below `from` the walk on the table is the walk on the list. The measure is what is left. Assumes nothing.
use mathlib.Core.Path.{refl, ◌∙◌}
use native.Mathlib.Omega.{arith}
use Rattle.kept.proofs.ThinLaws.{stand_start, stand_skip, stand_more, stand_end}
use Rattle.kept.proofs.thin.Goals as goal

pub loop-i-init : goal.loop-i-init
loop-i-init c = (omega arith, stand_start c.requires.0.events c.requires.1 c.requires.3, refl)

pub next-requires : goal.next-requires
next-requires c = c.loop-i.invariant.0

pub turn-requires : goal.turn-requires
turn-requires c = rw c.loop-i.invariant.2 c.requires.0

pub loop-i-smaller : goal.loop-i-smaller
loop-i-smaller c = let a = c.in-Some.ensures.0 in let b = c.in-Some.ensures.1.low in omega arith

pub loop-i-preserved : goal.loop-i-preserved
loop-i-preserved c =
    let n = c.in-Some.ensures.1 in
    let l = c.in-Some.ensures.0 in (
      omega arith,
      stand_more c.requires.0.events (stand_skip c.loop-i.invariant.1 n) l (n.is l) c.turn.ensures.tried,
      c.turn.ensures.clean (rw c.loop-i.invariant.2 c.requires.2) ∙ c.loop-i.invariant.2,
    )

pub shape_of-scratch : goal.shape_of-scratch
shape_of-scratch c = rw c.loop-i.invariant.2 refl

pub returns : goal.returns
returns c = (stand_end (stand_skip c.loop-i.invariant.1 c.in_default.ensures) refl, c.loop-i.invariant.2)

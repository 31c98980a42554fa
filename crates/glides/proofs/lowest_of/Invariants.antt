-- `glides::lowest_of` meets its contract: each event below those that are left has been tried. Assumes nothing.
use mathlib.Core.Bool.{false}
use Rattle.glides.proofs.GlideLaws.{Unseen}
use Rattle.glides.proofs.lowest_of.Given as goal

abbrev pub invariant-loop-v : goal.invariant-loop-v
invariant-loop-v l = Unseen l.m l.before l.s l.left (λ d. false) l.v-iterator.left

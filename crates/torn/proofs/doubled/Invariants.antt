-- `torn::doubled` meets its contract: of the masks so far it is known whether one has two members. Assumes nothing.
use Rattle.std.proofs.Common.{ℕ, get_or}
use Rattle.torn.specs.steps.Noticed.{Marks, Among}
use Rattle.torn.specs.steps.Doubled.{Twice}
use Rattle.torn.proofs.doubled.Given as goal

abbrev pub invariant-loop-m : goal.invariant-loop-m
invariant-loop-m l = Marks l.c (Among l.m-index (λ (i : ℕ). Twice (get_or l.s i 0)))

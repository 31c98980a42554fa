-- `gather::gather` meets its contract: the first v masks are gathered. Assumes nothing.
use Prim.Native.Nat.{ℕ, ◌<◌}
use lib.ListN.{get_or}
use Rattle.gather.specs.Writers.{Writers}
use Rattle.gather.proofs.gather.Given as goal

abbrev pub invariant-loop-v : goal.invariant-loop-v
invariant-loop-v l = (x : ℕ) → x < l.v → Writers l.n l.bars x (get_or l.c-items x 0)

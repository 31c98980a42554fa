-- `force::press_entry` meets its contract: bar by bar. Assumes nothing.
use Rattle.std.proofs.Common.{ℕ, ◌<◌, ◌≤◌}
use Rattle.sets.specs.Mask.{Has}
use Rattle.force.specs.steps.Press.{AtEach, Presses}
use Rattle.force.proofs.press_entry.Given as goal

abbrev pub invariant-loop-v : goal.invariant-loop-v
invariant-loop-v l = ((v : ℕ) → Has l.v-iterator.left v → (l.k ≤ v) × (v < l.m) × Has l.between v) × Presses l.k l.m (AtEach l.m l.reader l.writer l.between) l.initial.f l.f

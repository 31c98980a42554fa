-- A plain byte memory (demand 3): what it holds while the events run one after another. Laws: proofs/MemoryLaws.antt.
--     memory_after x e m    the memory m when event e has run                 run x m o     when the events of o have run, in that order
--     Explains x m o       run so from m, each event reads, byte by byte, what it is recorded to have seen
-- Assumes nothing.
use Rattle.std.specs.Prelude.{◌≡◌, cond, List, [], ◌∷◌, ◌++◌, ℕ, T}
use Rattle.format.specs.Event.{reads_at, writes_at, saw, wrote}
use Rattle.format.specs.Execution.{Execution, event}

-- the bytes that the event writes, and all others as they were
unfoldable pub memory_after : Execution → ℕ → (ℕ → ℕ) → ℕ → ℕ
memory_after x e m n = cond (writes_at (event x e) n) (wrote (event x e) n) (m n)

unfoldable pub run : Execution → (ℕ → ℕ) → List ℕ → ℕ → ℕ
run x m [] = m
run x m (e ∷ o) = run x (memory_after x e m) o

-- A read-modify-write reads before it writes: what e reads is what the events in front of it left.
abbrev pub Explains : Execution → (ℕ → ℕ) → List ℕ → Type 0
Explains x m o =
    (front rest : List ℕ) (e n : ℕ) → o ≡ front ++ e ∷ rest → T (reads_at (event x e) n) → run x m front n ≡ saw (event x e) n

-- Happens-before (01, "Relations"). Laws: proofs/HappensLaws.antt, proofs/ClosureLaws.antt.
--     agent_order x e d      e is before d in the order of their agent
--     row_syncs x r          the row's own two accesses synchronise             synchronises x e d     e synchronises with d
--     init_first x e d       e is an init, and d another event whose range overlaps it
--     step x e d            any of the three                                   Happens x e d          their transitive closure
--     Tests x hb            the test hb passes exactly where one event happens before another
-- Assumes nothing.
use Rattle.std.specs.Prelude.{◌↔◌, Bool, ℕ, T, eqb, ltb}
use Rattle.basis.specs.Test.{◌and◌, ◌or◌, non, any}
use Rattle.format.specs.declared.Row.{Row}
use Rattle.format.specs.declared.Pair.{Pair}
use Rattle.format.specs.Shape.{overlap, both_sc}
use Rattle.format.specs.Event.{is_init}
use Rattle.format.specs.Execution.{Execution, event}
use Rattle.model.specs.Events.{of_reader, of_writer, any_two}

-- 01: "Agent order: earlier to later event of the same agent. Inits have none."
unfoldable pub agent_order : Execution → ℕ → ℕ → Bool
agent_order x e d = ltb 0 (event x e).agent and eqb (event x e).agent (event x d).agent and ltb e d

-- 01: "each row where both events are sc with equal ranges (same start and width)"
unfoldable pub row_syncs : Execution → Row → Bool
row_syncs x r = both_sc (of_writer x r) (of_reader x r)

-- 01: "W synchronises with R: each pair, first to second; and each row where both events are sc with equal ranges"
unfoldable pub synchronises : Execution → ℕ → ℕ → Bool
synchronises x e d =
    any (λ (p : Pair). eqb p.first e and eqb p.second d) x.pairs
    or any (λ (r : Row). eqb r.writer e and eqb r.reader d and row_syncs x r) x.rows

-- 01: "init to every other event whose range overlaps it"
unfoldable pub init_first : Execution → ℕ → ℕ → Bool
init_first x e d = is_init (event x e) and non (eqb e d) and any_two overlap (event x e) (event x d)

unfoldable pub step : Execution → ℕ → ℕ → Bool
step x e d = agent_order x e d or synchronises x e d or init_first x e d

-- 01: "Happens-before: the transitive closure of agent order, synchronises-with, and init to every other event whose range overlaps it."
pub data Happens (x : Execution) : ℕ → ℕ → Type 0 where
  one : {e d : ℕ} → T (step x e d) → Happens x e d
  more : {e d f : ℕ} → T (step x e d) → Happens x d f → Happens x e f

-- The rules ask a test of happens-before, so that each of them computes; the judge's masks are such a test.
abbrev pub Tests : Execution → (ℕ → ℕ → Bool) → Type 0
Tests x hb = (e d : ℕ) → T (hb e d) ↔ Happens x e d

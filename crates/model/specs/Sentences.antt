-- 01's sentences over events, for executions in which each event has one access: the definitions of this crate, which go access by access (02 §11),
-- say the same there. Proved in proofs/Single.antt.
--     OneAccessEach x, shape x e        each event has one access; the access of event e, without its bytes
--     sync01 init01 between01 torn01 bars01 unsettled01     01's sentences, as tests
--     Meets01 x hb o                    01's sentence on total orders
--     Reduced x hb                      that they are what specs/ defines
-- Assumes nothing.
use Rattle.std.specs.Prelude.{◌≡◌, ◌↔◌, Bool, ℕ, ◌<◌, T, eqb, ltb, length}
use mathlib.Core.List.{List, [], ◌∷◌, Memᴰ}
use Rattle.basis.specs.Test.{◌and◌, ◌or◌, non, any}
use Rattle.format.specs.declared.Shape.{Shape}
use Rattle.format.specs.declared.Row.{Row}
use Rattle.format.specs.Shape.{no_shape, writes, sc, tear_free, covers, overlap, equal}
use Rattle.format.specs.Event.{Access, is_init}
use Rattle.format.specs.Execution.{Execution, event}
use Rattle.orders.specs.Order.{In, Precedes, Distinct, Meets}
use Rattle.model.specs.Happens.{row_syncs, synchronises, init_first}
use Rattle.model.specs.Rules.{breaks24, breaks25}
use Rattle.model.specs.Bar.{row_bars}
use Rattle.model.specs.Order.{problem}
use Rattle.model.specs.Unsettled.{unsettled}

unfoldable pub first_shape : List Access → Shape
first_shape [] = no_shape
first_shape (a ∷ l) = a.shape

unfoldable pub shape : Execution → ℕ → Shape
shape x e = first_shape (event x e).accesses

abbrev pub OneAccessEach : Execution → Type 0
OneAccessEach x = (e : ℕ) → e < length x.events → (a : Access) × ((event x e).accesses ≡ a ∷ [])

-- 01: "both events are sc with equal ranges"
abbrev pub sync01 : Execution → ℕ → ℕ → Bool
sync01 x w r = sc (shape x w) and sc (shape x r) and equal (shape x w) (shape x r)

-- 01: "init to every other event whose range overlaps it"
abbrev pub init01 : Execution → ℕ → ℕ → Bool
init01 x e d = is_init (event x e) and non (eqb e d) and overlap (shape x e) (shape x d)

-- 01, 24: "in a row, a writing V covers A, W happens before V and V before R"
abbrev pub between01 : Execution → (ℕ → ℕ → Bool) → Row → ℕ → Bool
between01 x hb r v = (covers (shape x v) r.address and writes (shape x v)) and hb r.writer v and hb v r.reader

-- 01, 25: "R, W, V tear-free with equal ranges, W < V, and R has rows from both"
abbrev pub torn01 : Execution → ℕ → ℕ → ℕ → Bool
torn01 x r w v =
    tear_free (shape x r) and tear_free (shape x w) and tear_free (shape x v) and equal (shape x r) (shape x w) and equal (shape x r) (shape x v) and ltb w v
    and any (λ (p : Row). eqb p.reader r and eqb p.writer w) x.rows and any (λ (p : Row). eqb p.reader r and eqb p.writer v) x.rows

-- 01: "writing sc event V .. with any of: (a) W synchronises with R, and V, R have equal ranges; (b) W and V happen before R, W is sc, and W, V
-- have equal ranges; (c) W happens before R and before V, R is sc, and V, R have equal ranges"
abbrev pub bars01 : Execution → (ℕ → ℕ → Bool) → ℕ → ℕ → ℕ → Bool
bars01 x hb r w v =
    writes (shape x v) and sc (shape x v)
    and (sync01 x w r and equal (shape x v) (shape x r)
    or hb w r and hb v r and sc (shape x w) and equal (shape x w) (shape x v)
    or hb w r and hb w v and sc (shape x r) and equal (shape x v) (shape x r))

-- 01: "Unsettled pair (e, d), e < d: ranges overlap, one or both write, neither happens before the other, and they are not both sc with equal
-- ranges."
abbrev pub unsettled01 : Execution → (ℕ → ℕ → Bool) → ℕ → ℕ → Bool
unsettled01 x hb e d =
    ltb e d and non (hb e d) and non (hb d e) and overlap (shape x e) (shape x d) and (writes (shape x e) or writes (shape x d)) and non (sync01 x e d)

-- 01: "A total order of all events meets the rules when it contains happens-before and there is no row (R, W) and writing sc event V placed after
-- W and before R with any of: (a) .. (b) .. (c)"
pub record Meets01 (x : Execution) (hb : ℕ → ℕ → Bool) (o : List ℕ) : Type 0 where
  pub events : (e : ℕ) → In e o → e < length x.events
  pub all : (e : ℕ) → e < length x.events → In e o
  pub once : Distinct o
  pub contains : (e d : ℕ) → T (hb e d) → Precedes e d o
  pub no_row : (r : Row) (v : ℕ) → Memᴰ r x.rows → T (bars01 x hb r.reader r.writer v) → Precedes r.writer v o → Precedes v r.reader o → ⊥

pub record Reduced (x : Execution) (hb : ℕ → ℕ → Bool) : Type 0 where
  -- of a row, "W synchronises with R" is said by the row's own two accesses, and these are the events' own
  pub syncs : (r : Row) → Memᴰ r x.rows → row_syncs x r ≡ sync01 x r.writer r.reader
  pub synchronises : (r : Row) → Memᴰ r x.rows → T (synchronises x r.writer r.reader) ↔ T (row_syncs x r)
  pub init : (e d : ℕ) → e < length x.events → d < length x.events → init_first x e d ≡ init01 x e d
  pub between : (r : Row) (v : ℕ) → breaks24 x hb r v ≡ between01 x hb r v
  pub torn : (r w v : ℕ) → T (breaks25 x r w v) ↔ T (torn01 x r w v)
  pub bars : (r : Row) (v : ℕ) → Memᴰ r x.rows → (v ≡ r.reader → ⊥) → (v ≡ r.writer → ⊥)
      → T (row_bars x hb r v) ↔ T (bars01 x hb r.reader r.writer v)
  pub unsettled : (e d : ℕ) → e < length x.events → d < length x.events → unsettled x hb e d ≡ unsettled01 x hb e d
  pub meets : (o : List ℕ) → Meets (problem x hb) o ↔ Meets01 x hb o

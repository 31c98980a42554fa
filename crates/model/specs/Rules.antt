-- The rules 21 to 25 (01, "Rules, in the order they are tested"), each a test that passes where the rule is broken, over a test hb of
-- happens-before; and which of them is named. Laws: proofs/RulesLaws.antt.
--     breaks21 x r, breaks22 hb e, breaks23 hb r, breaks24 x hb r v, breaks25 x r w v     the rule is broken there
--     Fault, fault x hb                                                                   the first that is broken, and whom it names
-- Assumes nothing.
use Rattle.std.specs.Prelude.{Bool, ℕ, eqb, ltb}
use Rattle.std.proofs.Math.Option.{Option}
use Rattle.basis.specs.Test.{◌and◌, non, any, find, ◌else◌, mapped, across}
use Rattle.format.specs.declared.Row.{Row}
use Rattle.format.specs.Shape.{tear_free, equal}
use Rattle.format.specs.Event.{writes_at, saw, wrote}
use Rattle.format.specs.Execution.{Execution, event}
use Rattle.answer.specs.declared.Names.{Names}
use Rattle.answer.specs.declared.Names.TheVariants.{Row as OfRow, Event as OfEvent, Between, Torn}
use Rattle.model.specs.Events.{numbers, of_reader, of_writer}

-- 01: "21: the byte seen differs from the byte its writer wrote"
unfoldable pub breaks21 : Execution → Row → Bool
breaks21 x r = non (eqb (saw (event x r.reader) r.address) (wrote (event x r.writer) r.address))

-- 01: "22: an event happens before itself"
unfoldable pub breaks22 : (ℕ → ℕ → Bool) → ℕ → Bool
breaks22 hb e = hb e e

-- 01: "23: in a row, R happens before W"
unfoldable pub breaks23 : (ℕ → ℕ → Bool) → Row → Bool
breaks23 hb r = hb r.reader r.writer

-- 01: "24: in a row, a writing V covers A, W happens before V and V before R". V is neither R nor W: else an event would happen before
-- itself, and that is 22, which comes first (`between_apart` in proofs/RulesLaws.antt).
unfoldable pub breaks24 : Execution → (ℕ → ℕ → Bool) → Row → ℕ → Bool
breaks24 x hb r v = writes_at (event x v) r.address and hb r.writer v and hb v r.reader

-- both ends of the row are tear-free, with equal ranges
unfoldable pub untorn : Execution → Row → Bool
untorn x r = tear_free (of_reader x r) and tear_free (of_writer x r) and equal (of_reader x r) (of_writer x r)

-- and they are the events r and w
unfoldable pub untorn_from : Execution → ℕ → ℕ → Row → Bool
untorn_from x r w p = eqb p.reader r and eqb p.writer w and untorn x p

-- 01: "25: R, W, V tear-free with equal ranges, W < V, and R has rows from both". The two rows are those of one access of R (02 §11).
unfoldable pub breaks25 : Execution → ℕ → ℕ → ℕ → Bool
breaks25 x r w v =
    ltb w v
    and any (λ (p : Row). untorn_from x r w p and any (λ (q : Row). untorn_from x r v q and equal (of_reader x p) (of_reader x q)) x.rows) x.rows

-- 01: "broken (number, four names)"
pub record Fault : Type 0 where
  pub number : ℕ
  pub names : Names

abbrev pub faulty : ℕ → Names → Fault
faulty n names = record { number = n; names = names }

-- 01: "Each is tested over the whole sheet before the next. Rows are taken in order; then the lowest V. For 22 the lowest event, for 25 the
-- lowest (R, W, V)."
unfoldable pub fault21 : Execution → Option Fault
fault21 x = mapped (λ (r : Row). faulty 21 (OfRow r.reader r.writer r.address)) (find (breaks21 x) x.rows)

unfoldable pub fault22 : Execution → (ℕ → ℕ → Bool) → Option Fault
fault22 x hb = mapped (λ (e : ℕ). faulty 22 (OfEvent e)) (find (breaks22 hb) (numbers x))

unfoldable pub fault23 : Execution → (ℕ → ℕ → Bool) → Option Fault
fault23 x hb = mapped (λ (r : Row). faulty 23 (OfRow r.reader r.writer r.address)) (find (breaks23 hb) x.rows)

unfoldable pub fault24 : Execution → (ℕ → ℕ → Bool) → Option Fault
fault24 x hb =
    mapped (λ (p : Row × ℕ). faulty 24 (Between p.0.reader p.0.writer p.1 p.0.address))
    (find (λ (p : Row × ℕ). breaks24 x hb p.0 p.1) (across x.rows (numbers x)))

unfoldable pub fault25 : Execution → Option Fault
fault25 x =
    mapped (λ (t : ℕ × (ℕ × ℕ)). faulty 25 (Torn t.0 t.1.0 t.1.1))
    (find (λ (t : ℕ × (ℕ × ℕ)). breaks25 x t.0 t.1.0 t.1.1) (across (numbers x) (across (numbers x) (numbers x))))

unfoldable pub fault : Execution → (ℕ → ℕ → Bool) → Option Fault
fault x hb = fault21 x else fault22 x hb else fault23 x hb else fault24 x hb else fault25 x

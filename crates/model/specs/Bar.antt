-- Bars (01, "Rules": (a), (b), (c); 02 §8: "A bar is a triple (R, W, V) of three different events from which 01's (a), (b) or (c) forbids W, V,
-- R in that order."). Laws: proofs/BarLaws.antt.
--     bar_a x r v, bar_b x hb r v, bar_c x hb r v     the three reasons, for a row and an event V
--     row_bars x hb r v                             V is a writing sc event, and one of the three holds
--     bar x hb r w v                               some row of R and W bars V
-- Assumes nothing.
use Rattle.std.specs.Prelude.{Bool, ℕ, eqb}
use Rattle.basis.specs.Test.{◌and◌, ◌or◌, non, any}
use Rattle.format.specs.declared.Row.{Row}
use Rattle.format.specs.Shape.{sc, equal}
use Rattle.format.specs.Event.{writes_at}
use Rattle.format.specs.Execution.{Execution, event}
use Rattle.model.specs.Events.{at_row, of_reader, of_writer}
use Rattle.model.specs.Happens.{row_syncs}

-- 01: "(a) W synchronises with R, and V, R have equal ranges". For a row this is by the row's own two accesses: `syncs_row` in proofs/Single.antt.
unfoldable pub bar_a : Execution → Row → ℕ → Bool
bar_a x r v = row_syncs x r and equal (at_row x r v) (of_reader x r)

-- 01: "(b) W and V happen before R, W is sc, and W, V have equal ranges"
unfoldable pub bar_b : Execution → (ℕ → ℕ → Bool) → Row → ℕ → Bool
bar_b x hb r v = hb r.writer r.reader and hb v r.reader and sc (of_writer x r) and equal (of_writer x r) (at_row x r v)

-- 01: "(c) W happens before R and before V, R is sc, and V, R have equal ranges"
unfoldable pub bar_c : Execution → (ℕ → ℕ → Bool) → Row → ℕ → Bool
bar_c x hb r v = hb r.writer r.reader and hb r.writer v and sc (of_reader x r) and equal (at_row x r v) (of_reader x r)

-- 01: "row (R, W) and writing sc event V .. with any of: (a) .. (b) .. (c)". V is placed after W and before R, so it is neither. V covers the
-- row's byte, which each of the three implies: its range equals that of W or of R (`one_bars` in proofs/Single.antt).
unfoldable pub row_bars : Execution → (ℕ → ℕ → Bool) → Row → ℕ → Bool
row_bars x hb r v =
    non (eqb v r.reader) and non (eqb v r.writer) and writes_at (event x v) r.address and sc (at_row x r v)
    and (bar_a x r v or bar_b x hb r v or bar_c x hb r v)

unfoldable pub bar : Execution → (ℕ → ℕ → Bool) → ℕ → ℕ → ℕ → Bool
bar x hb r w v = any (λ (p : Row). eqb p.reader r and eqb p.writer w and row_bars x hb p v) x.rows

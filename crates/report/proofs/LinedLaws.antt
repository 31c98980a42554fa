-- The laws of specs/Lined.antt.
--     within_put      what is put within the room there is
--     lined_parts     head, events and newline, each put after the other, are the line
--     lined_written   a line that was put, where there was room
--     lined_short     nothing was put, where there was none
--     room_true, room_false    what the test for room says of the line
--     lined_fits      in a buffer of 34 + 4 * n bytes the line of n events is always written
--     lined_unique    two results for the same answer, order and buffer are equal, the buffer too
-- Assumes nothing.
use mathlib.Core.Path.{◌≡◌, refl, sym, ap, ◌∙◌}
use mathlib.Core.Bool.{true, false}
use mathlib.Core.Logic.{⊎_elim}
use mathlib.Core.List.{List, [], ◌∷◌}
use Prim.Native.Nat.{ℕ, ◌+◌, ◌*◌, ◌≤◌, ◌<◌}
use native.Mathlib.Omega.{arith}
use borrow.Author.Tests.{leb-true, leb-false}
use lib.Dec.{leb}
use lib.ListN.{length, get_or}
use Rattle.answer.specs.declared.Answer.{Answer}
use Rattle.answer.specs.Fit.{Fits}
use Rattle.puts.specs.Numbers.{events_text}
use Rattle.line_head.specs.Head.{head_of}
use Rattle.line_head.specs.Within.{PutsWithin}
use Rattle.report.specs.Line.{told, line_of}
use Rattle.puts.specs.Put.{Put, Puts}
use Rattle.report.specs.Lined.{Lined}
use Rattle.puts.proofs.NumberLaws.{less_or_not}
use Rattle.puts.proofs.PutLaws.{put_unique, puts_then, puts_put}
use Rattle.report.proofs.LineLaws.{line_sum, line_bound}

pub within_put : {most : ℕ} {p e f : List ℕ} {m : ℕ} → most ≤ length e → PutsWithin most p 0 m e f → Put p 0 m e f
within_put h w = let n = w.near in puts_put (omega (arith, n)) w.put

pub lined_parts : (x : Answer) (order : List ℕ) {e f g h : List ℕ} {m n r : ℕ} → length (line_of x order) ≤ length e → Puts (head_of x) 0 m e f → Puts (events_text (told x order)) m n f g → Puts (10 ∷ []) n r g h → Put (line_of x order) 0 r e h
unfolding line_of
lined_parts x order l a b c = puts_put (omega (arith, l)) (puts_then (puts_then a b) c)

pub lined_written : (x : Answer) (order : List ℕ) {e f : List ℕ} {r : ℕ} → length (line_of x order) ≤ length e → Put (line_of x order) 0 r e f → Lined x order e r f
lined_written x order fits p =
    record { size = p.size; within = omega arith; counted = omega (arith, ap length p.written); written = λ h. p; short = λ h. absurd (omega arith) }

pub lined_short : (x : Answer) (order e : List ℕ) → length e < length (line_of x order) → Lined x order e 0 e
lined_short x order e h =
    record { size = refl; within = omega arith; counted = refl; written = λ i. absurd (omega arith); short = λ i. (refl, refl) }

-- n bytes of head, the events told, and a newline
module _ (x : Answer) (order events : List ℕ) (n size : ℕ) (head : n ≡ 0 + length (head_of x)) (tells : events ≡ told x order) where
  length_told : length (events_text events) ≡ length (events_text (told x order))
  length_told = ap (λ (l : List ℕ). length (events_text l)) tells

  pub room_true : leb (n + 1 + length (events_text events)) size ≡ true → length (line_of x order) ≤ size
  room_true t = omega (arith, leb-true (n + 1 + length (events_text events)) size t, line_sum x order, length_told)

  pub room_false : leb (n + 1 + length (events_text events)) size ≡ false → size < length (line_of x order)
  room_false t = omega (arith, leb-false (n + 1 + length (events_text events)) size t, line_sum x order, length_told)

pub lined_fits : {x : Answer} {order e f : List ℕ} {r : ℕ} → Lined x order e r f → Fits 256 x → ((i : ℕ) → get_or order i 0 < 256) → 34 + 4 * length order ≤ length e → Put (line_of x order) 0 r e f
lined_fits {x} {order} l h b room = l.written (omega (arith, line_bound x order h b))

pub lined_unique : {x : Answer} {order e f g : List ℕ} {r s : ℕ} → Lined x order e r f → Lined x order e s g → (r ≡ s) × (f ≡ g)
lined_unique {x} {order} {e} {f} {g} {r} {s} a b =
    ⊎_elim
    (λ (h : length e < length (line_of x order)). ((a.short h).0 ∙ sym (b.short h).0, (a.short h).1 ∙ sym (b.short h).1))
    (λ (h : length (line_of x order) ≤ length e). put_unique (a.written h) (b.written h))
    (less_or_not (length e) (length (line_of x order)))

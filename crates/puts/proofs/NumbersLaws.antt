-- The laws of specs/Numbers.antt.
--     numbered_length   a number of 32 bits takes at most 11 bytes with its space
--     byte_length       a byte takes at most 4
--     events_more       one event more of a list
--     events_all        all of a list
--     events_sum        its length is the sum of both
--     events_length     an event, with all before it, is no longer than all of the list
-- Assumes nothing.
use mathlib.Core.Path.{◌≡◌, refl, sym, ap, ◌∙◌}
use mathlib.Core.List.{List, [], ◌∷◌, ◌++◌, append_assoc, append-nil}
use Prim.Native.Nat.{ℕ, ◌+◌, ◌^◌, ◌≤◌, ◌<◌}
use native.Mathlib.Omega.{arith}
use native.Mathlib.Numerals.{add-one}
use lib.ListN.{length, get_or, take, drop, length-append, take-append-drop}
use lib.Seq.{take_all, take-suc}
use Rattle.puts.specs.Numbers.{numbered, events_text}
use Rattle.puts.proofs.DecimalLaws.{decimal_length}

-- ---- numbers

pub numbered_length : (n : ℕ) → n < 2 ^ 32 → length (numbered n) ≤ 11
numbered_length n h = omega (arith, decimal_length 9 n (omega arith))

pub byte_length : (n : ℕ) → n < 256 → length (numbered n) ≤ 4
byte_length n h = omega (arith, decimal_length 2 n (omega arith))

-- ---- events

events_append : (a b : List ℕ) → events_text (a ++ b) ≡ events_text a ++ events_text b
events_append [] b = refl
events_append (e ∷ a) b =
    ap (λ (l : List ℕ). numbered e ++ l) (events_append a b) ∙ sym (append_assoc (numbered e) (events_text a) (events_text b))

pub events_more : (l : List ℕ) (i : ℕ) → i < length l → events_text (take (i + 1) l) ≡ events_text (take i l) ++ numbered (get_or l i 0)
events_more l i h =
    rw (add-one, take-suc l i 0 h, events_append (take i l) (get_or l i 0 ∷ []), append-nil (numbered (get_or l i 0)))

pub events_all : (l : List ℕ) (i : ℕ) → length l ≤ i → events_text (take i l) ≡ events_text l
events_all l i h = ap events_text (take_all i l h)

pub events_sum : (l : List ℕ) (i : ℕ) → i < length l → length (events_text (take (i + 1) l)) ≡ length (events_text (take i l)) + length (numbered (get_or l i 0))
events_sum l i h = ap length (events_more l i h) ∙ length-append (events_text (take i l)) (numbered (get_or l i 0))

pub events_length : (l : List ℕ) (i : ℕ) → i < length l → length (events_text (take i l)) + length (numbered (get_or l i 0)) ≤ length (events_text l)
events_length l i h =
    let whole = ap (λ (m : List ℕ). length (events_text m)) (take-append-drop (i + 1) l) in
    let parts = ap length (events_append (take (i + 1) l) (drop (i + 1) l)) ∙ length-append (events_text (take (i + 1) l)) (events_text (drop (i + 1) l)) in
    omega (arith, events_sum l i h)

-- The laws of specs/Put.antt.
--     put_none      nothing is put
--     put_one       one byte is stored
--     put_then      a piece, and another right after it
--     put_unique    what is put decides the place after it and the buffer
--     puts_none puts_one puts_over puts_then puts_more puts_all puts_unique    the same whatever the room
--     puts_put      where there is room
--     puts_most, puts_full     the place after a piece: no further than its bytes, and the buffer's end where they reach it
--     put_front     a piece at the front of a buffer
-- Assumes nothing.
use mathlib.Core.Path.{◌≡◌, refl, sym, ap, ◌∙◌}
use mathlib.Core.Logic.{◌⊎◌, inl, inr}
use mathlib.Core.Bool.{Bool, true, false, cond}
use mathlib.Core.List.{List, [], ◌∷◌, ◌++◌, append_assoc, append-nil}
use Prim.Native.Nat.{ℕ, ◌+◌, ◌≤◌, ◌<◌}
use native.Mathlib.Omega.{arith}
use borrow.Author.Tests.{lt-ltb, le-ltb, ltb-true, ltb-false}
use lib.Dec.{ltb}
use native.Mathlib.Numerals.{add-one}
use lib.ListN.{length, get_or, take, drop, set, length-append, length-set, take-append-drop}
use lib.Seq.{take_all, take-suc, take-suc-set, drop-set-lt, drop-drop, set_out}
use Rattle.puts.specs.Put.{Put, step, ending, laid, overlaid, Puts}

pub put_none : (at : ℕ) (l : List ℕ) → Put [] at at l l
put_none at l = record { size = refl; after = omega arith; written = sym (append-nil (take at l)); rest = refl }

pub put_one : (b at : ℕ) (l : List ℕ) → at < length l → Put (b ∷ []) at (at + 1) l (set l at b)
put_one b at l h =
    record { size = length-set l at b; after = refl; written = rw add-one (take-suc-set l at b h); rest = drop-set-lt (at + 1) l at b (omega arith) }

-- what is the same from one place on is the same from any later one
drop_later : (m k n : ℕ) (f e : List ℕ) → n ≡ m + k → drop m f ≡ drop m e → drop n f ≡ drop n e
drop_later m k n f e h d = rw (h, ← (drop-drop k m f), ← (drop-drop k m e), d)

pub put_then : {p q e f g : List ℕ} {at m n : ℕ} → Put p at m e f → Put q m n f g → Put (p ++ q) at n e g
put_then {p} {q} {e} {f} {g} {at} {m} {n} a b =
    record {
      size = b.size ∙ a.size;
      after = omega (arith, length-append p q);
      written = b.written ∙ ap (λ (l : List ℕ). l ++ q) a.written ∙ append_assoc (take at e) p q;
      rest = b.rest ∙ drop_later m (length q) n f e b.after a.rest;
    }

pub put_unique : {p e f g : List ℕ} {at m n : ℕ} → Put p at m e f → Put p at n e g → (m ≡ n) × (f ≡ g)
put_unique {p} {e} {f} {g} {at} {m} {n} a b =
    let h : m ≡ n = a.after ∙ sym b.after in
    (h, sym (take-append-drop m f) ∙ rw (a.written, a.rest, h, ← b.written, ← b.rest) (take-append-drop n g))

-- ---- whatever the room

-- a byte put at a place, and one that has none
step_in_lem : (size at : ℕ) → at < size → step size at ≡ at + 1
step_in_lem size at h = ap (λ (b : Bool). cond b (at + 1) at) (lt-ltb at size h)

step_out : (size at : ℕ) → size ≤ at → step size at ≡ at
step_out size at h = ap (λ (b : Bool). cond b (at + 1) at) (le-ltb at size h)

ending_then : (p q : List ℕ) (at size : ℕ) → ending (p ++ q) at size ≡ ending q (ending p at size) size
unfolding ending
ending_then [] q at size = refl
ending_then (b ∷ p) q at size = ending_then p q (step size at) size

laid_then : (p q : List ℕ) (at : ℕ) (l : List ℕ) → laid (p ++ q) at l ≡ laid q (ending p at (length l)) (laid p at l)
unfolding laid ending
laid_then [] q at l = refl
laid_then (b ∷ p) q at l =
    laid_then p q (step (length l) at) (set l at b)
    ∙ ap (λ (n : ℕ). laid q (ending p (step (length l) at) n) (laid p (step (length l) at) (set l at b))) (length-set l at b)

pub puts_none : (at : ℕ) (l : List ℕ) → Puts [] at at l l
unfolding laid ending
puts_none at l = record { size = refl; after = refl; bytes = refl }

pub puts_one : (b at : ℕ) (l : List ℕ) → at < length l → Puts (b ∷ []) at (at + 1) l (set l at b)
unfolding laid ending
puts_one b at l h = record { size = length-set l at b; after = sym (step_in_lem (length l) at h); bytes = refl }

pub puts_over : (b at : ℕ) (l : List ℕ) → length l ≤ at → Puts (b ∷ []) at at l l
unfolding laid ending
puts_over b at l h = record { size = refl; after = sym (step_out (length l) at h); bytes = sym (set_out l at b h) }

pub puts_then : {p q e f g : List ℕ} {at m n : ℕ} → Puts p at m e f → Puts q m n f g → Puts (p ++ q) at n e g
puts_then {p} {q} {e} {f} {g} {at} {m} {n} a b =
    record {
      size = b.size ∙ a.size;
      after = b.after ∙ ap (ending q m) a.size ∙ ap (λ (x : ℕ). ending q x (length e)) a.after ∙ sym (ending_then p q at (length e));
      bytes = b.bytes ∙ ap (laid q m) a.bytes ∙ ap (λ (x : ℕ). laid q x (laid p at e)) a.after ∙ sym (laid_then p q at e);
    }

pub puts_more : (l : List ℕ) (i : ℕ) {e f g : List ℕ} {at m n : ℕ} → i < length l → Puts (take i l) at m e f → Puts (get_or l i 0 ∷ []) m n f g → Puts (take (i + 1) l) at n e g
puts_more l i h a b = rw (add-one, take-suc l i 0 h) (puts_then a b)

pub puts_all : (l : List ℕ) (i : ℕ) {e f : List ℕ} {at n : ℕ} → length l ≤ i → Puts (take i l) at n e f → Puts l at n e f
puts_all l i h a = rw (take_all i l h) at a

pub puts_unique : {p e f g : List ℕ} {at m n : ℕ} → Puts p at m e f → Puts p at n e g → (m ≡ n) × (f ≡ g)
puts_unique a b = (a.after ∙ sym b.after, a.bytes ∙ sym b.bytes)

laid_put : (p : List ℕ) (at : ℕ) (l : List ℕ) → at + length p ≤ length l → Put p at (ending p at (length l)) l (laid p at l)
unfolding laid ending
laid_put [] at l h = put_none at l
laid_put (b ∷ p) at l h =
    let i : at < length l = omega arith in
    let s = step_in_lem (length l) at i in
    let z = length-set l at b in
    let q = laid_put p (at + 1) (set l at b) (omega (arith, z)) in
    rw (s) (put_then (put_one b at l i) (rw z at q))

pub puts_put : {p e f : List ℕ} {at m : ℕ} → at + length p ≤ length e → Puts p at m e f → Put p at m e f
puts_put {p} {e} {f} {at} {m} h a = rw (a.after, a.bytes) (laid_put p at e h)

-- ---- how far a piece reaches

step_most : (size at : ℕ) → step size at ≤ at + 1
step_most size at = go (ltb at size)
  where
    go : (b : Bool) → cond b (at + 1) at ≤ at + 1
    go true = omega arith
    go false = omega arith

step_within : (size at : ℕ) → at ≤ size → (step size at ≤ size) × (size ≤ step size at ⊎ (step size at ≡ at + 1))
step_within size at h = go (ltb at size) refl
  where
    go : (b : Bool) → ltb at size ≡ b → (cond b (at + 1) at ≤ size) × (size ≤ cond b (at + 1) at ⊎ (cond b (at + 1) at ≡ at + 1))
    go true e = let q = ltb-true at size e in (omega arith, inr refl)
    go false e = let q = ltb-false at size e in (h, inl q)

ending_most : (p : List ℕ) (at size : ℕ) → ending p at size ≤ at + length p
unfolding ending
ending_most [] at size = omega arith
ending_most (b ∷ p) at size = let i = ending_most p (step size at) size in let q = step_most size at in omega arith

ending_full : (p : List ℕ) (at size : ℕ) → at ≤ size → size ≤ at + length p → size ≤ ending p at size
unfolding ending
ending_full [] at size h k = omega arith
ending_full (b ∷ p) at size h k = let w = step_within size at h in go w.1 (ending_full p (step size at) size w.0)
  where
    go : size ≤ step size at ⊎ (step size at ≡ at + 1) → (size ≤ step size at + length p → size ≤ ending p (step size at) size) → size ≤ ending p (step size at) size
    go (inl q) ih = ih (omega arith)
    go (inr q) ih = ih (omega arith)

pub puts_most : {p e f : List ℕ} {at m : ℕ} → Puts p at m e f → m ≤ at + length p
puts_most {p} {e} {f} {at} {m} a = let i = ending_most p at (length e) in let q = a.after in omega arith

pub puts_full : {p e f : List ℕ} {at m : ℕ} → Puts p at m e f → at ≤ length e → length e ≤ at + length p → length e ≤ m
puts_full {p} {e} {f} {at} {m} a h k = let i = ending_full p at (length e) h k in let q = a.after in omega arith

pub put_front : {p e f : List ℕ} {m : ℕ} → Put p 0 m e f → (m ≡ length p) × (f ≡ overlaid p e)
put_front {p} {e} {f} {m} a =
    let n : m ≡ length p = (let q = a.after in omega arith) in
    (n, sym (take-append-drop m f) ∙ rw (a.written, a.rest) (ap (λ (k : ℕ). p ++ drop k e) n))

-- The laws of specs/JudgedLine.antt: the events before the first that is unused, one by one. Assumes nothing.
--     placed-start, placed_stop, placed_more, placed_end     a loop that has come to n
use mathlib.Core.Path.{◌≡◌, sym, ap, ◌∙◌}
use mathlib.Core.Bool.{cond}
use mathlib.Core.List.{List, [], ◌∷◌, ◌++◌, append_assoc, append-nil}
use Prim.Native.Nat.{ℕ, suc, ◌+◌, ◌<◌, ◌≤◌}
use native.Mathlib.Numerals.{add-one}
use borrow.Author.Tests.{eq-eqb, ne_eqb}
use lib.Dec.{eqb}
use lib.ListN.{length, get_or, take, drop, drop_of_length-le}
use lib.Seq.{take-suc, drop-cons}
use Rattle.tell.specs.JudgedLine.{unused, placed}

module _ (l : List ℕ) (n : ℕ) (e : placed l ≡ take n l ++ placed (drop n l)) where
  step : n < length l → placed l ≡ take n l ++ cond (eqb (get_or l n 0) unused) [] (get_or l n 0 ∷ placed (drop (suc n) l))
  unfolding placed
  step h = e ∙ ap (λ (k : List ℕ). take n l ++ placed k) (drop-cons l n 0 h)

  pub placed_stop : n < length l → get_or l n 0 ≡ unused → take n l ≡ placed l
  placed_stop h q = sym (step h ∙ rw (eq-eqb (get_or l n 0) unused q) (append-nil (take n l)))

  pub placed_more : n < length l → (get_or l n 0 ≡ unused → ⊥) → placed l ≡ take (n + 1) l ++ placed (drop (n + 1) l)
  placed_more h q =
      step h ∙ rw (ne_eqb (get_or l n 0) unused q) (sym (append_assoc (take n l) (get_or l n 0 ∷ []) (placed (drop (suc n) l))) ∙ ap (λ (k : List ℕ). k ++ placed (drop (suc n) l)) (sym (take-suc l n 0 h)))
      ∙ ap (λ (k : ℕ). take k l ++ placed (drop k l)) (sym (add-one n))

  pub placed_end : length l ≤ n → take n l ≡ placed l
  unfolding placed
  placed_end h = sym (e ∙ ap (λ (k : List ℕ). take n l ++ placed k) (drop_of_length-le l {i = n} h) ∙ append-nil (take n l))

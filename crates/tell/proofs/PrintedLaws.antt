-- The laws of specs/Demands.antt. Assumes nothing.
--     placed_none, placed_front, placed_order     in an order buffer that was full of `unused`, the events put to its front are those placed
--     line_printed                                the line of a verdict, written to a buffer that is enough, is printed
--     told_printed, line_unique                   what is told of a sheet into buffers that are enough is its line, and it has one
use mathlib.Core.Path.{◌≡◌, refl, sym, ap, ◌∙◌, subst}
use mathlib.Core.Logic.{inl, inr}
use mathlib.Core.List.{List, [], ◌∷◌, ◌++◌}
use Prim.Native.Nat.{ℕ, zero, suc, ◌<◌, ◌≤◌}
use native.Mathlib.Omega.{arith}
use borrow.Author.Tests.{ne_eqb}
use lib.ListN.{length, get_or, drop, replicate}
use Rattle.format.specs.Limits.{max_events}
use Rattle.orders.specs.Order.{In}
use Rattle.answer.specs.declared.Answer.{Answer}
use Rattle.answer.specs.Fit.{Fits}
use Rattle.answer.proofs.WordLaws.{fits_more}
use Rattle.report.specs.Line.{line_of}
use Rattle.report.specs.Lined.{Lined}
use Rattle.report.proofs.LineLaws.{line_some}
use Rattle.report.proofs.LinedLaws.{lined_fits}
use Rattle.model.specs.Verdict.{Verdict}
use Rattle.model.proofs.VerdictLaws.{judged_verdict, verdict_few, verdict_unique}
use Rattle.model.proofs.FitLaws.{judged_fits}
use Rattle.tell.specs.Limits.{max_line}
use Rattle.tell.specs.JudgedLine.{unused, placed, JudgedLine}
use Rattle.tell.specs.Demands.{Enough, Line, Printed}

-- ---- the events placed

pub placed_none : (n m : ℕ) → placed (drop n (replicate m unused)) ≡ []
unfolding placed
placed_none zero zero = refl
placed_none zero (suc m) = refl
placed_none (suc n) zero = refl
placed_none (suc n) (suc m) = placed_none n m

pub placed_front : (o rest : List ℕ) → ((e : ℕ) → In e o → e < unused) → placed rest ≡ [] → placed (o ++ rest) ≡ o
unfolding placed
placed_front [] rest below none = none
placed_front (e ∷ o) rest below none =
    let b = below e (inl refl) in
    rw (ne_eqb e unused (λ q. omega arith)) (ap (λ (k : List ℕ). e ∷ k) (placed_front o rest (λ d h. below d (inr h)) none))

-- an order buffer full of `unused` shows just the events that were put to its front
pub placed_order : (o order order' : List ℕ) → order ≡ replicate (length order) unused → order' ≡ o ++ drop (length o) order → ((e : ℕ) → In e o → e < unused)
    → placed order' ≡ o
placed_order o order order' full front below =
    ap placed front ∙ placed_front o (drop (length o) order) below (ap (λ (k : List ℕ). placed (drop (length o) k)) full ∙ placed_none (length o) (length order))

small : (o : List ℕ) (m : ℕ) → 0 < m → ((e : ℕ) → In e o → e < m) → (i : ℕ) → get_or o i 0 < m
small [] m pos below i = pos
small (e ∷ o) m pos below zero = below e (inl refl)
small (e ∷ o) m pos below (suc i) = small o m pos (λ d h. below d (inr h)) i

-- ---- the line

module _ (s order order' out out' : List ℕ) (r : ℕ) (a : Answer) (o : List ℕ) (verdict : Verdict s a o) (fits : Fits 255 a) (few : length o ≤ max_events)
    (below : (e : ℕ) → In e o → e < unused) (room : max_line ≤ length out) (front : order' ≡ o ++ drop (length o) order) where
  pub line_printed : Lined a o out r out' → Printed s order out r order' out'
  line_printed l =
      let p = lined_fits l (fits_more a fits) (small o 256 (omega arith) (λ e h. let b = below e h in omega arith)) (omega arith) in
      record { line = record { answer = a; order = o; verdict = verdict; is = p.written }; some = omega (arith, line_some a o); within = l.within; rest = p.rest; front = front }

-- ---- the sheet

pub told_printed : (s scratch order out : List ℕ) (r : ℕ) (scratch' order' out' : List ℕ) → Enough scratch order out → JudgedLine s scratch order out r scratch' order' out'
    → Printed s order out r order' out'
told_printed s scratch order out r scratch' order' out' e t =
    let p = judged_verdict s scratch order e.scratch_holds e.order_holds scratch' order' t.answer t.judged in
    let below : (d : ℕ) → In d p.told → d < unused = λ d h. let b = p.events d h in omega arith in
    let q = placed_order p.told order order' e.order_unused p.front below in
    line_printed s order order' out out' r t.answer p.told p.verdict (judged_fits s scratch order t.answer scratch' order' t.judged) (verdict_few s t.answer p.told p.verdict) below e.line_holds p.front (subst (λ (z : List ℕ). Lined t.answer z out r out') q t.lined)

pub line_unique : (s k l : List ℕ) → Line s k → Line s l → k ≡ l
line_unique s k l x y =
    let u = verdict_unique s x.answer y.answer x.order y.order x.verdict y.verdict in
    x.is ∙ ap (λ (a : Answer). line_of a x.order) u.0 ∙ ap (line_of y.answer) u.1 ∙ sym y.is

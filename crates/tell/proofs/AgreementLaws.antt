-- Two results that `tell`'s contract allows for the same sheet and buffers are equal: the length and all buffers. Assumes nothing.
--     judged_line_unique
use mathlib.Core.Path.{◌≡◌, subst}
use mathlib.Core.List.{List}
use Prim.Native.Nat.{ℕ}
use Rattle.answer.specs.declared.Answer.{Answer}
use Rattle.model.proofs.JudgedLaws.{judged_unique}
use Rattle.report.specs.Lined.{Lined}
use Rattle.report.proofs.LinedLaws.{lined_unique}
use Rattle.tell.specs.JudgedLine.{placed, JudgedLine}

pub judged_line_unique : (s scratch order out : List ℕ) (r q : ℕ) (a b c d e f : List ℕ) → JudgedLine s scratch order out r a b c → JudgedLine s scratch order out q d e f
    → (r ≡ q) × (a ≡ d) × (b ≡ e) × (c ≡ f)
judged_line_unique s scratch order out r q a b c d e f x y =
    let w = judged_unique s scratch order x.answer y.answer a b d e x.judged y.judged in
    let l : Lined y.answer (placed e) out r c =
    subst (λ (z : Answer). Lined z (placed e) out r c) w.0 (subst (λ (z : List ℕ). Lined x.answer (placed z) out r c) w.2 x.lined) in
    let u = lined_unique l y.lined in
    (u.0, w.1, w.2, u.1)

-- The laws of specs/Word.antt: what is read from a word is the explanation that it was made of. Assumes nothing.
--     explanation_in_lem     explanation_in (why_word x) ≡ x, for explanations that fit
use mathlib.Core.Path.{◌≡◌, refl, ap}
use Prim.Native.Nat.{◌<◌}
use native.Mathlib.Omega.{arith}
use borrow.Author.Tests.{ne_eqb}
use Rattle.basis.specs.Test.{◌and◌}
use Rattle.answer.specs.declared.Settled.{Settled}
use Rattle.answer.specs.declared.Settled.TheVariants.{Orderly, Unsettled}
use Rattle.answer.specs.declared.Answer.TheVariants.{Refused as AnswerRefused, Broken as AnswerBroken, Consistent as AnswerConsistent}
use Rattle.answer.specs.NameOf.{names_of, pair_of}
use Rattle.answer.specs.Number.{settled_number}
use Rattle.answer.specs.Word.{four_bytes}
use Rattle.answer.proofs.WordLaws.{four_more, four_below}
use Rattle.answer.proofs.ReadLaws.{kind_in_lem, number_in_lem, place_in_lem, answer_in_lem}
use Rattle.why.specs.declared.Explanation.{Explanation}
use Rattle.why.specs.declared.Explanation.TheVariants.{Refused, Broken, Consistent, Kept, Small}
use Rattle.why.specs.Word.{why_word, explained, explanation_in, FitsWhy}

settled_small : (s : Settled) → settled_number s < 256
settled_small s = omega (arith, go s)
  where
    go : (s : Settled) → settled_number s < 2
    go Orderly = omega arith
    go (Unsettled e d) = omega arith

pub explanation_in_lem : (x : Explanation) → FitsWhy x → explanation_in (why_word x) ≡ x
unfolding explanation_in ◌and◌
explanation_in_lem (Refused n p) h =
    rw (kind_in_lem 1 n p (omega arith) h.0.0 h.0.1, number_in_lem 1 n p (omega arith) h.0.0 h.0.1, ne_eqb n 16 (λ e. let l = h.1 in omega arith))
    (ap explained (answer_in_lem (AnswerRefused n p) h.0))
explanation_in_lem (Broken n names) h =
    rw (kind_in_lem 2 n (four_bytes (names_of names)) (omega arith) h.0 (four_below (names_of names) (four_more (names_of names) h.1)))
    (ap explained (answer_in_lem (AnswerBroken n names) h))
explanation_in_lem (Consistent s) h =
    rw (kind_in_lem 3 (settled_number s) (four_bytes (pair_of s)) (omega arith) (settled_small s) (four_below (pair_of s) (four_more (pair_of s) h)))
    (ap explained (answer_in_lem (AnswerConsistent s) h))
explanation_in_lem (Kept n) h = rw (kind_in_lem 8 26 n (omega arith) (omega arith) h, place_in_lem 8 26 n (omega arith) (omega arith) h) refl
explanation_in_lem Small h = refl

-- What a loop over the members of a set has done, where `left` are those to come. Assumes nothing.
--     done_none, done_next, done_all     it begins; a member more; nothing is left
use mathlib.Core.Path.{◌≡◌, sym, ap, ◌∙◌, subst}
use mathlib.Core.Bool.{Bool, true, false, not, ◌&&◌}
use Prim.Native.Nat.{ℕ}
use native.Mathlib.Decide.{ℕ_discrete}
use borrow.Author.Tests.{ne_eqb}
use lib.Dec.{eqb}
use Rattle.basis.specs.Test.{◌and◌, ◌or◌, non}
use Rattle.basis.proofs.BoolLaws.{by_bool, amp_and, and_holds, and_fails, and_true, and_false, both_hold, or_fails, or_none, non_holds, not_both, eqb_self}
use Rattle.sets.specs.Mask.{mem, Has, remove}
use Rattle.sets.proofs.MaskLaws.{mem_empty, mem_remove}

-- what is left is not done
not_yet : (w m b : Bool) → m ≡ true → ((w and non m) and b) ≡ false
unfolding non
not_yet w m b h = and_fails (w and non m) b (ap (λ (c : Bool). w and non c) h ∙ and_false w)

pub done_none : (w b : Bool) → ((w and non w) and b) ≡ false
done_none w b = by_bool w (λ p. not_yet w w b p) (λ p. and_fails (w and non w) b (and_fails w (non w) p))

pub done_all : (ws v : ℕ) (b : Bool) → ((mem ws v and non (mem 0 v)) and b) ≡ (mem ws v and b)
done_all ws v b = ap (λ (c : Bool). (mem ws v and c) and b) (non_holds _ (mem_empty v)) ∙ ap (λ (c : Bool). c and b) (and_true (mem ws v))

module _ (ws left v : ℕ) (has : Has left v) (of : Has ws v) (X : ℕ → Bool) where
  gone : mem (remove left v) v ≡ false
  gone = mem_remove left v v ∙ not_both (mem left v) (eqb v v) (λ h. eqb_self v)

  same : (d : ℕ) → (d ≡ v → ⊥) → mem left d ≡ mem (remove left v) d
  same d f = sym (mem_remove left v d ∙ ap (λ (b : Bool). mem left d && not b) (ne_eqb d v f) ∙ amp_and (mem left d) true ∙ and_true (mem left d))

  abbrev Next : ℕ → Type 0
  Next d = (((mem ws d and non (mem left d)) and X d) or (X v and eqb d v)) ≡ ((mem ws d and non (mem (remove left v) d)) and X d)

  here : Next v
  here =
      or_fails ((mem ws v and non (mem left v)) and X v) (X v and eqb v v) (not_yet (mem ws v) (mem left v) (X v) has)
      ∙ ap (λ (b : Bool). X v and b) (eqb_self v) ∙ and_true (X v)
      ∙ sym (and_holds (mem ws v and non (mem (remove left v) v)) (X v) (both_hold (mem ws v) _ of (non_holds _ gone)))

  other : (d : ℕ) → (d ≡ v → ⊥) → Next d
  other d f =
      ap (λ (b : Bool). ((mem ws d and non (mem left d)) and X d) or (X v and b)) (ne_eqb d v f)
      ∙ ap (λ (b : Bool). ((mem ws d and non (mem left d)) and X d) or b) (and_false (X v))
      ∙ or_none ((mem ws d and non (mem left d)) and X d) ∙ ap (λ (b : Bool). (mem ws d and non b) and X d) (same d f)

  pub done_next : (d : ℕ) → (((mem ws d and non (mem left d)) and X d) or (X v and eqb d v)) ≡ ((mem ws d and non (mem (remove left v) d)) and X d)
  done_next d = go (ℕ_discrete d v)
    where
      go : Dec (d ≡ v) → Next d
      go (yes z) = subst Next (sym z) here
      go (no z) = other d z

-- The laws of specs/Memory.antt. Assumes nothing.
--     untouched       bytes that no event of a list writes stay
--     last_writer     a byte holds what the last event that writes it wrote
use mathlib.Core.Path.{◌≡◌, refl, sym, ◌∙◌, ap, subst}
use mathlib.Core.Logic.{inl, inr}
use mathlib.Core.List.{List, [], ◌∷◌}
use Prim.Native.Nat.{ℕ}
use lib.Dec.{T}
use Rattle.basis.proofs.BoolLaws.{cond_true, cond_false}
use Rattle.format.specs.Event.{writes_at, wrote}
use Rattle.format.specs.Execution.{Execution, event}
use Rattle.orders.specs.Order.{In, Precedes}
use Rattle.model.specs.Memory.{memory_after, run}

module _ (x : Execution) (n : ℕ) where
  pub untouched : (o : List ℕ) (m : ℕ → ℕ) → ((v : ℕ) → In v o → T (writes_at (event x v) n) → ⊥) → run x m o n ≡ m n
  unfolding run memory_after
  untouched [] m h = refl
  untouched (e ∷ o) m h = untouched o (memory_after x e m) (λ v k. h v (inr k)) ∙ cond_false (writes_at (event x e) n) _ _ (h e (inl refl))

  pub last_writer : (o : List ℕ) (m : ℕ → ℕ) (w : ℕ) → In w o → T (writes_at (event x w) n) → ((v : ℕ) → T (writes_at (event x v) n) → Precedes w v o → ⊥)
      → run x m o n ≡ wrote (event x w) n
  unfolding run memory_after
  last_writer [] m w i t h = absurd i
  last_writer (e ∷ o) m w (inl q) t h =
      untouched o (memory_after x e m) (λ v k s. h v s (inl (q, k)))
      ∙ cond_true (writes_at (event x e) n) _ _ (subst (λ (d : ℕ). T (writes_at (event x d) n)) q t) ∙ ap (λ (d : ℕ). wrote (event x d) n) (sym q)
  last_writer (e ∷ o) m w (inr i) t h = last_writer o (memory_after x e m) w i t (λ v s b. h v s (inr b))

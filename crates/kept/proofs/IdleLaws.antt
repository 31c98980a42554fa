-- The laws of specs/steps/Idle.antt: an idle bar more keeps an order (orders' `Idles`). Assumes nothing.
--     idle_facts      what the test says
--     leaves_idle     an idle bar more leaves an order where there was one
use Prim.Native.Nat.{ℕ, ◌<◌, ◌≤◌}
use mathlib.Core.Path.{◌≡◌, refl, subst}
use mathlib.Core.Bool.{true, ◌&&◌}
use mathlib.Core.Logic.{◌⊎◌, inl, inr, ⊎_elim}
use mathlib.Core.List.Memᴰ
use mathlib.Core.List.{List, [], ◌∷◌, ◌++◌, Memᴰ}
use borrow.Author.Tests.{leb-true}
use lib.Dec.{T, leb}
use lib.ListN.{get_or}
use Rattle.basis.specs.Test.{each}
use Rattle.basis.proofs.BoolLaws.{bar_cases, and_parts}
use Rattle.basis.proofs.ListLaws.{each_elim, each_mem}
use Rattle.sets.specs.Mask.{mem}
use Rattle.orders.specs.Problem.{Problem}
use Rattle.orders.specs.Posed.{Triple, posed}
use Rattle.orders.specs.Spare.{Idles}
use Rattle.orders.proofs.SameLaws.{idle_same}
use Rattle.kept.specs.Bars.{before_in}
use Rattle.kept.specs.steps.Numbers.{reader_of, writer_of, between_of, triple_of}
use Rattle.kept.specs.steps.Idle.{Idle, is_idle}
use Rattle.kept.specs.steps.Thin.{LeavesBy}
use Rattle.kept.proofs.KeptLaws.{sub_one, sub_in}
use Rattle.kept.proofs.BarsLaws.{before_is}

pub idle_facts : (k : ℕ) (before : List ℕ) (i : ℕ) → is_idle k before i ≡ true → Idle k before i
unfolding is_idle
idle_facts k before i h = ⊎_elim inl (λ t. let b = and_parts (leb k (writer_of i)) (mem (get_or before (writer_of i) 0) (between_of i)) t in inr (leb-true k (writer_of i) b.0, b.1))
    (bar_cases (mem (get_or before (between_of i) 0) (reader_of i)) (leb k (writer_of i) && mem (get_or before (writer_of i) 0) (between_of i)) h)

module _ (m : ℕ) (before : List ℕ) (k i : ℕ) (writer : writer_of i < m) (between : between_of i < m) (idle : Idle k before i) where
  abbrev P : List ℕ → Problem
  P l = posed m (before_in m before) (each triple_of l)

  -- the bar i by its parts
  settled : (b : Triple) → triple_of i ≡ b → T (before_in m before b.0 b.1.1) ⊎ ((k ≤ b.1.0) × T (before_in m before b.1.1 b.1.0))
  settled b e =
      subst (λ (c : Triple). T (before_in m before c.0 c.1.1) ⊎ ((k ≤ c.1.0) × T (before_in m before c.1.1 c.1.0))) e
      (⊎_elim (λ h. inl ((before_is m before (reader_of i) (between_of i)).1 (between, h))) (λ h. inr (h.0, (before_is m before (between_of i) (writer_of i)).1 (writer, h.1))) idle)

  split : (p q : List ℕ) (j : ℕ) → Memᴰ j (p ++ (i ∷ q)) → (j ≡ i) ⊎ Memᴰ j (p ++ q)
  split [] q j h = Memᴰ.cases_cons h
  split (x ∷ p) q j h = ⊎_elim (λ e. inr (Memᴰ.head e)) (λ g. ⊎_elim inl (λ y. inr (Memᴰ.tail y)) (split p q j g)) (Memᴰ.cases_cons h)

  spares : (p q : List ℕ) → Idles (P (p ++ (i ∷ q))) (P (p ++ q)) k
  spares p q =
      record {
        events = refl;
        before = λ a b. ((λ h. h), (λ h. h));
        fewer = λ r w v h. let x = each_elim triple_of (p ++ q) (r, (w, v)) h in
            subst (λ (b : Triple). Memᴰ b (each triple_of (p ++ (i ∷ q)))) x.1.1 (each_mem triple_of (p ++ (i ∷ q)) x.0 (sub_in (sub_one p i q) x.0 x.1.0));
        settles = λ r w v h. let x = each_elim triple_of (p ++ (i ∷ q)) (r, (w, v)) h in go r w v x.0 x.1.1 (split p q x.0 x.1.0);
      }
    where
      go : (r w v j : ℕ) → triple_of j ≡ (r, (w, v)) → (j ≡ i) ⊎ Memᴰ j (p ++ q)
          → Memᴰ {A = Triple} (r, (w, v)) (each triple_of (p ++ q)) ⊎ (T (before_in m before r v) ⊎ ((k ≤ w) × T (before_in m before v w)))
      go r w v j e (inl f) = inr (settled (r, (w, v)) (subst (λ (y : ℕ). triple_of y ≡ (r, (w, v))) f e))
      go r w v j e (inr h) = inl (subst (λ (b : Triple). Memᴰ b (each triple_of (p ++ q))) e (each_mem triple_of (p ++ q) j h))

  pub leaves_idle : (p q : List ℕ) → LeavesBy m before k (p ++ q) → LeavesBy m before k (p ++ (i ∷ q))
  leaves_idle p q (o, r) = (o, (idle_same (P (p ++ (i ∷ q))) (P (p ++ q)) k (spares p q) o).1 r)

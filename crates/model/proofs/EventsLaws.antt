-- The laws of specs/Events.antt. Assumes nothing.
--     two_elim, two_intro, two_at        some access of the one and some access of the other
--     number_mem                         the numbers of all events
use mathlib.Core.Path.{sym, subst}
use mathlib.Core.Bool.{Bool}
use mathlib.Core.List.{Memᴰ}
use Prim.Native.Nat.{ℕ, ◌<◌, zero-le}
use native.Mathlib.Omega.{arith}
use lib.Dec.{T}
use lib.ListN.{length}
use Rattle.basis.specs.Test.{any}
use Rattle.basis.proofs.ListLaws.{from_mem}
use Rattle.basis.proofs.LoopLaws.{any_elim, any_intro}
use Rattle.format.specs.declared.Shape.{Shape}
use Rattle.format.specs.Shape.{covers}
use Rattle.format.specs.Event.{Access, Event, shape_at}
use Rattle.format.specs.Execution.{Execution}
use Rattle.format.proofs.ExecutionLaws.{shape_mem}
use Rattle.model.specs.Events.{numbers, any_two}

module _ (f : Shape → Shape → Bool) (a b : Event) where
  pub two_elim : T (any_two f a b) → (p : Access) × Memᴰ p a.accesses × (q : Access) × Memᴰ q b.accesses × T (f p.shape q.shape)
  unfolding any_two
  two_elim t =
      let w = any_elim (λ (p : Access). any (λ (q : Access). f p.shape q.shape) b.accesses) a.accesses t in
      let v = any_elim (λ (q : Access). f w.0.shape q.shape) b.accesses w.2 in
      (w.0, w.1, v.0, v.1, v.2)

  pub two_intro : (p q : Access) → Memᴰ p a.accesses → Memᴰ q b.accesses → T (f p.shape q.shape) → T (any_two f a b)
  unfolding any_two
  two_intro p q m k t =
      any_intro (λ (u : Access). any (λ (v : Access). f u.shape v.shape) b.accesses) a.accesses p m
      (any_intro (λ (v : Access). f p.shape v.shape) b.accesses q k t)

  -- by the accesses at a byte that both cover
  pub two_at : (n : ℕ) → T (covers (shape_at a n) n) → T (covers (shape_at b n) n) → T (f (shape_at a n) (shape_at b n)) → T (any_two f a b)
  two_at n s t h =
      let u = shape_mem a n s in
      let v = shape_mem b n t in
      two_intro u.0 v.0 u.1 v.1
      (subst (λ (k : Shape). T (f k v.0.shape)) (sym u.2) (subst (λ (k : Shape). T (f (shape_at a n) k)) (sym v.2) h))

module _ (x : Execution) where
  pub number_mem : (e : ℕ) → e < length x.events → Memᴰ e (numbers x)
  unfolding numbers
  number_mem e h = from_mem (length x.events) 0 e zero-le (omega arith)

-- The laws of specs/Order.antt: whole orders, and the same one event at a time. Assumes nothing.
--     meets_runs runs_meets      an order meets the problem exactly where it can be placed one event at a time
--     first_meets none_meets     so the first is the same, and where none can be placed none meets it
--     meets_fewer                fewer bars and fewer constraints keep an order
--     meets_same first_same      the same demands have the same orders, and the same first of them
use Prim.Native.Nat.{ℕ, ◌<◌}
use mathlib.Core.Path.{◌≡◌, refl, sym, subst}
use mathlib.Core.Logic.{◌⊎◌, inl, inr, ⊎_elim, ◌↔◌}
use mathlib.Core.List.{List, [], ◌∷◌}
use Rattle.orders.specs.Problem.{Problem}
use Rattle.orders.specs.Order.{In, Precedes, Distinct, Meets}
use Rattle.orders.specs.First.{FirstOf}
use Rattle.orders.specs.Step.{With, Ready, Runs, Dead}
use Rattle.orders.specs.Inits.{Begins}
use Rattle.orders.proofs.FirstLaws.{first_map}

-- no event is placed
abbrev pub None : ℕ → Type 0
None d = ⊥

pub precedes_in : (a b : ℕ) (l : List ℕ) → Precedes a b l → In b l
precedes_in a b [] h = h
precedes_in a b (x ∷ l) (inl h) = inr h.1
precedes_in a b (x ∷ l) (inr h) = inr (precedes_in a b l h)

-- ---- from steps to the whole

module _ (P : Problem) where
  runs_fresh : (l : List ℕ) (S : ℕ → Type 0) → Runs P S l → (e : ℕ) → In e l → S e → ⊥
  runs_fresh [] S r e h s = h
  runs_fresh (x ∷ l) S r e (inl h) s = r.0.fresh (subst S h s)
  runs_fresh (x ∷ l) S r e (inr h) s = runs_fresh l (With S x) r.1 e h (inr s)

  runs_events : (l : List ℕ) (S : ℕ → Type 0) → Runs P S l → (e : ℕ) → In e l → e < P.events
  runs_events [] S r e h = absurd h
  runs_events (x ∷ l) S r e (inl h) = subst (λ (y : ℕ). y < P.events) (sym h) r.0.event
  runs_events (x ∷ l) S r e (inr h) = runs_events l (With S x) r.1 e h

  runs_once : (l : List ℕ) (S : ℕ → Type 0) → Runs P S l → Distinct l
  runs_once [] S r = tt
  runs_once (x ∷ l) S r = ((λ h. runs_fresh l (With S x) r.1 x h (inl refl)), runs_once l (With S x) r.1)

  runs_all : (l : List ℕ) (S : ℕ → Type 0) → Runs P S l → (e : ℕ) → e < P.events → S e ⊎ In e l
  runs_all [] S r e h = inl (r e h)
  runs_all (x ∷ l) S r e h = go (runs_all l (With S x) r.1 e h)
    where
      go : With S x e ⊎ In e l → S e ⊎ In e (x ∷ l)
      go (inl (inl p)) = inr (inl p)
      go (inl (inr s)) = inl s
      go (inr i) = inr (inr i)

  runs_before : (l : List ℕ) (S : ℕ → Type 0) → Runs P S l → (a b : ℕ) → P.Before a b → In b l → S a ⊎ Precedes a b l
  runs_before [] S r a b h i = absurd i
  runs_before (x ∷ l) S r a b h (inl p) = inl (r.0.after a (subst (λ (y : ℕ). P.Before a y) p h))
  runs_before (x ∷ l) S r a b h (inr i) = go (runs_before l (With S x) r.1 a b h i)
    where
      go : With S x a ⊎ Precedes a b l → S a ⊎ Precedes a b (x ∷ l)
      go (inl (inl p)) = inr (inl (p, i))
      go (inl (inr s)) = inl s
      go (inr q) = inr (inr q)

  -- where v comes before r, the bar's w is neither placed nor before v
  runs_bars : (l : List ℕ) (S : ℕ → Type 0) → Runs P S l → (r w v : ℕ) → P.Bar r w v → Precedes v r l → S w ⊎ Precedes w v l → ⊥
  runs_bars [] S t r w v h q s = q
  runs_bars (x ∷ l) S t r w v h (inl q) (inl s) =
      runs_fresh (x ∷ l) S t r (inr q.1) (t.0.clear r w (subst (λ (y : ℕ). P.Bar r w y) q.0 h) s)
  runs_bars (x ∷ l) S t r w v h (inl q) (inr (inl s)) = runs_fresh l (With S x) t.1 v s.1 (inl q.0)
  runs_bars (x ∷ l) S t r w v h (inl q) (inr (inr s)) = runs_fresh l (With S x) t.1 v (precedes_in w v l s) (inl q.0)
  runs_bars (x ∷ l) S t r w v h (inr q) (inl s) = runs_bars l (With S x) t.1 r w v h q (inl (inr s))
  runs_bars (x ∷ l) S t r w v h (inr q) (inr (inl s)) = runs_bars l (With S x) t.1 r w v h q (inl (inl s.0))
  runs_bars (x ∷ l) S t r w v h (inr q) (inr (inr s)) = runs_bars l (With S x) t.1 r w v h q (inr s)

  -- ---- from the whole to steps

  -- what `Meets` says of the rest of an order, with the events of S placed
  record Rest (S : ℕ → Type 0) (l : List ℕ) : Type 0 where
    events : (e : ℕ) → In e l → e < P.events
    fresh : (e : ℕ) → In e l → S e → ⊥
    all : (e : ℕ) → e < P.events → S e ⊎ In e l
    once : Distinct l
    before : (a b : ℕ) → P.Before a b → In b l → S a ⊎ Precedes a b l
    bars : (r w v : ℕ) → P.Bar r w v → S w ⊎ Precedes w v l → Precedes v r l → ⊥

  module _ {k : ℕ} (begins : Begins P k) where
    rest_ready : (S : ℕ → Type 0) (x : ℕ) (l : List ℕ) → Rest S (x ∷ l) → Ready P S x
    rest_ready S x l m =
        record {
          event = m.events x (inl refl);
          fresh = m.fresh x (inl refl);
          after = λ a h. placed a (m.before a x h (inl refl));
          clear = λ r w h s. both r w h s (m.all r (begins.bar_event r w x h));
        }
      where
        placed : (a : ℕ) → S a ⊎ Precedes a x (x ∷ l) → S a
        placed a (inl s) = s
        placed a (inr (inl q)) = absurd (m.once.0 q.1)
        placed a (inr (inr q)) = absurd (m.once.0 (precedes_in a x l q))

        both : (r w : ℕ) → P.Bar r w x → S w → S r ⊎ In r (x ∷ l) → S r
        both r w h s (inl t) = t
        both r w h s (inr (inl p)) = absurd (begins.bar_apart r w x h p)
        both r w h s (inr (inr i)) = absurd (m.bars r w x h (inl s) (inl (refl, i)))

    rest_next : (S : ℕ → Type 0) (x : ℕ) (l : List ℕ) → Rest S (x ∷ l) → Rest (With S x) l
    rest_next S x l m =
        record {
          events = λ e i. m.events e (inr i);
          fresh = λ e i. ⊎_elim (λ p. m.once.0 (subst (λ (y : ℕ). In y l) p i)) (m.fresh e (inr i));
          all = λ e h. moved e (m.all e h);
          once = m.once.1;
          before = λ a b h i. ahead a b i (m.before a b h (inr i));
          bars = λ r w v h s q. m.bars r w v h (held w v (precedes_in' v r q) s) (inr q);
        }
      where
        moved : (e : ℕ) → S e ⊎ In e (x ∷ l) → With S x e ⊎ In e l
        moved e (inl s) = inl (inr s)
        moved e (inr (inl p)) = inl (inl p)
        moved e (inr (inr i)) = inr i

        ahead : (a b : ℕ) → In b l → S a ⊎ Precedes a b (x ∷ l) → With S x a ⊎ Precedes a b l
        ahead a b i (inl s) = inl (inr s)
        ahead a b i (inr (inl q)) = inl (inl q.0)
        ahead a b i (inr (inr q)) = inr q

        precedes_in' : (a b : ℕ) → Precedes a b l → In a l
        precedes_in' a b q = first_in a b l q
          where
            first_in : (a b : ℕ) (l : List ℕ) → Precedes a b l → In a l
            first_in a b [] h = h
            first_in a b (y ∷ k) (inl h) = inl h.0
            first_in a b (y ∷ k) (inr h) = inr (first_in a b k h)

        held : (w v : ℕ) → In v l → With S x w ⊎ Precedes w v l → S w ⊎ Precedes w v (x ∷ l)
        held w v i (inl (inl p)) = inr (inl (p, i))
        held w v i (inl (inr s)) = inl s
        held w v i (inr q) = inr (inr q)

    rest_runs : (l : List ℕ) (S : ℕ → Type 0) → Rest S l → Runs P S l
    rest_runs [] S m = λ e h. ⊎_elim (λ s. s) (λ i. absurd i) (m.all e h)
    rest_runs (x ∷ l) S m = (rest_ready S x l m, rest_runs l (With S x) (rest_next S x l m))

    pub meets_runs : (l : List ℕ) → Meets P l → Runs P None l
    meets_runs l m =
        rest_runs l None
        (record {
          events = m.events;
          fresh = λ e i s. s;
          all = λ e h. inr (m.all e h);
          once = m.once;
          before = λ a b h i. inr (m.before a b h);
          bars = λ r w v h s. ⊎_elim (λ z. absurd z) (λ q. m.bars r w v h q) s;
        })

    pub runs_meets : (l : List ℕ) → Runs P None l → Meets P l
    runs_meets l r =
        record {
          events = runs_events l None r;
          all = λ e h. ⊎_elim (λ z. absurd z) (λ i. i) (runs_all l None r e h);
          once = runs_once l None r;
          before = λ a b h. ⊎_elim (λ z. absurd z) (λ q. q) (runs_before l None r a b h (⊎_elim (λ z. absurd z) (λ i. i) (runs_all l None r b (begins.before_event a b h))));
          bars = λ x w v h q t. runs_bars l None r x w v h t (inr q);
        }

    -- so the first order that meets the rules is the first that can be placed
    pub first_meets : (l : List ℕ) → FirstOf (Runs P None) l → FirstOf (Meets P) l
    first_meets = first_map (Runs P None) (Meets P) runs_meets meets_runs

    pub none_meets : Dead P None → (l : List ℕ) → Meets P l → ⊥
    none_meets d l m = d l (meets_runs l m)

-- fewer demands: what met more still meets these
pub meets_fewer : (P Q : Problem) → Q.events ≡ P.events → ((a b : ℕ) → Q.Before a b → P.Before a b) → ((r w v : ℕ) → Q.Bar r w v → P.Bar r w v)
    → (l : List ℕ) → Meets P l → Meets Q l
meets_fewer P Q e f g l m =
    record {
      events = λ x i. rw e (m.events x i);
      all = λ x h. m.all x (rw e at h);
      once = m.once;
      before = λ a b h. m.before a b (f a b h);
      bars = λ r w v h. m.bars r w v (g r w v h);
    }

-- the same demands: the same orders, and the same first of them
module _ (P Q : Problem) (events : Q.events ≡ P.events) (before : (a b : ℕ) → P.Before a b ↔ Q.Before a b)
    (bars : (r w v : ℕ) → P.Bar r w v ↔ Q.Bar r w v) where
  pub meets_same : (l : List ℕ) → Meets P l ↔ Meets Q l
  meets_same l = (
    meets_fewer P Q events (λ a b. (before a b).1) (λ r w v. (bars r w v).1) l,
    meets_fewer Q P (sym events) (λ a b. (before a b).0) (λ r w v. (bars r w v).0) l,
  )

  pub first_same : (l : List ℕ) → FirstOf (Meets P) l → FirstOf (Meets Q) l
  first_same = first_map (Meets P) (Meets Q) (λ k. (meets_same k).0) (λ k. (meets_same k).1)

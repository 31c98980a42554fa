-- What a count of the sets knows where it stands. Assumes nothing.
--     Found, Tally  the sets counted so far, and what follows them
--     tally_start tally_on tally_back    the start, a step on, a step back
--     tally_over tally_end               what is then known, where the limit is passed and where no way is left
use Prim.Native.Nat.{ℕ, ◌+◌, ◌-◌, ◌/◌, ◌^◌, ◌<◌, ◌≤◌}
use mathlib.Core.Path.{◌≡◌, refl, sym, ap, subst, ◌∙◌}
use mathlib.Core.Bool.{true}
use mathlib.Core.Logic.{◌⊎◌, inl, inr, ⊎_elim}
use mathlib.Core.List.{List, [], ◌∷◌}
use native.Mathlib.Omega.{arith}
use lib.ListN.{length, get_or, set, take}
use Rattle.basis.proofs.BoolLaws.{not_both_ways, false_of}
use Rattle.sets.specs.Mask.{mem, Has, insert, full, above}
use Rattle.marks.specs.Table.{is_marked, marking}
use Rattle.sets.proofs.MaskLaws.{insert_gt, above_lt, above_inj}
use Rattle.marks.proofs.TableLaws.{marking_new, marking_old, marking_cases}
use Rattle.orders.specs.Problem.{Problem}
use Rattle.orders.specs.Order.{In, Distinct}
use Rattle.orders.specs.Step.{Ready}
use Rattle.orders.specs.Walk.{NextIs, Starting}
use Rattle.reach.specs.Reachable.{Reached, start, place, Counted, Exceeds}
use Rattle.orders.proofs.TrailLaws.{placed, placed_le, On, on_more, on_end, on_less, Full, Readies}
use Rattle.orders.proofs.StandLaws.{Stand, grown, grown_full, spot_table, next_path, last_path, last_at}

trail_reached : (P : Problem) (s₀ : ℕ) (p : List ℕ) (s : ℕ) → Readies P s p → Reached P s₀ s → Reached P s₀ (placed s p)
trail_reached P s₀ [] s t r = r
trail_reached P s₀ (x ∷ p) s t r = trail_reached P s₀ p (insert s x) t.1 (place r t.0)

-- the sets found so far: those marked, and the first
pub record Found (P : Problem) (k : ℕ) (table : List ℕ) (n : ℕ) : Type 0 where
  pub sets : List ℕ
  pub number : length sets ≡ n
  pub once : Distinct sets
  pub reached : (t : ℕ) → In t sets → Reached P (full k) t
  pub first : In (full k) sets
  pub marked : (t : ℕ) → In t sets → (t ≡ full k) ⊎ (is_marked table (above t k) ≡ true)
  pub known : (t : ℕ) → t < 2 ^ P.events → Full k t → is_marked table (above t k) ≡ true → In t sets

-- each that is not on the way has all that can follow it among them
pub record Tally (P : Problem) (k : ℕ) (p table : List ℕ) (n : ℕ) : Type 0 where
  pub found : Found P k table n
  pub closed : (t : ℕ) → In t found.sets → On t (full k) p ⊎ ((e : ℕ) → Ready P (Has t) e → In (insert t e) found.sets)

-- more than the limit were found
pub tally_over : {P : Problem} {k : ℕ} {p table : List ℕ} {n : ℕ} → Tally P k p table n → {limit : ℕ} → limit < n → Exceeds P (full k) limit
tally_over w l = let f = w.found in record { sets = f.sets; once = f.once; reached = f.reached; over = let n = f.number in omega arith }

reached_in : (P : Problem) (s₀ : ℕ) (sets : List ℕ) → In s₀ sets → ((t : ℕ) → In t sets → (e : ℕ) → Ready P (Has t) e → In (insert t e) sets) → (t : ℕ) → Reached P s₀ t → In t sets
reached_in P s₀ sets a f t start = a
reached_in P s₀ sets a f t (place {s = s} {e = e} r h) = f s (reached_in P s₀ sets a f s r) e h

module _ {P : Problem} {k : ℕ} {table₀ path₀ : List ℕ} (st : Starting P k table₀ path₀) where
  pub tally_start : Tally P k [] table₀ 1
  tally_start =
      record {
        found = record {
          sets = full k ∷ [];
          number = refl;
          once = ((λ h. h), tt);
          reached = λ t h. subst (λ (x : ℕ). Reached P (full k) x) (sym (only t h)) start;
          first = inl refl;
          marked = λ t h. inl (only t h);
          known = λ t a b c. absurd (not_both_ways c (st.blank (above t k) (above_lt k P.events t st.inits a)));
        };
        closed = λ t h. inl (only t h);
      }
    where
      only : (t : ℕ) → In t (full k ∷ []) → t ≡ full k
      only t h = ⊎_elim (λ p. p) (λ z. absurd z) h

  module _ {table path : List ℕ} {s depth from n : ℕ} (g : Stand P k table₀ table path s depth from) (w : Tally P k (take depth path) table n) where
    pub tally_on : {e : ℕ} → e < P.events → NextIs P k table s e
        → Tally P k (take (depth + 1) (set path depth e)) (marking table (above (insert s e) k)) (n + 1)
    tally_on {e} h l =
        subst (λ (q : List ℕ). Tally P k q (marking table (above (insert s e) k)) (n + 1)) (next_path st g r)
        (record {
          found = record {
            sets = insert s e ∷ f.sets;
            number = let i = f.number in omega arith;
            once = (new, f.once);
            reached = λ t. ⊎_elim (λ p. subst (λ (x : ℕ). Reached P (full k) x) (sym p) (place here r)) (f.reached t);
            first = inr f.first;
            marked = λ t. ⊎_elim (λ p. inr (subst (λ (x : ℕ). is_marked (marking table (above (insert s e) k)) (above x k) ≡ true) (sym p) (marking_new table (above (insert s e) k) spot)))
                (λ i. ⊎_elim inl (λ y. inr (marking_old table (above (insert s e) k) spot (above t k) y)) (f.marked t i));
            known = λ t a b c. ⊎_elim (λ x. inr (f.known t a b x)) (λ x. inl (above_inj k t (insert s e) b (grown_full st g r) x))
                (marking_cases table (above (insert s e) k) spot (above t k) c);
          };
          closed = λ t. ⊎_elim (λ p. inl (on_end (take depth path) t (full k) e (p ∙ ap (λ (x : ℕ). insert x e) g.at)))
              (λ i. ⊎_elim (λ y. inl (on_more (take depth path) t (full k) e y)) (λ y. inr (λ d q. inr (y d q))) (w.closed t i));
        })
      where
        f : Found P k table n
        f = w.found

        r : Ready P (Has s) e
        r = l.ready h

        spot : above (insert s e) k / 8 < length table
        spot = spot_table st g r

        here : Reached P (full k) s
        here = subst (λ (x : ℕ). Reached P (full k) x) (sym g.at) (trail_reached P (full k) (take depth path) (full k) g.trail start)

        new : In (insert s e) w.found.sets → ⊥
        new i =
            ⊎_elim (λ p. let a = placed_le (take depth path) (full k) in let b = g.at in let z = insert_gt s e (false_of (mem s e) r.fresh) in omega arith)
            (λ q. not_both_ways q (l.unseen h)) (w.found.marked (insert s e) i)

    module _ {e : ℕ} (none : P.events ≤ e) (l : NextIs P k table s e) where
      shut : (d : ℕ) → Ready P (Has s) d → In (insert s d) w.found.sets
      shut d r = w.found.known (insert s d) (grown st g r) (grown_full st g r) (l.tried d (let z = r.event in omega arith) r)

      pub tally_back : 0 < depth → Tally P k (take (depth - 1) path) table n
      tally_back deep =
          record {
            found = w.found;
            closed = λ t i. ⊎_elim
                (λ y. ⊎_elim inl (λ p. inr (subst (λ (x : ℕ). (d : ℕ) → Ready P (Has x) d → In (insert x d) w.found.sets) (last_at st g deep ∙ sym p) shut))
                (on_less (take (depth - 1) path) t (full k) (get_or path (depth - 1) 0) (subst (On t (full k)) (last_path st g deep) y)))
                inr (w.closed t i);
          }

      pub tally_end : depth ≡ 0 → Counted P (full k) n
      tally_end z =
          record {
            sets = w.found.sets;
            number = w.found.number;
            once = w.found.once;
            reached = w.found.reached;
            all = reached_in P (full k) w.found.sets w.found.first (λ t i. ⊎_elim (λ y. all t (subst (λ (n : ℕ). On t (full k) (take n path)) z y)) (λ f. f) (w.closed t i));
          }
        where
          all : (t : ℕ) → t ≡ full k → (d : ℕ) → Ready P (Has t) d → In (insert t d) w.found.sets
          all t p =
              let q : s ≡ t = g.at ∙ ap (λ (n : ℕ). placed (full k) (take n path)) z ∙ sym p in
              subst (λ (x : ℕ). (d : ℕ) → Ready P (Has x) d → In (insert x d) w.found.sets) q shut

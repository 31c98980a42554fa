-- The laws of specs/steps/Linked.antt: a step more, and the closure stays one. Assumes nothing.
--     Changed, changed-.., grew_more, grew_all, Going, merged_all, beyond_none, beyond_more, beyond_all, beyond_picked     loops over places
--     grew_mem                    what a mask has after
--     link_on                     a leads to more, and so does all that leads to a
--     link_known, step_old        a step that there is a way for adds nothing
--     link_far                    a step from an event that is not counted
--     linked_turned               the columns
use mathlib.Core.Path.{◌≡◌, refl, sym, ap, subst, ◌∙◌}
use mathlib.Core.Bool.{Bool, true, false, cond}
use mathlib.Core.List.{List}
use mathlib.Core.Logic.{◌⊎◌, inl, inr, ⊎_elim, ◌↔◌}
use Prim.Native.Nat.{ℕ, ◌+◌, ◌-◌, ◌%◌, ◌^◌, ◌<◌, ◌≤◌}
use native.Mathlib.Nat.{mod-eq_of_lt}
use native.Mathlib.Omega.{arith}
use native.Mathlib.Decide.{ℕ_discrete, dec_lt}
use borrow.Author.Tests.{lt-ltb, ltb-true}
use lib.Bits.{bit_or}
use lib.Dec.{eqb, ltb}
use lib.ListN.{length, get_or, set, drop, length-set, length-drop}
use lib.Seq.{get_or-set_same, get_or-set_other, set-get_or, get_or-drop, ext_get_or}
use Rattle.basis.specs.Test.{◌and◌, ◌or◌}
use Rattle.basis.proofs.BoolLaws.{bar_or, or_holds, or_second, or_either, not_both_ways, false_of, and_holds, and_both, bool_ext}
use Rattle.sets.specs.Mask.{slots, mem, Has, insert}
use Rattle.sets.proofs.MaskLaws.{mem_or, mem_empty, mem_lt, mem_beyond, insert_in, insert_new, insert_old, insert_cases, ext_all}
use Rattle.closing.specs.Closure.{taken, Reach, step, more}
use Rattle.closing.proofs.ClosureLaws.{reach_trans}
use Rattle.cells.specs.Walk.{up_to, picked}
use Rattle.cells.specs.Cells.{gaining}
use Rattle.cells.proofs.WalkLaws.{up_to_more, mem_picked}
use Rattle.tables.specs.Tables.{agent_in}
use Rattle.own.specs.Own.{met_in}
use Rattle.cells.proofs.CellsLaws.{gaining_length}
use Rattle.before.specs.steps.Linked.{Linked, Grew, Through, Beyond, Merged, Joined, init_at, inits_in, Linking}
use Rattle.before.specs.Before.{columns_in}
use Rattle.before.proofs.BeforeLaws.{columns_mem, columns_length}

has_or : (a b d : ℕ) → Has (bit_or a b) d ↔ (Has a d ⊎ Has b d)
has_or a b d = (
  λ h. or_either (mem a d) (mem b d) (sym (mem_or a b d ∙ bar_or (mem a d) (mem b d)) ∙ h),
  ⊎_elim (λ h. mem_or a b d ∙ bar_or _ _ ∙ or_holds _ _ h) (λ h. mem_or a b d ∙ bar_or _ _ ∙ or_second (mem a d) _ h),
)

-- from place n on two lists are the same
drop_same : (n : ℕ) (l m : List ℕ) → length l ≡ length m → ((e : ℕ) → n ≤ e → e < length l → get_or l e 0 ≡ get_or m e 0) → drop n l ≡ drop n m
drop_same n l m long same =
    ext_get_or 0 (drop n l) (drop n m) (length-drop n l ∙ ap (λ (k : ℕ). k - n) long ∙ sym (length-drop n m))
    (λ i h. get_or-drop n l i 0 ∙ same (n + i) (omega arith) (let z = length-drop n l in omega arith) ∙ sym (get_or-drop n m i 0))

module _ {m x : ℕ} {l l' : List ℕ} (g : Grew m x l l') (e : ℕ) (here : e < slots) (d : ℕ) where
  grown : (b : Bool) → mem m e ≡ b → Has (get_or l' e 0) d ↔ (Has (get_or l e 0) d ⊎ (Has m e × Has x d))
  grown true h =
      let is = g.each e here ∙ ap (λ (b : Bool). cond b (bit_or (get_or l e 0) x) (get_or l e 0)) h in (
        λ q. ⊎_elim inl (λ y. inr (h, y)) ((has_or (get_or l e 0) x d).0 (subst (λ (z : ℕ). Has z d) is q)),
        λ q. subst (λ (z : ℕ). Has z d) (sym is) ((has_or (get_or l e 0) x d).1 (⊎_elim inl (λ y. inr y.1) q)),
      )
  grown false h =
      let is = g.each e here ∙ ap (λ (b : Bool). cond b (bit_or (get_or l e 0) x) (get_or l e 0)) h in (
        λ q. inl (subst (λ (z : ℕ). Has z d) is q),
        λ q. subst (λ (z : ℕ). Has z d) (sym is) (⊎_elim (λ y. y) (λ y. absurd (not_both_ways y.0 h)) q),
      )

  pub grew_mem : Has (get_or l' e 0) d ↔ (Has (get_or l e 0) d ⊎ (Has m e × Has x d))
  grew_mem = grown (mem m e) refl

-- ---- loops over places

-- the first i places hold what f says, the others what they held
pub record Changed (f : ℕ → ℕ) (i : ℕ) (l l' : List ℕ) : Type 0 where
  pub size : length l' ≡ length l
  pub done : (e : ℕ) → e < i → get_or l' e 0 ≡ f e
  pub left : (e : ℕ) → i ≤ e → get_or l' e 0 ≡ get_or l e 0

pub changed_none : (f : ℕ → ℕ) (l : List ℕ) → Changed f 0 l l
changed_none f l = record { size = refl; done = λ e h. absurd (omega (arith, h)); left = λ e h. refl }

pub changed_more : (f : ℕ → ℕ) (i : ℕ) (l l' : List ℕ) (y : ℕ) → i < length l → y ≡ f i → Changed f i l l' → Changed f (i + 1) l (set l' i y)
changed_more f i l l' y h q c =
    record {
      size = length-set l' i y ∙ c.size;
      done = λ e b. go e b (ℕ_discrete e i);
      left = λ e b. get_or-set_other l' i e y 0 (λ z. absurd (omega arith)) ∙ c.left e (omega arith);
    }
  where
    go : (e : ℕ) → e < i + 1 → Dec (e ≡ i) → get_or (set l' i y) e 0 ≡ f e
    go e b (yes z) = ap (λ (k : ℕ). get_or (set l' i y) k 0) z ∙ get_or-set_same l' i y 0 (let w = c.size in omega arith) ∙ q ∙ ap f (sym z)
    go e b (no z) = get_or-set_other l' i e y 0 z ∙ c.done e (omega (arith, z))

abbrev pub grew_at : ℕ → ℕ → List ℕ → ℕ → ℕ
grew_at m x l e = cond (mem m e) (bit_or (get_or l e 0) x) (get_or l e 0)

pub grew_more : (m x e : ℕ) (l l' : List ℕ) (b : Bool) (y : ℕ) → e < slots → length l ≡ slots → b ≡ mem m (e % slots) → y ≡ cond b (bit_or (get_or l' e 0) x) (get_or l' e 0)
    → Changed (grew_at m x l) e l l' → Changed (grew_at m x l) (e + 1) l (set l' e y)
grew_more m x e l l' b y h long is_b is_y c =
    let same = c.left e (omega arith) in
    changed_more (grew_at m x l) e l l' y (omega (arith, h, long)) (is_y ∙ (λ i. cond ((is_b ∙ ap (mem m) (mod-eq_of_lt h)) i) (bit_or (same i) x) (same i))) c

pub grew_all : (m x w : ℕ) (l l' : List ℕ) → m < 2 ^ w → Changed (grew_at m x l) w l l' → Grew m x l l'
grew_all m x w l l' h c = record { size = c.size; each = λ e b. go e (dec_lt e w) }
  where
    go : (e : ℕ) → Dec (e < w) → get_or l' e 0 ≡ grew_at m x l e
    go e (yes q) = c.done e q
    go e (no q) = c.left e (omega (arith, q)) ∙ sym (ap (λ (b : Bool). cond b (bit_or (get_or l e 0) x) (get_or l e 0)) (mem_beyond w m e h (omega (arith, q))))

-- from w on, up to e: whatever was done below w stays, and the places from there are done
abbrev pub Going : ℕ → ℕ → ℕ → List ℕ → ℕ → List ℕ → Type 0
Going m x w l₀ e l' = (l : List ℕ) → length l ≡ slots → Changed (grew_at m x l) w l l₀ → Changed (grew_at m x l) e l l'

abbrev pub merged_at : List ℕ → List ℕ → ℕ → ℕ
merged_at l m e = bit_or (get_or l e 0) (get_or m e 0)

pub merged_all : (l m l' : List ℕ) → Changed (merged_at l m) slots l l' → Merged l m l'
merged_all l m l' c = record { size = c.size; each = λ e h. c.done e h }

-- what the members of x below e lead to
pub beyond_none : (succ : List ℕ) (x : ℕ) → Beyond 0 succ x x
beyond_none succ x = record { has = λ v. (inl, ⊎_elim (λ q. q) (λ q. absurd (let z = q.1 in omega (arith, z)))) }

pub beyond_more : (n : ℕ) (succ : List ℕ) (x d : ℕ) → Beyond n succ x d → Beyond (n + 1) succ x (cond (mem x n) (bit_or d (get_or succ n 0)) d)
beyond_more n succ x d b = record { has = λ v. go v (mem x n) refl }
  where
    wider : (v : ℕ) → Through n succ x v → Through (n + 1) succ x v
    wider v q = (q.0, (let z = q.1 in omega (arith, z)), q.2, q.3)

    -- the last member, or one before
    last : (v m : ℕ) → m < n + 1 → Has x m → Has (get_or succ m 0) v → Dec (m ≡ n) → Through n succ x v ⊎ (Has x n × Has (get_or succ n 0) v)
    last v m l h q (yes z) = inr (subst (λ (y : ℕ). Has x y) z h, subst (λ (y : ℕ). Has (get_or succ y 0) v) z q)
    last v m l h q (no z) = inl (m, omega (arith, l, z), h, q)

    go : (v : ℕ) (c : Bool) → mem x n ≡ c → Has (cond (mem x n) (bit_or d (get_or succ n 0)) d) v ↔ (Has x v ⊎ Through (n + 1) succ x v)
    go v true h =
        let is = ap (λ (c : Bool). cond c (bit_or d (get_or succ n 0)) d) h in (
          λ q. ⊎_elim (λ y. ⊎_elim inl (λ z. inr (wider v z)) ((b.has v).0 y)) (λ y. inr (n, omega arith, h, y)) ((has_or d (get_or succ n 0) v).0 (subst (λ (z : ℕ). Has z v) is q)),
          λ q. subst (λ (z : ℕ). Has z v) (sym is)
              ((has_or d (get_or succ n 0) v).1 (⊎_elim (λ y. inl ((b.has v).1 (inl y))) (λ y. ⊎_elim (λ z. inl ((b.has v).1 (inr z))) (λ z. inr z.1) (last v y.0 y.1 y.2 y.3 (ℕ_discrete y.0 n))) q)),
        )
    go v false h =
        let is = ap (λ (c : Bool). cond c (bit_or d (get_or succ n 0)) d) h in (
          λ q. ⊎_elim inl (λ z. inr (wider v z)) ((b.has v).0 (subst (λ (z : ℕ). Has z v) is q)),
          λ q. subst (λ (z : ℕ). Has z v) (sym is)
              (⊎_elim (λ y. (b.has v).1 (inl y)) (λ y. ⊎_elim (λ z. (b.has v).1 (inr z)) (λ z. absurd (not_both_ways z.0 h)) (last v y.0 y.1 y.2 y.3 (ℕ_discrete y.0 n))) q),
        )

-- what lies below n alone is looked at
-- all members lie below w
pub beyond_all : (w : ℕ) (succ : List ℕ) (x d : ℕ) → w ≤ slots → x < 2 ^ w → Beyond w succ x d → Beyond slots succ x d
beyond_all w succ x d few low b =
    record {
      has = λ v. (
        λ q. ⊎_elim inl (λ y. inr (y.0, (let z = y.1 in omega (arith, z, few)), y.2, y.3)) ((b.has v).0 q),
        λ q. (b.has v).1 (⊎_elim inl (λ y. inr (y.0, mem_lt w x y.0 low y.2, y.2, y.3)) q),
      );
    }

pub beyond_picked : (n : ℕ) (f : ℕ → Bool) (succ : List ℕ) (d : ℕ) → n ≤ slots → Beyond slots succ (picked n f) d → Beyond n succ (picked n f) d
beyond_picked n f succ d few b =
    record {
      has = λ v. (
        λ q. ⊎_elim inl (λ y. inr (y.0, low y.0 y.2, y.2, y.3)) ((b.has v).0 q),
        λ q. (b.has v).1 (⊎_elim inl (λ y. inr (y.0, (let z = y.1 in omega (arith, z, few)), y.2, y.3)) q),
      );
    }
  where
    low : (m : ℕ) → Has (picked n f) m → m < n
    low m h = ltb-true m n (and_both (ltb m n) (f m) (sym (mem_picked n f m) ∙ h)).0

-- ---- the steps with more from a

pub record Edge (steps : List ℕ) (a x : ℕ) (steps' : List ℕ) : Type 0 where
  pub size : length steps' ≡ length steps
  pub others : (e : ℕ) → (e ≡ a → ⊥) → get_or steps' e 0 ≡ get_or steps e 0
  pub mine : (d : ℕ) → Has (get_or steps' a 0) d ↔ (Has (get_or steps a 0) d ⊎ Has x d)

module _ {a x : ℕ} {steps steps' : List ℕ} (g : Edge steps a x steps') where
  edge_keep : (e d : ℕ) → Has (get_or steps e 0) d → Has (get_or steps' e 0) d
  edge_keep e d h = go (ℕ_discrete e a)
    where
      go : Dec (e ≡ a) → Has (get_or steps' e 0) d
      go (yes q) = subst (λ (z : ℕ). Has (get_or steps' z 0) d) (sym q) ((g.mine d).1 (inl (subst (λ (z : ℕ). Has (get_or steps z 0) d) q h)))
      go (no q) = subst (λ (z : ℕ). Has z d) (sym (g.others e q)) h

  edge_back : (e d : ℕ) → Has (get_or steps' e 0) d → Has (get_or steps e 0) d ⊎ ((e ≡ a) × Has x d)
  edge_back e d h = go (ℕ_discrete e a)
    where
      go : Dec (e ≡ a) → Has (get_or steps e 0) d ⊎ ((e ≡ a) × Has x d)
      go (yes q) = ⊎_elim (λ y. inl (subst (λ (z : ℕ). Has (get_or steps z 0) d) (sym q) y)) (λ y. inr (q, y)) ((g.mine d).0 (subst (λ (z : ℕ). Has (get_or steps' z 0) d) q h))
      go (no q) = inl (subst (λ (z : ℕ). Has z d) (g.others e q) h)

  edge_new : (d : ℕ) → Has x d → Has (get_or steps' a 0) d
  edge_new d h = (g.mine d).1 (inr h)

  edge_reach : {n e d : ℕ} → Reach n steps e d → Reach n steps' e d
  edge_reach {n} {e} {d} (step h) = step (edge_keep e d h)
  edge_reach {n} {e} {d} (more {m = m} h l r) = more (edge_keep e m h) l (edge_reach r)

  edge_rest : (n : ℕ) → n ≤ length steps → a < n → drop n steps' ≡ drop n steps
  edge_rest n long here = drop_same n steps' steps g.size (λ e h l. g.others e (λ q. absurd (omega arith)))

-- ---- a leads to more, and so does all that leads to a

module _ {n : ℕ} {steps succ cols : List ℕ} (few : n ≤ slots) (k : Linked n steps succ cols) (a : ℕ) (here : a < n) where
  -- a and what leads to it
  up : (e : ℕ) → Has (insert (get_or cols a 0) a) e ↔ ((e ≡ a) ⊎ ((e < n) × Has (get_or succ e 0) a))
  up e = (
    λ h. ⊎_elim inl (λ q. inr ((k.turned a (omega arith) e).0 q)) (insert_cases (get_or cols a 0) a e h),
    ⊎_elim (λ q. subst (λ (z : ℕ). Has (insert (get_or cols a 0) a) z) (sym q) (insert_new (get_or cols a 0) a)) (λ q. insert_old (get_or cols a 0) a e ((k.turned a (omega arith) e).1 q)),
  )

  up_low : (e : ℕ) → Has (insert (get_or cols a 0) a) e → e < n
  up_low e h = ⊎_elim (λ q. omega (arith, q)) (λ q. q.0) ((up e).0 h)

  module _ {x d : ℕ} {steps' : List ℕ} (g : Edge steps a x steps') (b : Beyond n succ x d) {succ' cols' : List ℕ}
      (gs : Grew (insert (get_or cols a 0) a) d succ succ') (gc : Grew d (insert (get_or cols a 0) a) cols cols') where
    -- from a to what is new
    new : (v : ℕ) → Has d v → Reach n steps' a v
    new v h = ⊎_elim (λ q. step (edge_new g v q)) (λ q. more (edge_new g q.0 q.2) q.1 (edge_reach g ((k.closed.reach q.0 q.1 v).0 q.3))) ((b.has v).0 h)

    sound : (e : ℕ) → e < n → (v : ℕ) → Has (get_or succ' e 0) v → Reach n steps' e v
    sound e l v h = ⊎_elim (λ q. edge_reach g ((k.closed.reach e l v).0 q)) (λ q. go ((up e).0 q.0) q.1) ((grew_mem gs e (omega arith) v).0 h)
      where
        go : (e ≡ a) ⊎ ((e < n) × Has (get_or succ e 0) a) → Has d v → Reach n steps' e v
        go (inl q) y = subst (λ (z : ℕ). Reach n steps' z v) (sym q) (new v y)
        go (inr q) y = reach_trans (edge_reach g ((k.closed.reach e l a).0 q.1)) here (new v y)

    keep : (e : ℕ) → e < n → (v : ℕ) → Has (get_or succ e 0) v → Has (get_or succ' e 0) v
    keep e l v h = (grew_mem gs e (omega arith) v).1 (inl h)

    gain_at_lem : (e : ℕ) → e < n → (v : ℕ) → (e ≡ a) ⊎ Has (get_or succ e 0) a → Has d v → Has (get_or succ' e 0) v
    gain_at_lem e l v q y = (grew_mem gs e (omega arith) v).1 (inr ((up e).1 (⊎_elim inl (λ z. inr (l, z)) q), y))

    trans : (e m v : ℕ) → e < n → m < n → Has (get_or succ e 0) m → Has (get_or succ m 0) v → Has (get_or succ e 0) v
    trans e m v l j p q = (k.closed.reach e l v).1 (reach_trans ((k.closed.reach e l m).0 p) j ((k.closed.reach m j v).0 q))

    whole : (e : ℕ) → e < n → (v : ℕ) → Reach n steps' e v → Has (get_or succ' e 0) v
    whole e l v (step h) = ⊎_elim (λ q. keep e l v ((k.closed.reach e l v).1 (step q))) (λ q. gain_at_lem e l v (inl q.0) ((b.has v).1 (inl q.1))) (edge_back g e v h)
    whole e l v (more {m = m} h j r) = go (edge_back g e m h) ((grew_mem gs m (omega arith) v).0 (whole m j v r))
      where
        go : Has (get_or steps e 0) m ⊎ ((e ≡ a) × Has x m) → Has (get_or succ m 0) v ⊎ (Has (insert (get_or cols a 0) a) m × Has d v) → Has (get_or succ' e 0) v
        go (inl p) (inl q) = keep e l v (trans e m v l j ((k.closed.reach e l m).1 (step p)) q)
        go (inr p) (inl q) = gain_at_lem e l v (inl p.0) ((b.has v).1 (inr (m, j, p.1, q)))
        go (inr p) (inr q) = gain_at_lem e l v (inl p.0) q.1
        go (inl p) (inr q) =
            let to = (k.closed.reach e l m).1 (step p) in
            gain_at_lem e l v (inr (⊎_elim (λ z. subst (λ (y : ℕ). Has (get_or succ e 0) y) z to) (λ z. trans e m a l j to z.1) ((up m).0 q.0))) q.1

    pub link_on : Linked n steps' succ' cols'
    link_on =
        record {
          size = gs.size ∙ k.size;
          width = gc.size ∙ k.width;
          closed =
              record {
                size = gs.size ∙ k.closed.size ∙ sym g.size;
                reach = λ e l v. (sound e l v, whole e l v);
                rest =
                    drop_same n succ' succ gs.size (λ e h l. apart e h (let z = gs.size in let y = k.size in omega arith)) ∙ k.closed.rest
                    ∙ sym (edge_rest g n (let z = k.closed.size in let y = k.size in omega arith) here);
              };
          turned = λ v h e. (columns v h e, rows v h e);
        }
      where
        apart : (e : ℕ) → n ≤ e → e < slots → get_or succ' e 0 ≡ get_or succ e 0
        apart e h l = gs.each e l ∙ ap (λ (c : Bool). cond c (bit_or (get_or succ e 0) d) (get_or succ e 0)) (false_of _ (λ q. let z = up_low e q in absurd (omega arith)))

        columns : (v : ℕ) → v < slots → (e : ℕ) → Has (get_or cols' v 0) e → (e < n) × Has (get_or succ' e 0) v
        columns v h e q =
            ⊎_elim (λ y. let z = (k.turned v h e).0 y in (z.0, keep e z.0 v z.1))
            (λ y. let l = up_low e y.1 in (l, gain_at_lem e l v (⊎_elim inl (λ z. inr z.1) ((up e).0 y.1)) y.0)) ((grew_mem gc v h e).0 q)

        rows : (v : ℕ) → v < slots → (e : ℕ) → (e < n) × Has (get_or succ' e 0) v → Has (get_or cols' v 0) e
        rows v h e q =
            ⊎_elim (λ y. (grew_mem gc v h e).1 (inl ((k.turned v h e).1 (q.0, y)))) (λ y. (grew_mem gc v h e).1 (inr (y.1, y.0))) ((grew_mem gs e (omega arith) v).0 q.1)

-- ---- one step

one : (b d : ℕ) → Has (insert 0 b) d → d ≡ b
one b d h = ⊎_elim (λ q. q) (λ q. absurd (not_both_ways q (mem_empty d))) (insert_cases 0 b d h)

same_one : (b d : ℕ) → d ≡ b → Has (insert 0 b) d
same_one b d q = subst (λ (z : ℕ). Has (insert 0 b) z) (sym q) (insert_new 0 b)

pub edge_gaining : (steps : List ℕ) (a b : ℕ) → a < length steps → Edge steps a (insert 0 b) (gaining steps a b)
unfolding gaining
edge_gaining steps a b h =
    record {
      size = gaining_length steps a b;
      others = λ e q. get_or-set_other steps a e (insert (get_or steps a 0) b) 0 q;
      mine = λ d. (
        λ q. ⊎_elim (λ y. inr (same_one b d y)) inl (insert_cases (get_or steps a 0) b d (subst (λ (z : ℕ). Has z d) (get_or-set_same steps a (insert (get_or steps a 0) b) 0 h) q)),
        λ q. subst (λ (z : ℕ). Has z d) (sym (get_or-set_same steps a (insert (get_or steps a 0) b) 0 h)) (⊎_elim (λ y. insert_old (get_or steps a 0) b d y) (λ y. subst (λ (z : ℕ). Has (insert (get_or steps a 0) b) z) (sym (one b d y)) (insert_new (get_or steps a 0) b)) q),
      );
    }

module _ (n : ℕ) (succ : List ℕ) (b : ℕ) where
  pub beyond_one : b < n → Beyond n succ (insert 0 b) (insert (get_or succ b 0) b)
  beyond_one h =
      record {
        has = λ e. (
          λ q. ⊎_elim (λ y. inl (same_one b e y)) (λ y. inr (b, h, insert_new 0 b, y)) (insert_cases (get_or succ b 0) b e q),
          ⊎_elim (λ y. subst (λ (z : ℕ). Has (insert (get_or succ b 0) b) z) (sym (one b e y)) (insert_new (get_or succ b 0) b))
              (λ y. insert_old (get_or succ b 0) b e (subst (λ (z : ℕ). Has (get_or succ z 0) e) (one b y.0 y.2) y.3)),
        );
      }

  pub beyond_far : n ≤ b → Beyond n succ (insert 0 b) (insert 0 b)
  beyond_far h = record { has = λ e. (inl, ⊎_elim (λ y. y) (λ y. absurd (let z = one b y.0 y.2 in let w = y.1 in omega arith))) }

module _ {n : ℕ} {steps succ cols : List ℕ} (few : n ≤ slots) (k : Linked n steps succ cols) where
  long : n ≤ length steps
  long = let z = k.closed.size in let y = k.size in omega arith

  -- a step that there is a way for adds nothing
  module _ (a b : ℕ) (here : a < n) (way : Has (get_or succ a 0) b) {steps' : List ℕ} (g : Edge steps a (insert 0 b) steps') where
    again : (e v : ℕ) → Reach n steps' e v → Reach n steps e v
    again e v (step h) = ⊎_elim step (λ q. go q.0 (one b v q.1)) (edge_back g e v h)
      where
        go : e ≡ a → v ≡ b → Reach n steps e v
        go p q = subst (λ (z : ℕ). Reach n steps z v) (sym p) (subst (λ (z : ℕ). Reach n steps a z) (sym q) ((k.closed.reach a here b).0 way))
    again e v (more {m = m} h l r) = ⊎_elim (λ q. more q l (again m v r)) (λ q. go (again m v r) q.0 (one b m q.1)) (edge_back g e m h)
      where
        go : Reach n steps m v → e ≡ a → m ≡ b → Reach n steps e v
        go w p q = subst (λ (z : ℕ). Reach n steps z v) (sym p) (reach_trans (subst (λ (z : ℕ). Reach n steps a z) (sym q) ((k.closed.reach a here b).0 way)) l w)

    pub link_known : Linked n steps' succ cols
    link_known =
        record {
          size = k.size;
          width = k.width;
          closed =
              record {
                size = k.closed.size ∙ sym g.size;
                reach = λ e l v. (λ h. edge_reach g ((k.closed.reach e l v).0 h), λ r. (k.closed.reach e l v).1 (again e v r));
                rest = k.closed.rest ∙ sym (edge_rest g n long here);
              };
          turned = k.turned;
        }

  -- a step from an event that is not counted
  module _ (a b : ℕ) (far : n ≤ a) (here : a < slots) where
    row : (l : List ℕ) (e : ℕ) → e < n → get_or (gaining l a b) e 0 ≡ get_or l e 0
    unfolding gaining
    row l e h = get_or-set_other l a e (insert (get_or l a 0) b) 0 (λ q. absurd (omega arith))

    to : (e v : ℕ) → e < n → Reach n steps e v → Reach n (gaining steps a b) e v
    to e v h (step q) = step (subst (λ (z : ℕ). Has z v) (sym (row steps e h)) q)
    to e v h (more {m = m} q l r) = more (subst (λ (z : ℕ). Has z m) (sym (row steps e h)) q) l (to m v l r)

    fro : (e v : ℕ) → e < n → Reach n (gaining steps a b) e v → Reach n steps e v
    fro e v h (step q) = step (subst (λ (z : ℕ). Has z v) (row steps e h) q)
    fro e v h (more {m = m} q l r) = more (subst (λ (z : ℕ). Has z m) (row steps e h) q) l (fro m v l r)

    -- from n on the rows are the steps
    rest_at_lem : (e : ℕ) → n ≤ e → get_or succ e 0 ≡ get_or steps e 0
    rest_at_lem e h =
        let at : n + (e - n) ≡ e = omega arith in
        ap (λ (i : ℕ). get_or succ i 0) (sym at) ∙ sym (get_or-drop n succ (e - n) 0) ∙ ap (λ (l : List ℕ). get_or l (e - n) 0) k.closed.rest
        ∙ get_or-drop n steps (e - n) 0 ∙ ap (λ (i : ℕ). get_or steps i 0) at

    other : (e : ℕ) → n ≤ e → Dec (e ≡ a) → get_or (gaining succ a b) e 0 ≡ get_or (gaining steps a b) e 0
    unfolding gaining
    other e h (yes q) =
        let z = k.size in
        let y = k.closed.size in
        ap (λ (i : ℕ). get_or (set succ a (insert (get_or succ a 0) b)) i 0) q ∙ get_or-set_same succ a (insert (get_or succ a 0) b) 0 (omega arith)
        ∙ ap (λ (i : ℕ). insert i b) (rest_at_lem a far) ∙ sym (get_or-set_same steps a (insert (get_or steps a 0) b) 0 (omega arith))
        ∙ ap (λ (i : ℕ). get_or (set steps a (insert (get_or steps a 0) b)) i 0) (sym q)
    other e h (no q) =
        get_or-set_other succ a e (insert (get_or succ a 0) b) 0 q ∙ rest_at_lem e h ∙ sym (get_or-set_other steps a e (insert (get_or steps a 0) b) 0 q)

    pub link_far : Linked n (gaining steps a b) (gaining succ a b) cols
    link_far =
        record {
          size = gaining_length succ a b ∙ k.size;
          width = k.width;
          closed =
              record {
                size = gaining_length succ a b ∙ k.closed.size ∙ sym (gaining_length steps a b);
                reach = λ e l v. (
                  λ h. to e v l ((k.closed.reach e l v).0 (subst (λ (z : ℕ). Has z v) (row succ e l) h)),
                  λ r. subst (λ (z : ℕ). Has z v) (sym (row succ e l)) ((k.closed.reach e l v).1 (fro e v l r)),
                );
                rest = drop_same n (gaining succ a b) (gaining steps a b) (gaining_length succ a b ∙ k.closed.size ∙ sym (gaining_length steps a b)) (λ e h l. other e h (ℕ_discrete e a));
              };
          turned = λ d h e. (
            λ q. let y = (k.turned d h e).0 q in (y.0, subst (λ (z : ℕ). Has z d) (sym (row succ e y.0)) y.1),
            λ q. (k.turned d h e).1 (q.0, subst (λ (z : ℕ). Has z d) (row succ e q.0) q.1),
          );
        }

  -- ---- the columns

  pub linked_turned : (pred pred' : List ℕ) → length pred ≡ slots → Merged pred cols pred' → pred' ≡ columns_in succ n pred
  linked_turned pred pred' whole g =
      ext_get_or 0 pred' (columns_in succ n pred) (g.size ∙ sym (columns_length succ pred n))
      (λ d h. ext_all (get_or pred' d 0) (get_or (columns_in succ n pred) d 0) (λ e. bool_ext _ _ (λ q. one_way d (let z = g.size in omega arith) e q) (λ q. other_way d (let z = g.size in omega arith) e q)))
    where
      few_rows : taken n succ ≡ n
      few_rows = let z = k.size in omega arith

      is : (d e : ℕ) → mem (get_or (columns_in succ n pred) d 0) e ≡ (mem (get_or pred d 0) e or (ltb e n and (ltb d slots and mem (get_or succ e 0) d)))
      is d e = columns_mem succ pred whole n d e ∙ ap (λ (i : ℕ). mem (get_or pred d 0) e or (ltb e i and (ltb d slots and mem (get_or succ e 0) d))) few_rows

      one_way : (d : ℕ) → d < slots → (e : ℕ) → Has (get_or pred' d 0) e → Has (get_or (columns_in succ n pred) d 0) e
      one_way d h e q =
          is d e
          ∙ ⊎_elim (λ y. or_holds _ _ y)
          (λ y. let z = (k.turned d h e).0 y in or_second (mem (get_or pred d 0) e) _ (and_holds (ltb e n) _ (lt-ltb e n z.0) ∙ and_holds (ltb d slots) _ (lt-ltb d slots h) ∙ z.1))
          ((has_or (get_or pred d 0) (get_or cols d 0) e).0 (subst (λ (z : ℕ). Has z e) (g.each d h) q))

      other_way : (d : ℕ) → d < slots → (e : ℕ) → Has (get_or (columns_in succ n pred) d 0) e → Has (get_or pred' d 0) e
      other_way d h e q =
          subst (λ (z : ℕ). Has z e) (sym (g.each d h))
          ((has_or (get_or pred d 0) (get_or cols d 0) e).1
          (⊎_elim inl
          (λ y.
          let p = and_both (ltb e n) (ltb d slots and mem (get_or succ e 0) d) y in
          inr ((k.turned d h e).1 (ltb-true e n p.0, (and_both (ltb d slots) (mem (get_or succ e 0) d) p.1).1)))
          (or_either (mem (get_or pred d 0) e) _ (sym (is d e) ∙ q))))

-- ---- what the code adds

module _ {n : ℕ} where
  pub linking_none : {succ cols : List ℕ} (F : List ℕ → List ℕ) → length succ ≡ slots → length cols ≡ slots → ((l : List ℕ) → l ≡ F l) → Linking n F succ cols succ cols
  linking_none {succ} {cols} F size width same = record { size = size; width = width; adds = λ l k. subst (λ (x : List ℕ). Linked n x succ cols) (same l) k }

  pub linking_as : {s c s' c' : List ℕ} (F G : List ℕ → List ℕ) → ((l : List ℕ) → F l ≡ G l) → Linking n F s c s' c' → Linking n G s c s' c'
  linking_as {s' = s'} {c' = c'} F G same a = record { size = a.size; width = a.width; adds = λ l k. subst (λ (x : List ℕ). Linked n x s' c') (same l) (a.adds l k) }

  pub linking_more : {s c s₁ c₁ s₂ c₂ : List ℕ} (F G H : List ℕ → List ℕ) → ((l : List ℕ) → G (F l) ≡ H l) → Linking n F s c s₁ c₁ → Linking n G s₁ c₁ s₂ c₂
      → Linking n H s c s₂ c₂
  linking_more {s₂ = s₂} {c₂ = c₂} F G H same a b = record { size = b.size; width = b.width; adds = λ l k. subst (λ (x : List ℕ). Linked n x s₂ c₂) (same l) (b.adds (F l) (a.adds l k)) }

module _ (n : ℕ) (few : n ≤ slots) (succ cols : List ℕ) (size : length succ ≡ slots) (width : length cols ≡ slots) where
  -- a step from a to b
  module _ (a b : ℕ) (slot : a < slots) where
    pub step_far : n ≤ a → (y : ℕ) → y ≡ insert (get_or succ a 0) (b % slots) → b < slots → Linking n (λ (l : List ℕ). gaining l a b) succ cols (set succ a y) cols
    unfolding gaining
    step_far far y is bs =
        let q : set succ a y ≡ gaining succ a b = ap (set succ a) (is ∙ ap (insert (get_or succ a 0)) (mod-eq_of_lt bs)) in
        subst (λ (x : List ℕ). Linking n (λ (l : List ℕ). gaining l a b) succ cols x cols) (sym q)
        (record { size = gaining_length succ a b ∙ size; width = width; adds = λ l k. link_far few k a b far slot })

    pub step_known : a < n → Has (get_or succ a 0) b → Linking n (λ (l : List ℕ). gaining l a b) succ cols succ cols
    step_known here way = record { size = size; width = width; adds = λ l k. link_known few k a b here way (edge_gaining l a b (let z = k.closed.size in omega arith)) }

    -- the same of any event: from n on the rows are the steps
    pub step_old : Has (get_or succ a 0) b → Linking n (λ (l : List ℕ). gaining l a b) succ cols succ cols
    unfolding gaining
    step_old way = go (dec_lt a n)
      where
        same : gaining succ a b ≡ succ
        same = ap (set succ a) (insert_in (get_or succ a 0) b way) ∙ set-get_or succ a 0

        go : Dec (a < n) → Linking n (λ (l : List ℕ). gaining l a b) succ cols succ cols
        go (yes h) = step_known h way
        go (no h) = record { size = size; width = width; adds = λ l k. subst (λ (x : List ℕ). Linked n (gaining l a b) x cols) same (link_far few k a b (omega (arith, h)) slot) }

    pub step_new : a < n → (d : ℕ) → Beyond n succ (insert 0 b) d → {succ' cols' : List ℕ} → Joined a d succ cols succ' cols' → Linking n (λ (l : List ℕ). gaining l a b) succ cols succ' cols'
    step_new here d y j =
        record {
          size = j.rows.size ∙ size;
          width = j.columns.size ∙ width;
          adds = λ l k. link_on few k a here (edge_gaining l a b (let z = k.closed.size in omega arith)) y j.rows j.columns;
        }

  -- what an init meets
  module _ (t : List ℕ) (e : ℕ) (here : e < n) where
    pub init_adds : eqb (agent_in t e) 0 ≡ true → (d : ℕ) → Beyond n succ (picked n (met_in t e)) d → {succ' cols' : List ℕ} → Joined e d succ cols succ' cols'
        → Linking n (init_at t n e) succ cols succ' cols'
    unfolding init_at
    init_adds h d y {succ'} {cols'} j =
        record {
          size = j.rows.size ∙ size;
          width = j.columns.size ∙ width;
          adds = λ l k. subst (λ (x : List ℕ). Linked n x succ' cols') (sym (ap (λ (b : Bool). cond b (set l e (bit_or (get_or l e 0) (picked n (met_in t e)))) l) h)) (link_on few k e here (edge l (let z = k.closed.size in omega arith)) y j.rows j.columns);
        }
      where
        edge : (l : List ℕ) → e < length l → Edge l e (picked n (met_in t e)) (set l e (bit_or (get_or l e 0) (picked n (met_in t e))))
        edge l q =
            record {
              size = length-set l e (bit_or (get_or l e 0) (picked n (met_in t e)));
              others = λ v z. get_or-set_other l e v (bit_or (get_or l e 0) (picked n (met_in t e))) 0 z;
              mine = λ v. (
                λ z. (has_or (get_or l e 0) (picked n (met_in t e)) v).0 (subst (λ (x : ℕ). Has x v) (get_or-set_same l e (bit_or (get_or l e 0) (picked n (met_in t e))) 0 q) z),
                λ z. subst (λ (x : ℕ). Has x v) (sym (get_or-set_same l e (bit_or (get_or l e 0) (picked n (met_in t e))) 0 q)) ((has_or (get_or l e 0) (picked n (met_in t e)) v).1 z),
              );
            }

    pub init_none : eqb (agent_in t e) 0 ≡ false → Linking n (init_at t n e) succ cols succ cols
    unfolding init_at
    init_none h = linking_none (init_at t n e) size width (λ l. sym (ap (λ (b : Bool). cond b (set l e (bit_or (get_or l e 0) (picked n (met_in t e)))) l) h))

module _ (t : List ℕ) (n : ℕ) where
  pub inits_none : (l : List ℕ) → l ≡ inits_in t n 0 l
  unfolding inits_in up_to
  inits_none l = refl

  pub inits_more : (m : ℕ) (l : List ℕ) → init_at t n m (inits_in t n m l) ≡ inits_in t n (m + 1) l
  unfolding inits_in
  inits_more m l = sym (up_to_more (init_at t n) m l)

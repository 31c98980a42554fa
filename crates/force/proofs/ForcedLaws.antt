-- The laws of specs/Forced.antt: what bars force, one step of it after another. Assumes nothing.
--     led_copied                masks that are copied
--     named_none, named_more, named_end     a loop that gathers the writers
--     run_in_lem                    what is not placed yet is placed later
--     forced_led                at first each event waits for what has to come before it
--     forced_set                an event that always waits for a set may be told to
--     forced_first              W is placed before V, so R is
--     forced_both               and V before R, so V waits for itself
--     forced_other              V is placed before R, so before W
--     press_first, press_other  these two as the code does them; bar_first: the first of one bar alone
--     forced_closed, forced_close     what waits for one that waits
--     forced_cycle              what waits for itself is never placed
--     forces_none, forces_some      what does not fit, and what does
--     numbers_fit, numbers_unfit    what the test of the numbers tells
--     taken_old                 a loop over the members of a set: what is left was there
--     forced_found, forced_dead, forced_searched     the first way, and that there is none, where each event waits so
use Rattle.std.proofs.Common.{◌≡◌, ℕ, ◌+◌, ◌-◌, ◌%◌, ◌<◌, ◌≤◌, Bool, true, false, cond, ◌||◌, ltb, ◌⊎◌, List, [], ◌∷◌, ◌++◌, length, get_or, drop, set, replicate, sym, refl, ap, ◌∙◌, subst, inl, inr, ⊎_elim, mod-eq_of_lt, arith, length-set, get_or-set_other, get_or-set_same, ltb-false, ltb-true, lt-ltb}
use native.Mathlib.Decide.{ℕ_discrete, dec_lt}
use lib.Bits.{bit_or}
use lib.ListN.{get_or-replicate, get_or-append, take, length-drop}
use borrow.Rule.Slice.PartMut.{mid_of, post_of, put_mid, same_len_mid}
use Rattle.std.proofs.lemmas.List.{get_or-take, get_or-drop, get_or-append_right, length-take-le}
use Rattle.sets.specs.Members.{Taken}
use Rattle.basis.specs.Test.{◌or◌}
use Rattle.basis.proofs.BoolLaws.{not_both_ways, false_of, bar_or, bar_left, bar_right, bar_cases, or_holds, or_either, or_second}
use Rattle.sets.specs.Mask.{slots, mem, Has, Within, full, insert}
use Rattle.sets.proofs.MaskLaws.{mem_empty, ext_all, full_has, remove_old, mem_or, insert_old, insert_cases}
use Rattle.gather.specs.Writers.{bar_at}
use Rattle.closing.specs.Closure.{taken, Reach, step, more, Closed}
use Rattle.orders.specs.Problem.{Problem}
use Rattle.orders.specs.Order.{In}
use Rattle.orders.specs.First.{FirstOf}
use Rattle.orders.specs.Step.{With, Below, Runs, Dead}
use Rattle.orders.specs.Tables.{tabled}
use Rattle.orders.specs.Walk.{Searched}
use Rattle.force.specs.Forced.{Waits, Forced, Pressed, Forces}
use Rattle.force.specs.steps.Press.{Led, Named}
use Rattle.orders.proofs.FirstLaws.{first_map}

-- a mask without members has none
none_has : (m a : ℕ) {A : Type 0} → m ≡ 0 → Has m a → A
none_has m a e h = absurd (not_both_ways (subst (λ (x : ℕ). Has x a) e h) (mem_empty a))

-- what is left was there
pub taken_old : {left e t : ℕ} → Taken left e t → Within t left
taken_old {left} {e} k v h = remove_old left e v (subst (λ (x : ℕ). Has x v) k.rest h)

-- the set c has the writers of the first v events
abbrev pub Gathering : List ℕ → ℕ → ℕ → Type 0
Gathering writers v c = (d : ℕ) → d < v → Within (get_or writers d 0) c

pub named_none : (writers : List ℕ) → Gathering writers 0 0
named_none writers d l = absurd (omega arith)

pub named_more : (writers : List ℕ) (v c : ℕ) → Gathering writers v c → Gathering writers (v + 1) (bit_or c (get_or writers v 0))
named_more writers v c g d l w h = mem_or c (get_or writers v 0) w ∙ bar_or _ _ ∙ go (ℕ_discrete d v)
  where
    go : Dec (d ≡ v) → (mem c w or mem (get_or writers v 0) w) ≡ true
    go (yes e) = or_second _ _ (subst (λ (x : ℕ). Has (get_or writers x 0) w) e h)
    go (no e) = or_holds _ _ (g d (omega (arith, e)) w h)

pub named_end : (m : ℕ) (writers : List ℕ) (c : ℕ) → Gathering writers m c → Within c (full m) → Named m writers
named_end m writers c g q v l w h = full_has m w (q w (g v l w h))

-- whether the numbers fit
module _ {A : Type 0} {P : Problem} {k : ℕ} {before f : List ℕ} where
  pub forces_none : (A → ⊥) → Forces A P k before f false f
  forces_none n = record { fit = λ a. absurd (n a); unfit = λ g. (refl, refl) }

  pub forces_some : {r : Bool} {f' : List ℕ} → A → Pressed P k before r f' → Forces A P k before f r f'
  forces_some a p = record { fit = λ b. p; unfit = λ n. absurd (n a) }

module _ (k m : ℕ) where
  pub numbers_fit : (ltb m k || ltb slots m) ≡ false → (k ≤ m) × (m ≤ slots)
  numbers_fit h =
      (ltb-false m k (false_of _ (λ z. not_both_ways (bar_left _ _ z) h)), ltb-false slots m (false_of _ (λ z. not_both_ways (bar_right (ltb m k) _ z) h)))

  pub numbers_unfit : (ltb m k || ltb slots m) ≡ true → (k ≤ m) × (m ≤ slots) → ⊥
  numbers_unfit h f = ⊎_elim (λ z. let l = ltb-true m k z in omega (arith, l, f.0)) (λ z. let l = ltb-true slots m z in omega (arith, l, f.1)) (bar_cases _ _ h)

-- masks copied from k on, into a table of zeros
pub led_copied : (k m : ℕ) (before f : List ℕ) → k ≤ m → m ≤ slots → length before ≡ slots → f ≡ replicate slots 0
    → Led k m before (put_mid k (m - k) f (mid_of k (m - k) before))
led_copied k m before f km few long h =
    let d : length f ≡ slots = ap length h in
    let z = length-drop k before in
    let front : length (take k f) ≡ k = length-take-le k f (omega (arith, d)) in
    let part : length (mid_of k (m - k) before) ≡ m - k = length-take-le (m - k) (drop k before) (omega (arith, z, long)) in
    record {
      size = same_len_mid k (m - k) f (mid_of k (m - k) before) (part ∙ sym (length-take-le (m - k) (drop k f) (let y = length-drop k f in omega (arith, y, d)))) ∙ d;
      same = λ e a b. get_or-append_right (take k f) (mid_of k (m - k) before ++ post_of k (m - k) f) k e 0 front a ∙ get_or-append (mid_of k (m - k) before) (post_of k (m - k) f) 0 (e - k) (omega (arith, part))
          ∙ get_or-take (m - k) (drop k before) (e - k) 0 (omega arith) ∙ get_or-drop k before (e - k) 0 ∙ ap (λ (x : ℕ). get_or before x 0) (let q : k + (e - k) ≡ e = omega arith in q);
      blank = λ e a. get_or-append (take k f) (mid_of k (m - k) before ++ post_of k (m - k) f) 0 e (omega (arith, front)) ∙ get_or-take k f e 0 a ∙ ap (λ (l : List ℕ). get_or l e 0) h ∙ get_or-replicate slots e 0 0 (omega arith);
    }

-- x waits for all that are B
abbrev WaitsAt : ℕ → (ℕ → Type 0) → (ℕ → Type 0) → List ℕ → Type 0
WaitsAt x B S [] = Unit {0}
WaitsAt x B S (e ∷ l) = (e ≡ x → (a : ℕ) → B a → S a) × WaitsAt x B (With S e) l

-- with an event its mask is placed too
abbrev Grown : List ℕ → (ℕ → Type 0) → Type 0
Grown f S = (b a : ℕ) → S b → Has (get_or f b 0) a → S a

grown_with : (f : List ℕ) (S : ℕ → Type 0) (e : ℕ) → Grown f S → ((a : ℕ) → Has (get_or f e 0) a → S a) → Grown f (With S e)
grown_with f S e g w b a (inl h) q = inr (w a (subst (λ (x : ℕ). Has (get_or f x 0) a) h q))
grown_with f S e g w b a (inr h) q = inr (g b a h q)

module _ (P : Problem) where
  -- what is not placed yet is placed later
  run_in_lem : (l : List ℕ) (S : ℕ → Type 0) → Runs P S l → (x : ℕ) → x < P.events → S x ⊎ In x l
  run_in_lem [] S r x h = inl (r x h)
  run_in_lem (e ∷ l) S r x h = ⊎_elim (⊎_elim (λ p. inr (inl p)) inl) (λ q. inr (inr q)) (run_in_lem l (With S e) r.1 x h)

  -- ---- what waits for itself is never placed

  waits_self : (f : List ℕ) (v : ℕ) → Has (get_or f v 0) v → (l : List ℕ) (S : ℕ → Type 0) → Runs P S l → Waits f S l → In v l → ⊥
  waits_self f v h [] S r w q = q
  waits_self f v h (e ∷ l) S r w (inl q) = r.0.fresh (w.0 e (subst (λ (x : ℕ). Has (get_or f x 0) x) q h))
  waits_self f v h (e ∷ l) S r w (inr q) = waits_self f v h l (With S e) r.1 w.1 q

  -- ---- W is placed before V, so R is

  module _ (f : List ℕ) (w v : ℕ) where
    waits_first : (l : List ℕ) (S : ℕ → Type 0) → S w ⊎ Has (get_or f v 0) w → Runs P S l → Waits f S l → WaitsAt v (λ a. P.Bar a w v) S l
    waits_first [] S h r t = tt
    waits_first (e ∷ l) S h r t = (
      λ q a b. r.0.clear a w (subst (λ (x : ℕ). P.Bar a w x) (sym q) b) (⊎_elim (λ s. s) (λ m. t.0 w (subst (λ (x : ℕ). Has (get_or f x 0) w) (sym q) m)) h),
      waits_first l (With S e) (⊎_elim (λ s. inl (inr s)) inr h) r.1 t.1,
    )

    -- and where R waits for V, so does V
    module _ (r : ℕ) (bar : P.Bar r w v) (back : Has (get_or f r 0) v) where
      waits_back : (l : List ℕ) (S : ℕ → Type 0) → Grown f S → Waits f S l → WaitsAt v (λ a. P.Bar a w v) S l → WaitsAt v (λ a. P.Bar a w v ⊎ (a ≡ v)) S l
      waits_back [] S g t u = tt
      waits_back (e ∷ l) S g t u =
          (λ q a b. ⊎_elim (u.0 q a) (λ z. subst S (sym z) (g r v (u.0 q r bar) back)) b, waits_back l (With S e) (grown_with f S e g t.0) t.1 u.1)

  -- ---- V is placed before R, so before W

  module _ (f : List ℕ) (r w v : ℕ) (bar : P.Bar r w v) (waits : Has (get_or f r 0) v) where
    -- with W placed, V never is
    late : (l : List ℕ) (S : ℕ → Type 0) → Grown f S → S w → Runs P S l → Waits f S l → In v l → ⊥
    late [] S g s u t q = q
    late (e ∷ l) S g s u t (inl q) =
        u.0.fresh (subst S q (g r v (u.0.clear r w (subst (λ (x : ℕ). P.Bar r w x) q bar) s) waits))
    late (e ∷ l) S g s u t (inr q) = late l (With S e) (grown_with f S e g t.0) (inr s) u.1 t.1 q

    waits_other : (w ≡ v → ⊥) → v < P.events → (l : List ℕ) (S : ℕ → Type 0) → Grown f S → Runs P S l → Waits f S l → WaitsAt w (λ a. a ≡ v) S l
    waits_other apart event [] S g u t = tt
    waits_other apart event (e ∷ l) S g u t = (λ q a b. subst S (sym b) (here q (run_in_lem l (With S e) u.1 v event)), waits_other apart event l (With S e) (grown_with f S e g t.0) u.1 t.1)
      where
        here : e ≡ w → With S e v ⊎ In v l → S v
        here q (inl (inl p)) = absurd (apart (sym q ∙ sym p))
        here q (inl (inr p)) = p
        here q (inr p) = absurd (late l (With S e) (grown_with f S e g t.0) (inl (sym q)) u.1 t.1 p)

-- ---- what waits for one that waits

module _ (n : ℕ) (f f' : List ℕ) (c : Closed n f f') where
  reached : (S : ℕ → Type 0) → Grown f S → (b a : ℕ) → S b → Reach n f b a → S a
  reached S g b a s (step h) = g b a s h
  reached S g b a s (more {m = m} h l r) = reached S g m a (g b m s h) r

  from_here : (S : ℕ → Type 0) → Grown f S → (e a : ℕ) → ((x : ℕ) → Has (get_or f e 0) x → S x) → Reach n f e a → S a
  from_here S g e a w (step h) = w a h
  from_here S g e a w (more {m = m} h l r) = reached S g m a (w m h) r

  waits_closed : (P : Problem) → P.events ≤ n → (l : List ℕ) (S : ℕ → Type 0) → Grown f S → Runs P S l → Waits f S l → Waits f' S l
  waits_closed P few [] S g r w = tt
  waits_closed P few (e ∷ l) S g r w =
      (λ a h. from_here S g e a w.0 ((c.reach e (let z = r.0.event in omega arith) a).0 h), waits_closed P few l (With S e) (grown_with f S e g w.0) r.1 w.1)

module _ (m k : ℕ) (before bars : List ℕ) where
  abbrev P : Problem
  P = tabled m before bars

  -- ---- at first

  module _ {f : List ℕ} (i : Led k m before f) where
    led_waits : (l : List ℕ) (S : ℕ → Type 0) → ((e : ℕ) → e < k → S e) → Runs P S l → Waits f S l
    led_waits [] S g r = tt
    led_waits (e ∷ l) S g r =
        let far : k ≤ e = high (dec_lt e k) in
        (λ a h. r.0.after a (r.0.event, subst (λ (x : ℕ). Has x a) (i.same e far r.0.event) h), led_waits l (With S e) (λ d q. inr (g d q)) r.1)
      where
        high : Dec (e < k) → k ≤ e
        high (yes q) = absurd (r.0.fresh (g e q))
        high (no q) = omega (arith, q)

    pub forced_led : Forced P k before f
    forced_led =
        record {
          size = i.size;
          waits = λ l r. led_waits l (Below k) (λ e q. q) r;
          keeps = λ e a b d h. subst (λ (x : ℕ). Has x d) (sym (i.same e a b)) h;
          idle = i.blank;
        }

  module _ {f : List ℕ} (i : Forced P k before f) where
    start_grown : Grown f (Below k)
    start_grown b a s h = none_has (get_or f b 0) a (i.idle b s) h

    -- ---- a mask more

    module _ (x y : ℕ) (here : x < slots) (far : k ≤ x) (old : Within (get_or f x 0) y) where
      set_same : get_or (set f x y) x 0 ≡ y
      set_same = get_or-set_same f x y 0 (let z = i.size in omega arith)

      set_waits : (l : List ℕ) (S : ℕ → Type 0) → Waits f S l → WaitsAt x (λ a. Has y a) S l → Waits (set f x y) S l
      set_waits [] S w t = tt
      set_waits (e ∷ l) S w t = (λ a h. go a h (ℕ_discrete e x), set_waits l (With S e) w.1 t.1)
        where
          go : (a : ℕ) → Has (get_or (set f x y) e 0) a → Dec (e ≡ x) → S a
          go a h (yes q) = t.0 q a (subst (λ (z : ℕ). Has z a) (ap (λ (z : ℕ). get_or (set f x y) z 0) q ∙ set_same) h)
          go a h (no q) = w.0 a (subst (λ (z : ℕ). Has z a) (get_or-set_other f x e y 0 q) h)

      pub forced_set : ((l : List ℕ) → Runs P (Below k) l → WaitsAt x (λ a. Has y a) (Below k) l) → Forced P k before (set f x y)
      forced_set t =
          record {
            size = length-set f x y ∙ i.size;
            waits = λ l r. set_waits l (Below k) (i.waits l r) (t l r);
            keeps = λ e a b d h. keep e d (ℕ_discrete e x) (i.keeps e a b d h);
            idle = λ e h. get_or-set_other f x e y 0 (λ q. absurd (omega arith)) ∙ i.idle e h;
          }
        where
          keep : (e d : ℕ) → Dec (e ≡ x) → Has (get_or f e 0) d → Has (get_or (set f x y) e 0) d
          keep e d (yes q) h = subst (λ (z : ℕ). Has z d) (sym (ap (λ (z : ℕ). get_or (set f x y) z 0) q ∙ set_same)) (old d (subst (λ (z : ℕ). Has (get_or f z 0) d) q h))
          keep e d (no q) h = subst (λ (z : ℕ). Has z d) (sym (get_or-set_other f x e y 0 q)) h

    -- what x waits for already, and what else it waits for
    at_old : (x y : ℕ) (B : ℕ → Type 0) → ((a : ℕ) → Has y a → Has (get_or f x 0) a ⊎ B a) → (l : List ℕ) (S : ℕ → Type 0) → Waits f S l → WaitsAt x B S l
        → WaitsAt x (λ a. Has y a) S l
    at_old x y B cases [] S w t = tt
    at_old x y B cases (e ∷ l) S w t =
        (λ q a h. ⊎_elim (λ o. w.0 a (subst (λ (z : ℕ). Has (get_or f z 0) a) (sym q) o)) (t.0 q a) (cases a h), at_old x y B cases l (With S e) w.1 t.1)

    module _ (w v : ℕ) (vs : v < slots) (far : k ≤ v) where
      pub forced_first : (w < k) ⊎ Has (get_or f v 0) w → (y : ℕ) → Within (get_or f v 0) y → ((a : ℕ) → Has y a → Has (get_or f v 0) a ⊎ P.Bar a w v)
          → Forced P k before (set f v y)
      forced_first h y old cases =
          forced_set v y vs far old
          (λ l r. at_old v y (λ a. P.Bar a w v) cases l (Below k) (i.waits l r) (waits_first P f w v l (Below k) h r (i.waits l r)))

      pub forced_both : (w < k) ⊎ Has (get_or f v 0) w → (r : ℕ) → P.Bar r w v → Has (get_or f r 0) v → (y : ℕ) → Within (get_or f v 0) y
          → ((a : ℕ) → Has y a → Has (get_or f v 0) a ⊎ (P.Bar a w v ⊎ (a ≡ v))) → Forced P k before (set f v y)
      forced_both h r bar back y old cases =
          forced_set v y vs far old
          (λ l u. at_old v y (λ a. P.Bar a w v ⊎ (a ≡ v)) cases l (Below k) (i.waits l u)
          (waits_back P f w v r bar back l (Below k) start_grown (i.waits l u) (waits_first P f w v l (Below k) h u (i.waits l u))))

    module _ (r w v : ℕ) (ws : w < slots) (far : k ≤ w) (bar : P.Bar r w v) (waits : Has (get_or f r 0) v) (apart : w ≡ v → ⊥) where
      pub forced_other : (y : ℕ) → Within (get_or f w 0) y → ((a : ℕ) → Has y a → Has (get_or f w 0) a ⊎ (a ≡ v)) → Forced P k before (set f w y)
      forced_other y old cases =
          forced_set w y ws far old
          (λ l u. at_old w y (λ a. a ≡ v) cases l (Below k) (i.waits l u) (waits_other P f r w v bar waits apart bar.0 l (Below k) start_grown u (i.waits l u)))

    -- the same as the code does it
    module _ (w v : ℕ) (vs : v < slots) (ws : w < slots) (event : v < m) (writer : w < m) where
      -- w is placed before v
      comes : (b : Bool) → b ≡ mem (get_or f v 0) (w % slots) → (ltb w k || b) ≡ true → (w < k) ⊎ Has (get_or f v 0) w
      comes b is h =
          ⊎_elim (λ q. inl (ltb-true w k q)) (λ q. inr (ap (mem (get_or f v 0)) (sym (mod-eq_of_lt ws)) ∙ sym is ∙ q)) (or_either (ltb w k) b (sym (bar_or (ltb w k) b) ∙ h))

      pub press_first : k ≤ v → (b : Bool) → b ≡ mem (get_or f v 0) (w % slots) → (ltb w k || b) ≡ true
          → Forced P k before (set f v (bit_or (get_or f v 0) (bar_at bars v w)))
      press_first far b is h =
          forced_first w v vs far (comes b is h)
          (bit_or (get_or f v 0) (bar_at bars v w))
          (λ a q. mem_or (get_or f v 0) (bar_at bars v w) a ∙ bar_or _ _ ∙ or_holds _ _ q)
          (λ a q. ⊎_elim inl (λ x. inr (event, writer, x)) (or_either (mem (get_or f v 0) a) (mem (bar_at bars v w) a) (sym (mem_or (get_or f v 0) (bar_at bars v w) a ∙ bar_or _ _) ∙ q)))

      pub press_other : (b : Bool) → (ltb w k || b) ≡ false → (w ≡ v → ⊥) → (r : ℕ) → Has (bar_at bars v w) r → Has (get_or f r 0) v
          → Forced P k before (set f w (insert (get_or f w 0) (v % slots)))
      press_other b h apart r bar waits =
          let low : k ≤ w = go (dec_lt w k) in
          subst (λ (x : ℕ). Forced P k before (set f w (insert (get_or f w 0) x))) (sym (mod-eq_of_lt vs))
          (forced_other r w v ws low (event, writer, bar) waits apart (insert (get_or f w 0) v) (λ a q. insert_old (get_or f w 0) v a q) (λ a q. ⊎_elim inr inl (insert_cases (get_or f w 0) v a q)))
        where
          go : Dec (w < k) → k ≤ w
          go (yes q) = absurd (not_both_ways (bar_or (ltb w k) b ∙ or_holds _ _ (lt-ltb w k q)) h)
          go (no q) = omega (arith, q)

      -- one bar alone
      pub bar_first : k ≤ v → (b : Bool) → b ≡ mem (get_or f v 0) (w % slots) → (ltb w k || b) ≡ true → (r : ℕ) → r < slots → Has (bar_at bars v w) r
          → (c : Bool) → c ≡ mem (get_or f r 0) (v % slots) → Forced P k before (set f v (cond c (insert (insert (get_or f v 0) (r % slots)) (v % slots)) (insert (get_or f v 0) (r % slots))))
      bar_first far b is h r rs bar false back =
          subst (λ (x : ℕ). Forced P k before (set f v (insert (get_or f v 0) x))) (sym (mod-eq_of_lt rs))
          (forced_first w v vs far (comes b is h) (insert (get_or f v 0) r) (λ a q. insert_old (get_or f v 0) r a q)
          (λ a q. ⊎_elim (λ e. inr (event, writer, subst (Has (bar_at bars v w)) (sym e) bar)) inl (insert_cases (get_or f v 0) r a q)))
      bar_first far b is h r rs bar true back =
          let x = get_or f v 0 in
          subst (λ (z : ℕ). Forced P k before (set f v (insert (insert x (r % slots)) z))) (sym (mod-eq_of_lt vs))
          (subst (λ (z : ℕ). Forced P k before (set f v (insert (insert x z) v))) (sym (mod-eq_of_lt rs))
          (forced_both w v vs far (comes b is h) r (event, writer, bar) (ap (mem (get_or f r 0)) (sym (mod-eq_of_lt vs)) ∙ sym back) (insert (insert x r) v)
          (λ a q. insert_old (insert x r) v a (insert_old x r a q))
          (λ a q. ⊎_elim (λ e. inr (inr e)) (λ g. ⊎_elim (λ e. inr (inl (event, writer, subst (Has (bar_at bars v w)) (sym e) bar))) inl (insert_cases x r a g)) (insert_cases (insert x r) v a q))))

    pub forced_closed : {f' : List ℕ} → k ≤ m → Closed m f f' → Forced P k before f'
    forced_closed {f'} few c =
        record {
          size = c.size ∙ i.size;
          waits = λ l r. waits_closed m f f' c P (omega arith) l (Below k) start_grown r (i.waits l r);
          keeps = λ e a b d h. (c.reach e b d).1 (step (i.keeps e a b d h));
          idle = λ e h. empty e h;
        }
      where
        never : (e d : ℕ) → e < k → Reach m f e d → ⊥
        never e d h (step q) = none_has (get_or f e 0) d (i.idle e h) q
        never e d h (more {m = x} q l r) = none_has (get_or f e 0) x (i.idle e h) q

        empty : (e : ℕ) → e < k → get_or f' e 0 ≡ 0
        empty e h = ext_all (get_or f' e 0) 0 (λ d. false_of _ (λ q. never e d h ((c.reach e (omega arith) d).0 q)) ∙ sym (mem_empty d))

    -- as the code closes it
    pub forced_close : {f' : List ℕ} → k ≤ m → m ≤ slots → Closed (taken m f) f f' → Forced P k before f'
    forced_close {f'} few room c =
        let all : taken m f ≡ m = let z = i.size in omega (arith, z, room) in
        forced_closed few (subst (λ (x : ℕ). Closed x f f') all c)

    pub forced_cycle : (v : ℕ) → k ≤ v → v < m → Has (get_or f v 0) v → Dead P (Below k)
    forced_cycle v far event h l r = ⊎_elim (λ s. absurd (omega (arith, s))) (waits_self P f v h l (Below k) r (i.waits l r)) (run_in_lem P l (Below k) r v event)

    -- ---- the ways are the same

    abbrev Q : Problem
    Q = tabled m f bars

    runs_on : (l : List ℕ) (S : ℕ → Type 0) → Runs P S l → Waits f S l → Runs Q S l
    runs_on [] S r w = r
    runs_on (e ∷ l) S r w =
        (record { event = r.0.event; fresh = r.0.fresh; after = λ a b. w.0 a b.1; clear = r.0.clear }, runs_on l (With S e) r.1 w.1)

    runs_off : (l : List ℕ) (S : ℕ → Type 0) → ((e : ℕ) → e < k → S e) → Runs Q S l → Runs P S l
    runs_off [] S g r = r
    runs_off (e ∷ l) S g r =
        let far : k ≤ e = high (dec_lt e k) in (
          record { event = r.0.event; fresh = r.0.fresh; after = λ a b. r.0.after a (b.0, i.keeps e far r.0.event a b.1); clear = r.0.clear },
          runs_off l (With S e) (λ d q. inr (g d q)) r.1,
        )
      where
        high : Dec (e < k) → k ≤ e
        high (yes q) = absurd (r.0.fresh (g e q))
        high (no q) = omega (arith, q)

    pub forced_found : (l : List ℕ) → FirstOf (Runs (tabled m f bars) (Below k)) l → FirstOf (Runs (tabled m before bars) (Below k)) l
    forced_found =
        first_map (Runs Q (Below k)) (Runs P (Below k)) (λ l r. runs_off l (Below k) (λ e q. q) r) (λ l r. runs_on l (Below k) r (i.waits l r))

    pub forced_dead : Dead (tabled m f bars) (Below k) → Dead (tabled m before bars) (Below k)
    forced_dead d l r = d l (runs_on l (Below k) r (i.waits l r))

    pub forced_searched : {scratch s path : List ℕ} {r : Bool} → Searched (tabled m f bars) k scratch r s path → Searched (tabled m before bars) k scratch r s path
    forced_searched a = record { clean = a.clean; found = λ z. forced_found _ (a.found z); none = λ z. forced_dead (a.none z) }

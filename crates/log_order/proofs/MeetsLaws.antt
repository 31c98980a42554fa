-- A list without a fault meets the problem, and a list that meets it has none (02 §5: "accept exactly when"). Assumes nothing.
--     Faultless              no fault is found
--     faultless, none_found  that is, `list_fault` finds none
--     in_order               of two events of which one happens before the other, that one stands first
--     faultless_meets, meets_faultless
use mathlib.Core.Path.{◌≡◌, refl, sym, ap, subst}
use mathlib.Core.Bool.{Bool, true, false, cond}
use mathlib.Core.List.{List, Memᴰ}
use mathlib.Core.Option.{Option, none, some}
use Prim.Native.Nat.{ℕ, ◌<◌, min}
use native.Mathlib.Omega.{arith}
use borrow.Author.Tests.{eq-eqb, eqb-true}
use lib.Dec.{T, eqb}
use lib.ListN.{length, get_or}
use Rattle.basis.specs.Test.{◌and◌, find, across, from}
use Rattle.basis.proofs.BoolLaws.{true_T, T_true, T_false, not_both_ways, and_elim, and_intro, and_both}
use Rattle.basis.proofs.ListLaws.{from_mem, from_elim, across_mem, across_left}
use Rattle.basis.proofs.LoopLaws.{any_elim, any_intro}
use Rattle.basis.proofs.FindLaws.{find_none, none_find, else_none, none_else, mapped_none, none_mapped}
use Rattle.format.specs.declared.Row.{Row}
use Rattle.orders.specs.Order.{Precedes, Meets}
use Rattle.orders.proofs.OrderLaws.{precedes_in}
use Rattle.orders.proofs.PlaceLaws.{in_at, at_in_lem, either_way, distinct_loop}
use Rattle.log_order.specs.declared.Fault.{Fault}
use Rattle.log_order.specs.declared.Fault.TheVariants.{WrongLength}
use Rattle.log_order.specs.Listed.{ahead, Trial, bad_at, early_at, barred_at, longest, length_fault, number_fault, early_fault, bar_fault, list_fault}
use Rattle.log_order.specs.Trial.{problem_of}
use Rattle.log_order.specs.Promises.{Strict}
use Rattle.log_order.proofs.ListLaws.{ahead_precedes, precedes_ahead, is_event, is_once, is_all, has_length, has_numbers}

pub record Faultless (c : Trial) (l : List ℕ) : Type 0 where
  pub long : length l ≡ c.events
  pub numbers : (i : ℕ) → i < length l → bad_at c.events l i ≡ false
  pub later : (i : ℕ) → i < length l → early_at c l i ≡ false
  pub free : (p : Row) (v : ℕ) → Memᴰ p c.rows → v < c.events → barred_at c l (p, v) ≡ false

module _ (c : Trial) (l : List ℕ) where
  -- ---- no fault is found

  pub right_length : length_fault c l ≡ none → length l ≡ c.events
  unfolding length_fault
  right_length h = eqb-true (length l) c.events (go (eqb (length l) c.events) (some (WrongLength (min (length l) longest))) refl h)
    where
      go : (b : Bool) (o : Option Fault) → o ≡ some (WrongLength (min (length l) longest)) → cond b none o ≡ none → b ≡ true
      go true o e q = refl
      go false o e q = let z : ◌≡◌ {A = ℕ} 0 1 = cc in absurd (omega arith)

  below : (p : ℕ → Bool) (n : ℕ) → find p (from 0 n) ≡ none → (i : ℕ) → i < n → p i ≡ false
  below p n h i k = T_false (p i) (find_none p (from 0 n) h i (from_mem n 0 i (omega arith) (omega arith)))

  pub number_none : number_fault c l ≡ none → (i : ℕ) → i < length l → bad_at c.events l i ≡ false
  unfolding number_fault
  number_none h = below (bad_at c.events l) (length l) (mapped_none _ _ h)

  pub early_nothing : early_fault c l ≡ none → (i : ℕ) → i < length l → early_at c l i ≡ false
  unfolding early_fault
  early_nothing h = below (early_at c l) (length l) (mapped_none _ _ h)

  pub faultless : list_fault c l ≡ none → Faultless c l
  unfolding list_fault bar_fault
  faultless h =
      let a = else_none (length_fault c l) _ h in
      let b = else_none (number_fault c l) _ a.1 in
      let d = else_none (early_fault c l) _ b.1 in
      record {
        long = right_length a.0;
        numbers = number_none b.0;
        later = early_nothing d.0;
        free = λ p v m k. T_false (barred_at c l (p, v)) (find_none (barred_at c l) (across c.rows (from 0 c.events)) (mapped_none _ _ d.1) (p, v) (across_mem c.rows (from 0 c.events) p v m (from_mem c.events 0 v (omega arith) (omega arith))));
      }

  none_below : (p : ℕ → Bool) (n : ℕ) → ((i : ℕ) → i < n → p i ≡ false) → find p (from 0 n) ≡ none
  none_below p n f = none_find p (from 0 n) (λ i m t. let z = from_elim n 0 i m in not_both_ways (T_true (p i) t) (f i (omega (arith, z.1))))

  -- ---- happens-before, at one place

  pub late_at : (i : ℕ) → early_at c l i ≡ true → (d : ℕ) × (d < c.events) × T (c.before d (get_or l i 0)) × Precedes (get_or l i 0) d l
  unfolding early_at
  late_at i h =
      let w = any_elim (λ (d : ℕ). c.before d (get_or l i 0) and ahead l (get_or l i 0) d) (from 0 c.events) (true_T _ h) in
      let z = from_elim c.events 0 w.0 w.1 in
      let p = and_elim _ _ w.2 in
      (w.0, omega (arith, z.1), p.0, ahead_precedes l (get_or l i 0) w.0 (T_true _ p.1))

  pub at_late : (i d : ℕ) → d < c.events → T (c.before d (get_or l i 0)) → Precedes (get_or l i 0) d l → early_at c l i ≡ true
  unfolding early_at
  at_late i d h b p =
      T_true _ (any_intro (λ (e : ℕ). c.before e (get_or l i 0) and ahead l (get_or l i 0) e) (from 0 c.events) d (from_mem c.events 0 d (omega arith) (omega arith)) (and_intro _ _ b (true_T _ (precedes_ahead l (get_or l i 0) d p))))

  -- ---- a row

  pub barred_at_lem : (p : Row) (v : ℕ) → barred_at c l (p, v) ≡ true → Precedes p.writer v l × Precedes v p.reader l × T (c.bars p v)
  unfolding barred_at
  barred_at_lem p v h =
      let a = and_both (ahead l p.writer v) _ h in
      let b = and_both (ahead l v p.reader) _ a.1 in
      (ahead_precedes l p.writer v a.0, ahead_precedes l v p.reader b.0, true_T _ b.1)

  pub at_barred : (p : Row) (v : ℕ) → Precedes p.writer v l → Precedes v p.reader l → T (c.bars p v) → barred_at c l (p, v) ≡ true
  unfolding barred_at
  at_barred p v a b t = T_true _ (and_intro _ _ (true_T _ (precedes_ahead l p.writer v a)) (and_intro _ _ (true_T _ (precedes_ahead l v p.reader b)) t))

  pub none_found : Faultless c l → list_fault c l ≡ none
  unfolding list_fault length_fault number_fault early_fault bar_fault
  none_found g =
      none_else _ _ (ap (λ (b : Bool). cond b none (some (WrongLength (min (length l) longest)))) (eq-eqb (length l) c.events g.long))
      (none_else _ _ (none_mapped _ _ (none_below (bad_at c.events l) (length l) g.numbers))
      (none_else _ _ (none_mapped _ _ (none_below (early_at c l) (length l) g.later))
      (none_mapped _ _ (none_find (barred_at c l) (across c.rows (from 0 c.events))
      (λ p m t. not_both_ways (T_true _ t) (g.free p.0 p.1 (across_left _ _ p m)
      (is_event c.events l g.long g.numbers p.1 (precedes_in p.0.writer p.1 l (barred_at_lem p.0 p.1 (T_true _ t)).0))))))))

  -- ---- the problem

  module _ (strict : Strict c) (long : length l ≡ c.events) (numbers : (i : ℕ) → i < length l → bad_at c.events l i ≡ false) where
    -- at one place: whatever happens before the event there stands before it
    pub in_order : (i : ℕ) → i < length l → early_at c l i ≡ false → (a : ℕ) → T (c.before a (get_or l i 0)) → Precedes a (get_or l i 0) l
    in_order i h e a b =
        let k = strict.inside a (get_or l i 0) b in
        either_way l (get_or l i 0) a (at_in_lem l i h) (is_all c.events l long numbers a k.0) (λ s. strict.apart a (subst (λ (x : ℕ). T (c.before a x)) s b))
        (λ p. not_both_ways (at_late i a k.0 b p) e)

  pub faultless_meets : Strict c → Faultless c l → Meets (problem_of c) l
  faultless_meets strict g =
      record {
        events = is_event c.events l g.long g.numbers;
        all = is_all c.events l g.long g.numbers;
        once = is_once c.events l g.long g.numbers;
        before = λ a b h.
            let w = in_at b l (is_all c.events l g.long g.numbers b (strict.inside a b h).1) in
            subst (λ (x : ℕ). Precedes a x l) w.2 (in_order strict g.long g.numbers w.0 w.1 (g.later w.0 w.1) a (subst (λ (x : ℕ). T (c.before a x)) (sym w.2) h));
        bars = λ r w v h a b.
            let k = any_elim (λ (p : Row). eqb p.reader r and eqb p.writer w and c.bars p v) c.rows h in
            let z = and_elim _ _ k.2 in
            let y = and_elim _ _ z.1 in
            let er = eqb-true k.0.reader r (T_true _ z.0) in
            let ew = eqb-true k.0.writer w (T_true _ y.0) in
            let n = is_event c.events l g.long g.numbers v (precedes_in w v l a) in
            not_both_ways
            (at_barred k.0 v (subst (λ (x : ℕ). Precedes x v l) (sym ew) a) (subst (λ (x : ℕ). Precedes v x l) (sym er) b) y.1)
            (g.free k.0 v k.1 n);
      }

  pub meets_faultless : Meets (problem_of c) l → Faultless c l
  meets_faultless e =
      record {
        long = has_length c.events l e.events e.once e.all;
        numbers = has_numbers c.events l e.events e.once;
        later = λ i h.
            T_false (early_at c l i)
            (λ t. let w = late_at i (T_true _ t) in distinct_loop w.0 (get_or l i 0) l e.once (e.before w.0 (get_or l i 0) w.2) w.3);
        free = λ p v m k.
            T_false (barred_at c l (p, v))
            (λ t. let w = barred_at_lem p v (T_true _ t) in
            e.bars p.reader p.writer v
            (any_intro (λ (r : Row). eqb r.reader p.reader and eqb r.writer p.writer and c.bars r v) c.rows p m
            (and_intro _ _ (true_T _ (eq-eqb p.reader p.reader refl)) (and_intro _ _ (true_T _ (eq-eqb p.writer p.writer refl)) w.2)))
            w.0 w.1);
      }

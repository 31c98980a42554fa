-- The laws of specs/steps/Thin.antt: the walk on tables is the walk on their lists. Assumes nothing.
--     without_out without_other wide_without    the table without a bar
--     turn_idled turn_dropped turn_needed      how a turn is made
--     Standing, stand_start stand_skip stand_more stand_end    the walk up to the bar i
use Prim.Native.Nat.{ℕ, suc, ◌+◌, ◌-◌, ◌^◌, ◌<◌, ◌≤◌}
use mathlib.Core.Path.{◌≡◌, refl, sym, ap, ap₂, subst, ◌∙◌}
use mathlib.Core.Bool.{Bool, true, false, ◌&&◌, and-false, and-true}
use mathlib.Core.List.{List, [], ◌∷◌, ◌++◌, append_assoc, append-nil}
use native.Mathlib.Nat.{zero-add}
use native.Mathlib.Numerals.{add-one}
use native.Mathlib.Decide.{ℕ_discrete, dec_lt}
use native.Mathlib.Omega.{arith}
use borrow.Author.Tests.{ne_eqb}
use lib.Dec.{ltb}
use lib.ListN.{length, get_or, set, get_or-eq_default}
use lib.Seq.{get_or-set_same, get_or-set_other, set_out, set-set, set-get_or}
use Rattle.sets.specs.Mask.{slots, mem, remove}
use Rattle.basis.proofs.BoolLaws.{eqb_self}
use Rattle.sets.proofs.MaskLaws.{mem_remove, mem_empty, remove_le}
use Rattle.orders.specs.Step.{Below, Runs, Dead}
use Rattle.orders.specs.Tables.{tabled}
use Rattle.orders.specs.Answer.{Fits, Told}
use Rattle.kept.specs.steps.Numbers.{numbers, reader_of, writer_of, between_of, picks, mask_at, is_bar, bar_numbers, NextBar}
use Rattle.kept.specs.Kept.{Walk, end, drop, keep}
use Rattle.kept.specs.steps.Idle.{is_idle}
use Rattle.kept.specs.steps.Thin.{Wide, cell, without, LeavesBy, Tried, idled, dropped, needed, Turn, Thinned}
use Rattle.kept.proofs.NumbersLaws.{picks_none, picks_first, picks_append, picks_last, picks_gap, picks_later, picks_same, number_unique, bar_facts}
use Rattle.kept.proofs.BarsLaws.{leaves_table, table_leaves}
use Rattle.kept.proofs.IdleLaws.{idle_facts, leaves_idle}

-- ---- the table without a bar

module _ (m : ℕ) (bars : List ℕ) where
  -- the test looks only at the bar's own bit
  bar_same : (t : List ℕ) (i : ℕ) → mem (mask_at t i) (reader_of i) ≡ mem (mask_at bars i) (reader_of i) → is_bar m t i ≡ is_bar m bars i
  unfolding is_bar
  bar_same t i h = ap (λ (b : Bool). ltb (writer_of i) m && (ltb (between_of i) m && b)) h

  bar_no : (t : List ℕ) (i : ℕ) → mem (mask_at t i) (reader_of i) ≡ false → is_bar m t i ≡ false
  unfolding is_bar
  bar_no t i h =
      ap (λ (b : Bool). ltb (writer_of i) m && (ltb (between_of i) m && b)) h
      ∙ ap (λ (b : Bool). ltb (writer_of i) m && b) (and-false (ltb (between_of i) m)) ∙ and-false (ltb (writer_of i) m)

  module _ (i : ℕ) where
    mask_same : cell i < length bars → mask_at (without bars i) i ≡ remove (mask_at bars i) (reader_of i)
    unfolding without
    mask_same h = get_or-set_same bars (cell i) (remove (mask_at bars i) (reader_of i)) 0 h

    beyond : length bars ≤ cell i → without bars i ≡ bars
    unfolding without
    beyond h = set_out bars (cell i) (remove (mask_at bars i) (reader_of i)) h

    mask_other : (j : ℕ) → (cell j ≡ cell i → ⊥) → mask_at (without bars i) j ≡ mask_at bars j
    unfolding without
    mask_other j h = get_or-set_other bars (cell i) (cell j) (remove (mask_at bars i) (reader_of i)) 0 h

    pub without_out : is_bar m (without bars i) i ≡ false
    without_out = bar_no (without bars i) i (go (dec_lt (cell i) (length bars)))
      where
        go : Dec (cell i < length bars) → mem (mask_at (without bars i) i) (reader_of i) ≡ false
        go (yes l) = ap (λ (x : ℕ). mem x (reader_of i)) (mask_same l) ∙ mem_remove (mask_at bars i) (reader_of i) (reader_of i) ∙ rw (eqb_self (reader_of i)) (and-false (mem (mask_at bars i) (reader_of i)))
        go (no f) =
            ap (λ (t : List ℕ). mem (mask_at t i) (reader_of i)) (beyond (omega arith))
            ∙ ap (λ (x : ℕ). mem x (reader_of i)) (get_or-eq_default bars 0 (omega arith)) ∙ mem_empty (reader_of i)

    pub without_other : (j : ℕ) → i < numbers → j < numbers → (j ≡ i → ⊥) → is_bar m (without bars i) j ≡ is_bar m bars j
    without_other j a b f = bar_same (without bars i) j (go (ℕ_discrete (cell j) (cell i)) (dec_lt (cell i) (length bars)))
      where
        go : Dec (cell j ≡ cell i) → Dec (cell i < length bars) → mem (mask_at (without bars i) j) (reader_of j) ≡ mem (mask_at bars j) (reader_of j)
        go (no q) d = ap (λ (x : ℕ). mem x (reader_of j)) (mask_other j q)
        go (yes p) (no g) = ap (λ (t : List ℕ). mem (mask_at t j) (reader_of j)) (beyond (omega arith))
        go (yes p) (yes l) =
            let apart : reader_of j ≡ reader_of i → ⊥ = λ q. f (number_unique j i b a p q) in
            ap (λ (c : ℕ). mem (get_or (without bars i) c 0) (reader_of j)) p ∙ ap (λ (x : ℕ). mem x (reader_of j)) (mask_same l)
            ∙ mem_remove (mask_at bars i) (reader_of i) (reader_of j) ∙ rw (ne_eqb (reader_of j) (reader_of i) apart) (and-true (mem (mask_at bars i) (reader_of j)))
            ∙ ap (λ (c : ℕ). mem (get_or bars c 0) (reader_of j)) (sym p)

pub wide_without : (bars : List ℕ) (i : ℕ) → Wide bars → Wide (without bars i)
unfolding without
wide_without bars i wide j = go (ℕ_discrete j (cell i)) (dec_lt (cell i) (length bars))
  where
    go : Dec (j ≡ cell i) → Dec (cell i < length bars) → get_or (set bars (cell i) (remove (mask_at bars i) (reader_of i))) j 0 < 2 ^ slots
    go (no f) d = rw (get_or-set_other bars (cell i) j (remove (mask_at bars i) (reader_of i)) 0 f) (wide j)
    go (yes p) (no g) = rw (set_out bars (cell i) (remove (mask_at bars i) (reader_of i)) (omega arith)) (wide j)
    go (yes p) (yes l) = rw (p, get_or-set_same bars (cell i) (remove (mask_at bars i) (reader_of i)) 0 l) (let a = remove_le (mask_at bars i) (reader_of i) in let b = wide (cell i) in omega arith)

-- ---- the walk up to the bar i

pub record Standing (k m : ℕ) (before bars₀ bars : List ℕ) (i : ℕ) : Type 0 where
  pub wide : Wide bars
  -- what is left has no order
  pub none : LeavesBy m before k (bar_numbers m bars) → ⊥
  -- what is not yet tried is as it was
  pub later : (j : ℕ) → i ≤ j → j < numbers → is_bar m bars j ≡ is_bar m bars₀ j
  -- whatever the walk keeps from here on, it keeps that after what is kept so far
  pub goes : (l : List ℕ) → Walk (LeavesBy m before k) (picks (is_bar m bars) 0 i) (picks (is_bar m bars₀) i (numbers - i)) l
      → Walk (LeavesBy m before k) [] (bar_numbers m bars₀) (picks (is_bar m bars) 0 i ++ l)

module _ {k m : ℕ} {before bars₀ : List ℕ} where
  pub stand_start : m ≤ slots → Wide bars₀ → Dead (tabled m before bars₀) (Below k) → Standing k m before bars₀ bars₀ 0
  unfolding bar_numbers
  stand_start fits wide d =
      record {
        wide = wide;
        none = λ o. let r = leaves_table m before bars₀ k fits wide o in d r.0 r.1;
        later = λ j a b. refl;
        goes = λ l w. subst (λ (x : List ℕ). Walk (LeavesBy m before k) [] (bar_numbers m bars₀) (x ++ l)) (sym (picks_none (is_bar m bars₀) 0))
            (subst (λ (x : List ℕ). Walk (LeavesBy m before k) x (bar_numbers m bars₀) l) (picks_none (is_bar m bars₀) 0) w);
      }

  ended : (bars : List ℕ) → Standing k m before bars₀ bars numbers → Thinned k m before bars₀ bars
  unfolding bar_numbers
  ended bars s =
      subst (λ (x : List ℕ). Walk (LeavesBy m before k) [] (bar_numbers m bars₀) x) (append-nil (picks (is_bar m bars) 0 numbers))
      (s.goes [] (subst (λ (x : List ℕ). Walk (LeavesBy m before k) (picks (is_bar m bars) 0 numbers) x []) (sym (picks_none (is_bar m bars₀) numbers)) end))

  pub stand_end : {bars : List ℕ} {i : ℕ} → Standing k m before bars₀ bars i → i ≡ numbers → Thinned k m before bars₀ bars
  stand_end {bars} s e = ended bars (subst (Standing k m before bars₀ bars) e s)

  -- on to the next bar
  pub stand_skip : {bars : List ℕ} {i j : ℕ} → Standing k m before bars₀ bars i → NextBar m bars i j → Standing k m before bars₀ bars j
  stand_skip {bars} {i} {j} s n =
      record {
        wide = s.wide;
        none = s.none;
        later = λ q a b. s.later q (let z = n.low in omega arith) b;
        goes = λ l w. subst (λ (x : List ℕ). Walk (LeavesBy m before k) [] (bar_numbers m bars₀) (x ++ l)) (sym head)
            (s.goes l (subst (λ (x : List ℕ). Walk (LeavesBy m before k) (picks (is_bar m bars) 0 i) x l) (sym tail) (subst (λ (x : List ℕ). Walk (LeavesBy m before k) x (picks (is_bar m bars₀) j (numbers - j)) l) head w)));
      }
    where
      head : picks (is_bar m bars) 0 j ≡ picks (is_bar m bars) 0 i
      head = picks_gap (is_bar m bars) i j n.low n.none

      tail : picks (is_bar m bars₀) i (numbers - i) ≡ picks (is_bar m bars₀) j (numbers - j)
      tail = picks_later (is_bar m bars₀) i j numbers n.low n.high (λ q a b. sym (s.later q a (let z = n.high in omega arith)) ∙ n.none q a b)

  module _ (fits : m ≤ slots) {bars : List ℕ} {i : ℕ} (s : Standing k m before bars₀ bars i) (low : i < numbers) where
    abbrev L : List ℕ → Type 0
    L = LeavesBy m before k

    abbrev f : ℕ → Bool
    f = is_bar m bars

    abbrev g : ℕ → Bool
    g = is_bar m bars₀

    left : numbers - i ≡ suc (numbers - (i + 1))
    left = omega arith

    -- the rest, with this bar or without it
    rest_in_lem : f i ≡ true → picks g i (numbers - i) ≡ i ∷ picks g (i + 1) (numbers - (i + 1))
    rest_in_lem h = ap (picks g i) left ∙ picks_first g i (numbers - (i + 1)) (sym (s.later i (omega arith) low) ∙ h) ∙ ap (λ (x : ℕ). i ∷ picks g x (numbers - (i + 1))) (sym (add-one i))

    -- the table without the bar has those kept so far and those not yet tried
    head_same : picks (is_bar m (without bars i)) 0 i ≡ picks f 0 i
    head_same = picks_same (is_bar m (without bars i)) f i 0 (λ j a b. without_other m bars i j low (omega arith) (λ e. omega arith))

    head_next : picks (is_bar m (without bars i)) 0 (i + 1) ≡ picks f 0 i
    head_next =
        picks_gap (is_bar m (without bars i)) i (i + 1) (omega arith) (λ j a b. let e : j ≡ i = omega arith in ap (is_bar m (without bars i)) e ∙ without_out m bars i) ∙ head_same

    tail_same : picks (is_bar m (without bars i)) (i + 1) (numbers - (i + 1)) ≡ picks g (i + 1) (numbers - (i + 1))
    tail_same = picks_same (is_bar m (without bars i)) g (numbers - (i + 1)) (i + 1) (λ j a b. without_other m bars i j low (omega arith) (λ e. omega arith) ∙ s.later j (omega arith) (omega arith))

    remaining : bar_numbers m (without bars i) ≡ picks f 0 i ++ picks g (i + 1) (numbers - (i + 1))
    unfolding bar_numbers
    remaining =
        let e : numbers ≡ (i + 1) + (numbers - (i + 1)) = omega arith in
        ap (picks (is_bar m (without bars i)) 0) e ∙ picks_append (is_bar m (without bars i)) (i + 1) 0 (numbers - (i + 1))
        ∙ ap₂ (λ (x y : List ℕ). x ++ y) head_next (ap (λ (x : ℕ). picks (is_bar m (without bars i)) x (numbers - (i + 1))) (zero-add (i + 1)) ∙ tail_same)

    -- the bar is dropped, where the others leave no order
    stand_out : f i ≡ true → (L (bar_numbers m (without bars i)) → ⊥) → Standing k m before bars₀ (without bars i) (i + 1)
    stand_out h n =
        record {
          wide = wide_without bars i s.wide;
          none = n;
          later = λ j a b. without_other m bars i j low b (λ e. omega arith) ∙ s.later j (omega arith) b;
          goes = λ l w. subst (λ (x : List ℕ). Walk L [] (bar_numbers m bars₀) (x ++ l)) (sym head_next)
              (s.goes l (subst (λ (x : List ℕ). Walk L (picks f 0 i) x l) (sym (rest_in_lem h)) (drop (λ o. n (subst L (sym remaining) o)) (subst (λ (x : List ℕ). Walk L x (picks g (i + 1) (numbers - (i + 1))) l) head_next w))));
        }

    searched_none : Dead (tabled m before (without bars i)) (Below k) → L (bar_numbers m (without bars i)) → ⊥
    searched_none d o = let r = leaves_table m before (without bars i) k fits (wide_without bars i s.wide) o in d r.0 r.1

    -- all that is left: what is kept so far, this bar, and what is not yet tried
    all_left : f i ≡ true → bar_numbers m bars ≡ picks f 0 i ++ (i ∷ picks g (i + 1) (numbers - (i + 1)))
    unfolding bar_numbers
    all_left h =
        let e : numbers ≡ i + (numbers - i) = omega arith in
        ap (picks f 0) e ∙ picks_append f i 0 (numbers - i)
        ∙ ap (λ (l : List ℕ). picks f 0 i ++ l) (ap (λ (x : ℕ). picks f x (numbers - i)) (zero-add i) ∙ picks_same f g (numbers - i) i (λ j a b. s.later j a (omega arith)) ∙ rest_in_lem h)

    idle_none : f i ≡ true → is_idle k before i ≡ true → L (bar_numbers m (without bars i)) → ⊥
    idle_none h z o =
        let t = bar_facts m bars i h in
        s.none (subst L (sym (all_left h)) (leaves_idle m before k i t.0 t.1 (idle_facts k before i z) (picks f 0 i) (picks g (i + 1) (numbers - (i + 1))) (subst L remaining o)))

    stand_needed : f i ≡ true → (o : List ℕ) → Runs (tabled m before (without bars i)) (Below k) o → Standing k m before bars₀ bars (i + 1)
    stand_needed h o r =
        record {
          wide = s.wide;
          none = s.none;
          later = λ j a b. s.later j (omega arith) b;
          goes = λ l w. subst (λ (x : List ℕ). Walk L [] (bar_numbers m bars₀) x) (sym (append_assoc (picks f 0 i) (i ∷ []) l) ∙ ap (λ (x : List ℕ). x ++ l) (sym (picks_last f i h)))
              (s.goes (i ∷ l) (subst (λ (x : List ℕ). Walk L (picks f 0 i) x (i ∷ l)) (sym (rest_in_lem h)) (keep some (subst (λ (x : List ℕ). Walk L x (picks g (i + 1) (numbers - (i + 1))) l) (picks_last f i h) w))));
        }
      where
        some : L (picks f 0 i ++ picks g (i + 1) (numbers - (i + 1)))
        some = subst L remaining (table_leaves m before (without bars i) k o r)

    pub stand_more : f i ≡ true → {bars' : List ℕ} → Tried k m before bars i bars' → Standing k m before bars₀ bars' (i + 1)
    stand_more h (idled z) = stand_out h (idle_none h z)
    stand_more h (dropped d) = stand_out h (searched_none d)
    stand_more h (needed o r) = stand_needed h o r

-- ---- how a turn's outcome is made

gone : (bars : List ℕ) (i : ℕ) {old cut : ℕ} {bars' : List ℕ} → old ≡ mask_at bars i → cut ≡ remove old (reader_of i) → bars' ≡ set bars (cell i) cut
    → bars' ≡ without bars i
unfolding without
gone bars i was is put = put ∙ ap (set bars (cell i)) (is ∙ ap (λ (x : ℕ). remove x (reader_of i)) was)

module _ {k m : ℕ} {before bars : List ℕ} {i : ℕ} {scratch : List ℕ} where
  module _ {old cut : ℕ} {bars' : List ℕ} (was : old ≡ mask_at bars i) (is : cut ≡ remove old (reader_of i))
      (put : bars' ≡ set bars (cell i) cut) where
    pub turn_idled : is_idle k before i ≡ true → Turn k m before bars i scratch bars' scratch
    turn_idled z = record { tried = subst (Tried k m before bars i) (sym (gone bars i was is put)) (idled z); clean = λ y. refl }

    module _ (fits : Fits k m (length scratch)) {scratch' : List ℕ} {r : Bool} (told : Told k m before bars' scratch r scratch') where
      pub turn_dropped : r ≡ false → Turn k m before bars i scratch bars' scratch'
      turn_dropped z =
          record {
            tried = subst (Tried k m before bars i) (sym (gone bars i was is put)) (dropped (subst (λ (t : List ℕ). Dead (tabled m before t) (Below k)) (gone bars i was is put) ((told.fit fits).none z)));
            clean = λ y. (told.fit fits).clean ∙ sym y;
          }

      pub turn_needed : r ≡ true → {bars'' : List ℕ} → bars'' ≡ set bars' (cell i) old → Turn k m before bars i scratch bars'' scratch'
      turn_needed z {bars''} back =
          record {
            tried = subst (Tried k m before bars i) (sym same) (let w = (told.fit fits).some z in needed w.0 (subst (λ (t : List ℕ). Runs (tabled m before t) (Below k) w.0) (gone bars i was is put) w.1));
            clean = λ y. (told.fit fits).clean ∙ sym y;
          }
        where
          same : bars'' ≡ bars
          same = back ∙ ap (λ (t : List ℕ). set t (cell i) old) put ∙ set-set bars (cell i) cut old ∙ ap (set bars (cell i)) was ∙ set-get_or bars (cell i) 0

-- Every refusal of `parse` is by a row of 01's table: specs/Refusal.antt. Kept field by field, then the tests after all fields. So the fuel never runs out.
--     refusal : RefusedByTable
--     blames_number : Blames s k n → (2 ≤ n) × (n ≤ 9)
--     refusal_number : parse s ≡ refused n p → ((1 ≤ n) × (n ≤ 11)) ⊎ (n ≡ 14)
--     refusal_place : parse s ≡ refused n p → p ≤ length s
--     refusal_low : parse s ≡ refused n p → (n ≤ 14) × (p ≤ max_bytes)
-- Assumes nothing.
use mathlib.Core.Path.{◌≡◌, refl, sym, ap, ◌∙◌, subst}
use mathlib.Core.Logic.{◌⊎◌, inl, inr, ⊎_elim}
use mathlib.Core.Bool.{Bool, true, false}
use mathlib.Core.List.{List, [], ◌∷◌, ◌++◌}
use Prim.Native.Nat.{ℕ, zero, suc, ◌+◌, ◌-◌, ◌<◌, ◌≤◌}
use native.Mathlib.Omega.{arith}
use native.Mathlib.Nat.{eq-or-lt_of_le, le_of_eq}
use native.Mathlib.Decide.{dec_lt}
use borrow.Author.Tests.{ltb-true, ltb-false, eqb-true, eqb-false, ne_eqb}
use lib.Dec.{T, eqb, ltb}
use lib.ListN.{length, get_or, length-append, get_or-eq_default, get_or-append}
use Rattle.basis.specs.Test.{any}
use Rattle.basis.proofs.BoolLaws.{true_T, false_T}
use Rattle.basis.proofs.ListLaws.{up_more, snoc_split, last_at, each_snoc, mem_get_or, get_or_mem}
use Rattle.basis.proofs.LoopLaws.{any_elim, any_intro}
use Rattle.format.specs.Limits.{max_bytes}
use Rattle.format.specs.Layout.{access_of, event_of}
use Rattle.format.specs.Event.{Event, nobody, reads_some}
use Rattle.format.specs.Execution.{Execution, event, event_no}
use Rattle.format.specs.Field.{tag_at, value_at, field_place}
use Rattle.parse.specs.Parse.{Parsed, refused, place_of, State, blank, fault_at, taken, after, finish, fields_from, parse}
use Rattle.parse.specs.Promise.{HasEvent, EachAppears}
use Rattle.parse.specs.Described.{fields_taken, described, RowlessAt}
use Rattle.parse.specs.Refusal.{state_no, fault_no, Faultless, tag_no, Blames, Refusal, RefusedByTable}
use Rattle.parse.proofs.ParseLaws.{Finished, headless, none_reads, absent, rowless, complete, finished, not_whole, inside, was_none, was_2, known, too_long, at_end, at_fault, at_field}
use Rattle.parse.proofs.DescribedLaws.{taken_end, taken_more}
use Rattle.format.proofs.ExecutionLaws.{event_inside}
use Rattle.parse.proofs.LackLaws.{OneAccess, lowest_rowless}
use Rattle.parse.proofs.AppearLaws.{each_appear, one_missing}
use Rattle.parse.proofs.LadderLaws.{last_tag, rung, blamed}

-- ---- what is known before field number k

-- of the last tag, the places of the events' tags, and the events
record Behind (s : List ℕ) (k tag : ℕ) (places : List ℕ) (events : List Event) : Type 0 where
  last : tag ≡ last_tag s k
  some_last : 1 ≤ k → 1 ≤ last_tag s k
  -- the head is field 0, event e field 1 + e
  count : tag ≤ 2 → k - 1 ≡ length places
  same : length places ≡ length events
  event_place_lem : (e : ℕ) → e < length places → get_or places e 0 ≡ field_place s (suc e)
  event_tag : (e : ℕ) → e < length places → tag_no s (suc e) ≡ 2
  one : (e : ℕ) → e < length events → OneAccess (get_or events e nobody)

abbrev Known : List ℕ → ℕ → State → Type 0
Known s k st = Behind s k st.tag st.places st.got.events

-- only the first field has no tag before it
first_field : (s : List ℕ) (k : ℕ) → (1 ≤ k → 1 ≤ last_tag s k) → last_tag s k ≡ 0 → k ≡ 0
first_field s zero l e = refl
first_field s (suc j) l e = absurd (let h = l (omega arith) in omega arith)

later_field : (s : List ℕ) (k : ℕ) → 1 ≤ last_tag s k → 1 ≤ k
later_field s zero h = absurd (omega arith)
later_field s (suc j) h = omega arith

known_blank : (s : List ℕ) → Known s 0 blank
known_blank s =
    record {
      last = refl;
      some_last = λ h. absurd (omega arith);
      count = λ h. omega arith;
      same = refl;
      event_place_lem = λ e h. absurd (omega arith);
      event_tag = λ e h. absurd (omega arith);
      one = λ e h. absurd (omega arith);
    }

-- ---- one field more

-- only an event's field adds an event
taken_other : (x : Execution) (tag : ℕ) (v : List ℕ) → (tag ≡ 2 → ⊥) → (taken x tag v).events ≡ x.events
unfolding taken
taken_other x tag v h =
    rung Same (eqb tag 1) _ _ (λ _. refl)
    (λ _. rung Same (eqb tag 2) _ _ (λ b. absurd (h (eqb-true _ _ b)))
    (λ _. rung Same (eqb tag 3) _ _ (λ _. refl) (λ _. rung Same (eqb tag 4) _ _ (λ _. refl) (λ _. refl))))
  where
    Same : Execution → Type 0
    Same y = y.events ≡ x.events

module _ (s : List ℕ) (k : ℕ) (st : State) (f : fault_at s (field_place s k) st ≡ 0) (w : Known s k st) where
  abbrev q : ℕ
  q = field_place s k

  low : 1 ≤ tag_no s k
  low = go (tag_no s k) (known s q st f)
    where
      go : (t : ℕ) → ((t ≡ 1 → ⊥) → (t ≡ 2 → ⊥) → (t ≡ 3 → ⊥) → (t ≡ 4 → ⊥) → ⊥) → 1 ≤ t
      go zero h = absurd (h (λ e. omega arith) (λ e. omega arith) (λ e. omega arith) (λ e. omega arith))
      go (suc t) h = omega arith

  after_event : tag_no s k ≡ 2 → Known s (suc k) (after s q st)
  unfolding after taken
  after_event e = simp e longer
    where
      new : Event
      new = event_of st.got.head.edition (value_at s q)

      counted : k ≡ suc (length st.places)
      counted =
          let t = was_2 s q st f e in
          let l = w.last in
          let c = w.count t.1 in
          let b = later_field s k (omega arith) in
          omega arith

      here : (i : ℕ) → i ≡ length st.places → k ≡ suc i
      here i a = let c = counted in omega arith

      place : (i : ℕ) → i < length (st.places ++ (q ∷ [])) → get_or (st.places ++ (q ∷ [])) i 0 ≡ field_place s (suc i)
      place i h =
          ⊎_elim (λ a. last_at 0 st.places q i a ∙ ap (field_place s) (here i a)) (λ a. get_or-append st.places (q ∷ []) 0 i a ∙ w.event_place_lem i a)
          (snoc_split 0 st.places q i h)

      longer : Behind s (suc k) 2 (st.places ++ (q ∷ [])) (st.got.events ++ (new ∷ []))
      longer =
          let l = length-append st.places (q ∷ []) in
          let m = length-append st.got.events (new ∷ []) in
          let n = w.same in
          let c = counted in
          record {
            last = sym e;
            some_last = λ h. low;
            count = λ h. omega arith;
            same = omega arith;
            event_place_lem = place;
            event_tag = λ i h. ⊎_elim (λ a. ap (tag_no s) (sym (here i a)) ∙ e) (w.event_tag i) (snoc_split 0 st.places q i h);
            one = each_snoc nobody OneAccess st.got.events new w.one (access_of st.got.head.edition (value_at s q), refl);
          }

  after_other : (tag_no s k ≡ 2 → ⊥) → Known s (suc k) (after s q st)
  unfolding after
  after_other d =
      rw (ne_eqb (tag_no s k) 2 d, taken_other st.got (tag_no s k) (value_at s q) d)
      (record {
        last = refl;
        some_last = λ h. low;
        count = counted;
        same = w.same;
        event_place_lem = w.event_place_lem;
        event_tag = w.event_tag;
        one = w.one;
      })
    where
      counted : tag_no s k ≤ 2 → suc k - 1 ≡ length st.places
      counted h =
          let b = low in
          let t : tag_no s k ≡ 1 = omega arith in
          let z = was_none s q st f t in
          let l = w.last in
          let c = w.count (omega arith) in
          let o = first_field s k w.some_last (omega arith) in
          omega arith

  known_after : Known s (suc k) (after s q st)
  known_after = go (eqb (tag_no s k) 2) refl
    where
      go : (b : Bool) → eqb (tag_no s k) 2 ≡ b → Known s (suc k) (after s q st)
      go true e = after_event (eqb-true _ _ e)
      go false e = after_other (eqb-false _ _ e)

-- ---- all fields

place_is : (n p : ℕ) → place_of n p ≡ p
unfolding place_of
place_is n p = refl

-- a field that stands inside the sheet is one of those before the end
place_rises : (s : List ℕ) (j k : ℕ) → k ≤ j → field_place s k ≤ field_place s j
unfolding field_place
place_rises s zero k h = let e : k ≡ 0 = omega arith in le_of_eq (ap (field_place s) e)
place_rises s (suc j) k h = go (place_rises s j k) (eq-or-lt_of_le h)
  where
    go : (k ≤ j → field_place s k ≤ field_place s j) → (k ≡ suc j) ⊎ (k < suc j) → field_place s k ≤ field_place s (suc j)
    go again (inl e) = le_of_eq (ap (field_place s) e)
    go again (inr l) = let r = again (omega arith) in omega arith

faultless : (s : List ℕ) (k : ℕ) → length s ≤ field_place s k → ((j : ℕ) → j < k → fault_no s j ≡ 0) → Faultless s
faultless s k b clean j h = go (dec_lt j k)
  where
    go : Dec (j < k) → fault_no s j ≡ 0
    go (yes l) = clean j l
    go (no l) = let r = place_rises s j k (omega arith) in absurd (omega arith)

some_read : (x : Execution) → any reads_some x.events ≡ true → (e : ℕ) × T (reads_some (event x e))
unfolding event event_no
some_read x h = let w = any_elim reads_some x.events (true_T _ h) in let i = mem_get_or nobody w.1 in (i.0, subst (λ (d : Event). T (reads_some d)) (sym i.2) w.2)

none_read : (x : Execution) → any reads_some x.events ≡ false → (e : ℕ) → T (reads_some (event x e)) → ⊥
unfolding event event_no reads_some any
none_read x h e t = false_T _ h (any_intro reads_some x.events (event x e) (get_or_mem nobody x.events e (event_inside x (λ (d : Event). T (reads_some d)) (false_T _ refl) e t)) t)

-- the refusal that is given is the one that has a row
said : (s : List ℕ) (n p : ℕ) {m o : ℕ} → Refusal s m o → refused m o ≡ refused n p → Refusal s n p
said s n p {m} {o} r e = let f : m ≡ n = cc in let g : o ≡ p = cc in subst (λ (i : ℕ). Refusal s i p) f (subst (Refusal s m) g r)

module _ (s : List ℕ) (n p : ℕ) (short : length s ≤ max_bytes) where
  given : {m o : ℕ} → Refusal s m o → refused m o ≡ refused n p → Refusal s n p
  given = said s n p

  finish_refused : (k : ℕ) (st : State) → length s ≤ field_place s k → ((j : ℕ) → j < k → fault_no s j ≡ 0) → Known s k st → st.got ≡ described s
      → finish s st ≡ refused n p → Refusal s n p
  unfolding field_place event event_no
  finish_refused k st b clean w g e = go (finished s st) e
    where
      go : {v : Parsed} → Finished s st v → v ≡ refused n p → Refusal s n p
      go (headless t) f = given (Refusal.empty ends) f
        where
          ends : length s ≡ 0
          ends =
              let y = w.last in
              let i = first_field s k w.some_last (omega arith) in
              let h = subst (λ (j : ℕ). length s ≤ field_place s j) i b in
              omega arith
      go (none_reads t r) f =
          given (Refusal.none_reads short (faultless s k b clean) (λ i. subst (λ (x : Execution). T (reads_some (event x i)) → ⊥) g (none_read st.got r i))) f
      go (complete t r u l) f = not_whole (sym f)
      go (absent t r u) f =
          let a = some_read st.got r in
          let z = subst (λ (x : Execution). (c : ℕ) × (1 ≤ c) × (c ≤ x.head.agents) × (HasEvent x c → ⊥)) g (one_missing st.got u) in
          given (Refusal.no_event z.0 short (faultless s k b clean) a.0 (subst (λ (x : Execution). T (reads_some (event x a.0))) g a.1) z.1 z.2 z.3) f
      go (rowless i t r u l) f =
          let y = lowest_rowless st.got i w.one l in
          let m : i < length st.places = let c = w.same in let d = y.0 in omega arith in
          let a = some_read st.got r in
          given
          (Refusal.no_row i short (faultless s k b clean) a.0 (subst (λ (x : Execution). T (reads_some (event x a.0))) g a.1) (subst EachAppears g (each_appear st.got u)) (w.event_tag i m) (subst (λ (x : Execution). RowlessAt x i) g y.1) (λ d h x. y.2 d h (subst (λ (z : Execution). RowlessAt z d) (sym g) x)))
          (ap (refused 11) (sym (place_is 11 _ ∙ w.event_place_lem i m)) ∙ f)

  -- from field number k on, with fuel f
  abbrev Goes : ℕ → ℕ → Type 0
  Goes f k = length s < f + field_place s k → field_place s k ≤ length s → ((j : ℕ) → j < k → fault_no s j ≡ 0) → Known s k (state_no s k)
      → (fields_taken s f (field_place s k) (state_no s k)).got ≡ described s → fields_from s f (field_place s k) (state_no s k) ≡ refused n p → Refusal s n p

  one_more : (f k : ℕ) → Goes f (suc k) → Goes (suc f) k
  unfolding field_place state_no
  one_more f k again b i clean w g e = turn (ltb q (length s)) refl (fault_at s q st) refl
    where
      q : ℕ
      q = field_place s k

      st : State
      st = state_no s k

      still : fault_at s q st ≡ 0 → (j : ℕ) → j < suc k → fault_no s j ≡ 0
      still t j h = up_more {P = λ (i : ℕ). fault_no s i ≡ 0} clean t j (omega arith)

      turn : (c : Bool) → ltb q (length s) ≡ c → (m : ℕ) → fault_at s q st ≡ m → Refusal s n p
      turn false r m t =
          let h = ltb-false q (length s) r in
          finish_refused k st h clean w (ap (λ (y : State). y.got) (sym (taken_end s f q st h)) ∙ g) (sym (at_end s f q st h) ∙ e)
      turn true r zero t =
          let h = ltb-true q (length s) r in
          again (omega arith) (inside s q st t) (still t) (known_after s k st t w) (ap (λ (y : State). y.got) (sym (taken_more s f q st h)) ∙ g) (sym (at_field s f q st h t) ∙ e)
      turn true r (suc m) t =
          let h = ltb-true q (length s) r in
          given (Refusal.at_field k short h (record { none_before = clean; is = t; blames = blamed s k w.last w.some_last m t }))
          (ap (refused (suc m)) (sym (place_is (suc m) q)) ∙ sym (at_fault s f q st (suc m) h t (λ d. omega arith)) ∙ e)

  fields_refused : (f k : ℕ) → Goes f k
  fields_refused zero k = λ b i clean w g e. absurd (omega arith)
  fields_refused (suc f) k = one_more f k (fields_refused f (suc k))

pub refusal : RefusedByTable
unfolding parse described field_place state_no
refusal s n p e = go (ltb max_bytes (length s)) refl
  where
    go : (b : Bool) → ltb max_bytes (length s) ≡ b → Refusal s n p
    go true q = said s n p (Refusal.too_long (ltb-true _ _ q)) (simp q at e)
    go false q = fields_refused s n p (ltb-false _ _ q) (suc (length s)) 0 (omega arith) (omega arith) (λ j h. absurd (omega arith)) (known_blank s) refl (simp q at e)

-- a field is refused by 2 to 9
pub blames_number : {s : List ℕ} {k n : ℕ} → Blames s k n → (2 ≤ n) × (n ≤ 9)
blames_number (Blames.cut h) = (omega arith, omega arith)
blames_number (Blames.tag h) = (omega arith, omega arith)
blames_number (Blames.long h) = (omega arith, omega arith)
blames_number (Blames.of_head h j) = (omega arith, omega arith)
blames_number (Blames.of_event h j) = (omega arith, omega arith)
blames_number (Blames.of_row h j) = (omega arith, omega arith)
blames_number (Blames.of_pair h j) = (omega arith, omega arith)
blames_number (Blames.one_init_more h i j) = (omega arith, omega arith)
blames_number (Blames.one_other_more h i j) = (omega arith, omega arith)
blames_number (Blames.one_pair_more h j) = (omega arith, omega arith)

-- 1 to 11, and 02's 14
pub refusal_number : (s : List ℕ) (n p : ℕ) → parse s ≡ refused n p → ((1 ≤ n) × (n ≤ 11)) ⊎ (n ≡ 14)
refusal_number s n p e = go (refusal s n p e)
  where
    go : {m o : ℕ} → Refusal s m o → ((1 ≤ m) × (m ≤ 11)) ⊎ (m ≡ 14)
    go (Refusal.too_long h) = inl (omega arith, omega arith)
    go (Refusal.at_field k l h b) = let w = blames_number b.blames in inl (omega arith, omega arith)
    go (Refusal.empty h) = inl (omega arith, omega arith)
    go (Refusal.none_reads l f h) = inl (omega arith, omega arith)
    go (Refusal.no_event a l f d r i j h) = inr refl
    go (Refusal.no_row i l f d a u t r h) = inl (omega arith, omega arith)

pub refusal_place : (s : List ℕ) (n p : ℕ) → parse s ≡ refused n p → p ≤ length s
refusal_place s n p e = go (refusal s n p e)
  where
    tagged : (q : ℕ) → tag_at s q ≡ 2 → q ≤ length s
    tagged q t = at (ltb q (length s)) refl
      where
        at : (b : Bool) → ltb q (length s) ≡ b → q ≤ length s
        at true r = let h = ltb-true q (length s) r in omega arith
        at false r = absurd (let z = get_or-eq_default s 0 (ltb-false q (length s) r) in omega arith)

    go : {m o : ℕ} → Refusal s m o → o ≤ length s
    go (Refusal.too_long h) = omega arith
    go (Refusal.at_field k l h b) = omega arith
    go (Refusal.empty h) = omega arith
    go (Refusal.none_reads l f h) = omega arith
    go (Refusal.no_event a l f d r i j h) = omega arith
    go (Refusal.no_row i l f d a u t r h) = tagged (field_place s (suc i)) t

-- a sheet that is too long is refused at 0
pub refusal_low : (s : List ℕ) (n p : ℕ) → parse s ≡ refused n p → (n ≤ 14) × (p ≤ max_bytes)
refusal_low s n p e = (⊎_elim (λ w. omega (arith, w.1)) (λ q. omega arith) (refusal_number s n p e), go (ltb max_bytes (length s)) refl)
  where
    go : (b : Bool) → ltb max_bytes (length s) ≡ b → p ≤ max_bytes
    go true h = let q : refused n p ≡ refused 1 0 = sym e ∙ too_long s (ltb-true _ _ h) in let b : p ≡ 0 = cc in omega arith
    go false h = let b = refusal_place s n p e in let l = ltb-false max_bytes (length s) h in omega arith

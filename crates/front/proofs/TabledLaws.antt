-- The laws of specs/Tabled.antt: the access at a byte, by its slot. Assumes nothing.
--     at_first, at_second, at_cases     the access at a byte is that in one of the two slots
--     own-shape                         where an access of the event covers the byte, it is the one at the byte
--     regions_apart                     accesses in distinct regions share no byte
--     tabled                            accesses in their slots, one or two to an event, are the table's at each byte
--     owned                             and of an event's accesses no two cover a byte
--     slotted_one                       events with one access, in their first slots, are slotted
use mathlib.Core.Path.{◌≡◌, refl, sym, ap, ◌∙◌, subst}
use mathlib.Core.Bool.{true, false}
use mathlib.Core.Logic.{◌⊎◌, inl, inr}
use mathlib.Core.List.Memᴰ
use mathlib.Core.List.{List, [], ◌∷◌, Memᴰ}
use Prim.Native.Nat.{ℕ, ◌+◌, ◌*◌, ◌<◌, ◌≤◌}
use native.Mathlib.Omega.{arith}
use native.Mathlib.Decide.{dec_lt}
use borrow.Author.Tests.{leb-true, ltb-true}
use lib.Dec.{leb, ltb}
use lib.ListN.{length}
use Rattle.basis.proofs.BoolLaws.{T_true, and_both, by_bool, not_both_ways, false_of}
use Rattle.format.specs.declared.Shape.{Shape}
use Rattle.format.specs.Shape.{no_shape, covers}
use Rattle.format.specs.Event.{Access, Event, shape_at, access_at, lookup}
use Rattle.format.specs.Execution.{Execution, event}
use Rattle.format.proofs.EventLaws.{one, covers_nothing}
use Rattle.format.proofs.ExecutionLaws.{event_out, access_inside}
use Rattle.sets.specs.Mask.{slots}
use Rattle.tables.specs.Tables.{agent_in, shape_in, slot_in, at_in}
use Rattle.tables.proofs.TablesLaws.{slot_first, slot_second, at_hit, at_miss}
use Rattle.front.specs.Tabled.{Single, Double, Slotted, Tabled, Owned}

module _ (t : List ℕ) (v a : ℕ) where
  pub at_first : covers (shape_in t (2 * v)) a ≡ true → at_in t v a ≡ shape_in t (2 * v)
  at_first c =
      let s = slot_first t v a c in at_hit t v a (ap (λ (k : ℕ). covers (shape_in t k) a) s ∙ c) ∙ ap (shape_in t) s

  pub at_second : covers (shape_in t (2 * v)) a ≡ false → covers (shape_in t (2 * v + 1)) a ≡ true → at_in t v a ≡ shape_in t (2 * v + 1)
  at_second c d =
      let s = slot_second t v a c in at_hit t v a (ap (λ (k : ℕ). covers (shape_in t k) a) s ∙ d) ∙ ap (shape_in t) s

  pub at_neither : covers (shape_in t (2 * v)) a ≡ false → covers (shape_in t (2 * v + 1)) a ≡ false → at_in t v a ≡ no_shape
  at_neither c d = let s = slot_second t v a c in at_miss t v a (ap (λ (k : ℕ). covers (shape_in t k) a) s ∙ d)

  pub at_cases : covers (at_in t v a) a ≡ true → (at_in t v a ≡ shape_in t (2 * v)) ⊎ (at_in t v a ≡ shape_in t (2 * v + 1))
  at_cases h =
      by_bool (covers (shape_in t (2 * v)) a) (λ c. inl (at_first c))
      (λ c. by_bool (covers (shape_in t (2 * v + 1)) a) (λ d. inr (at_second c d))
      (λ d. absurd (not_both_ways h (ap (λ (s : Shape). covers s a) (at_neither c d) ∙ covers_nothing a))))

  pub at_slot_of : covers (at_in t v a) a ≡ true → shape_in t (slot_in t v a) ≡ at_in t v a
  at_slot_of h =
      by_bool (covers (shape_in t (slot_in t v a)) a) (λ c. sym (at_hit t v a c))
      (λ c. absurd (not_both_ways h (ap (λ (s : Shape). covers s a) (at_miss t v a c) ∙ covers_nothing a)))

-- ---- accesses in their slots

pub range_of : (s : Shape) (k : ℕ) → covers s k ≡ true → (s.start ≤ k) × (k < s.start + s.width)
unfolding covers
range_of s k h =
    let w = and_both (leb s.start k) (ltb k (s.start + s.width)) h in
    (leb-true s.start k w.0, ltb-true k (s.start + s.width) w.1)

no_width : (s : Shape) (a : ℕ) → s.width ≡ 0 → covers s a ≡ false
no_width s a w = false_of _ (λ h. let k = range_of s a h in omega (arith, w, k.0, k.1))

-- 02 §11: "one or two accesses in distinct regions"; a range stays inside its region
pub regions_apart : (a b : Shape) (r s : ℕ) → (r ≡ s → ⊥) → (r * 64 ≤ a.start) × (a.start + a.width ≤ r * 64 + 64)
    → (s * 64 ≤ b.start) × (b.start + b.width ≤ s * 64 + 64) → (k : ℕ) → covers a k ≡ true → covers b k ≡ false
regions_apart a b r s ne (al, ah) (bl, bh) k c =
    false_of _ (λ d. let v = range_of a k c in let w = range_of b k d in ne (omega (arith, al, ah, bl, bh, v.0, v.1, w.0, w.1)))

-- the access that a list of accesses has at a byte
module _ (a : Access) (l : List Access) (k : ℕ) where
  pub lookup_hit : covers a.shape k ≡ true → lookup (a ∷ l) k ≡ a
  unfolding lookup
  lookup_hit h = rw h

  pub lookup_miss : covers a.shape k ≡ false → lookup (a ∷ l) k ≡ lookup l k
  unfolding lookup
  lookup_miss h = rw h

lookup_nothing : (k : ℕ) → (lookup [] k).shape ≡ no_shape
unfolding lookup
lookup_nothing k = refl

module _ (t : List ℕ) (e k : ℕ) where
  -- whichever of the two shapes covers the byte
  at_two : (a b : Access) → a.shape ≡ shape_in t (2 * e) → b.shape ≡ shape_in t (2 * e + 1) → (lookup (a ∷ b ∷ []) k).shape ≡ at_in t e k
  at_two a b p q =
      by_bool (covers (shape_in t (2 * e)) k)
      (λ c. ap (λ (d : Access). d.shape) (lookup_hit a (b ∷ []) k (ap (λ (s : Shape). covers s k) p ∙ c)) ∙ p ∙ sym (at_first t e k c))
      (λ c. ap (λ (d : Access). d.shape) (lookup_miss a (b ∷ []) k (ap (λ (s : Shape). covers s k) p ∙ c))
      ∙ by_bool (covers (shape_in t (2 * e + 1)) k)
      (λ d. ap (λ (f : Access). f.shape) (lookup_hit b [] k (ap (λ (s : Shape). covers s k) q ∙ d)) ∙ q ∙ sym (at_second t e k c d))
      (λ d. ap (λ (f : Access). f.shape) (lookup_miss b [] k (ap (λ (s : Shape). covers s k) q ∙ d)) ∙ lookup_nothing k ∙ sym (at_neither t e k c d)))

  at_one : (a : Access) → a.shape ≡ shape_in t (2 * e) → (shape_in t (2 * e + 1)).width ≡ 0 → (lookup (a ∷ []) k).shape ≡ at_in t e k
  at_one a p w =
      by_bool (covers (shape_in t (2 * e)) k)
      (λ c. ap (λ (d : Access). d.shape) (lookup_hit a [] k (ap (λ (s : Shape). covers s k) p ∙ c)) ∙ p ∙ sym (at_first t e k c))
      (λ c. ap (λ (d : Access). d.shape) (lookup_miss a [] k (ap (λ (s : Shape). covers s k) p ∙ c)) ∙ lookup_nothing k
      ∙ sym (at_neither t e k c (no_width (shape_in t (2 * e + 1)) k w)))

  at_held : (l : List Access) → Single t e l ⊎ Double t e l → (lookup l k).shape ≡ at_in t e k
  at_held l (inl s) = ap (λ (m : List Access). (lookup m k).shape) s.is ∙ at_one s.only s.first s.second
  at_held l (inr d) = ap (λ (m : List Access). (lookup m k).shape) d.is ∙ at_two d.one d.other d.first d.second

  apart_held : (l : List Access) → Single t e l ⊎ Double t e l → covers (shape_in t (2 * e)) k ≡ true → covers (shape_in t (2 * e + 1)) k ≡ false
  apart_held l (inl s) c = no_width (shape_in t (2 * e + 1)) k s.second
  apart_held l (inr d) c =
      ap (λ (s : Shape). covers s k) (sym d.second) ∙ d.apart k (ap (λ (s : Shape). covers s k) d.first ∙ c)

  -- an access that covers the byte is found there: no access before it covers it
  own_held : (l : List Access) → Single t e l ⊎ Double t e l → (a : Access) → Memᴰ a l → covers a.shape k ≡ true → a.shape ≡ (lookup l k).shape
  own_held l (inl s) a m c =
      let y : a ≡ s.only = Memᴰ.eq_of_singleton (subst (λ (i : List Access). Memᴰ a i) s.is m) in
      sym (ap (λ (i : List Access). (lookup i k).shape) (s.is ∙ ap (λ (d : Access). d ∷ []) (sym y)) ∙ ap (λ (d : Access). d.shape) (lookup_hit a [] k c))
  own_held l (inr d) a m c =
      go (subst (λ (i : List Access). Memᴰ a i) d.is m) ∙ sym (ap (λ (i : List Access). (lookup i k).shape) d.is)
    where
      missed : covers d.other.shape k ≡ true → covers d.one.shape k ≡ false
      missed h = by_bool (covers d.one.shape k) (λ b. absurd (not_both_ways h (d.apart k b))) (λ b. b)

      go : Memᴰ a (d.one ∷ d.other ∷ []) → a.shape ≡ (lookup (d.one ∷ d.other ∷ []) k).shape
      go (Memᴰ.head z) =
          sym (ap (λ (f : Access). f.shape) (lookup_hit d.one (d.other ∷ []) k (ap (λ (f : Access). covers f.shape k) (sym z) ∙ c)) ∙ ap (λ (f : Access). f.shape) (sym z))
      go (Memᴰ.tail n) =
          let z : a ≡ d.other = Memᴰ.eq_of_singleton n in
          let h : covers d.other.shape k ≡ true = ap (λ (f : Access). covers f.shape k) (sym z) ∙ c in
          sym (ap (λ (f : Access). f.shape) (lookup_miss d.one (d.other ∷ []) k (missed h)) ∙ ap (λ (f : Access). f.shape) (lookup_hit d.other [] k h)
          ∙ ap (λ (f : Access). f.shape) (sym z))

module _ (x : Execution) (t : List ℕ) (n : ℕ) (sl : Slotted x t n) where
  pub tabled : Tabled x t n
  unfolding shape_at access_at
  tabled =
      record {
        count = sl.count;
        few = sl.few;
        shape_at_lem = λ e a h. at e a h (dec_lt e n);
        apart = λ e a h. apart e a h (dec_lt e n);
      }
    where
      at : (e a : ℕ) → e < slots → Dec (e < n) → (lookup (event x e).accesses a).shape ≡ at_in t e a
      at e a h (yes l) = at_held t e a (event x e).accesses (sl.holds e l)
      at e a h (no l) =
          let z = sl.count in
          let w = sl.beyond e (omega (arith, l)) h in
          ap (λ (d : Event). (lookup d.accesses a).shape) (event_out x e (omega (arith, l))) ∙ lookup_nothing a
          ∙ sym (at_neither t e a (no_width (shape_in t (2 * e)) a w.0) (no_width (shape_in t (2 * e + 1)) a w.1))

      apart : (e a : ℕ) → e < slots → Dec (e < n) → covers (shape_in t (2 * e)) a ≡ true → covers (shape_in t (2 * e + 1)) a ≡ false
      apart e a h (yes l) c = apart_held t e a (event x e).accesses (sl.holds e l) c
      apart e a h (no l) c = no_width (shape_in t (2 * e + 1)) a (sl.beyond e (omega (arith, l)) h).1

  pub owned : Owned x
  unfolding shape_at access_at
  owned e a k m c =
      let z = sl.count in
      own_held t e k (event x e).accesses (sl.holds e (omega (arith, access_inside x e a m))) a m (T_true _ c)

-- ---- events with one access

-- the table's event e
abbrev pub one_in : List ℕ → ℕ → List ℕ → List ℕ → Event
one_in t e seen written = one (agent_in t e) (record { shape = shape_in t (2 * e); seen = seen; written = written })

pub record OneTabled (x : Execution) (t : List ℕ) (n : ℕ) : Type 0 where
  pub count : length x.events ≡ n
  pub few : n ≤ slots
  pub entry : (e : ℕ) → e < n → (seen : List ℕ) × (written : List ℕ) × (event x e ≡ one_in t e seen written)
  pub second : (e : ℕ) → e < slots → (shape_in t (2 * e + 1)).width ≡ 0
  pub beyond : (e : ℕ) → n ≤ e → e < slots → (shape_in t (2 * e)).width ≡ 0

module _ (x : Execution) (t : List ℕ) (n : ℕ) (o : OneTabled x t n) where
  pub slotted_one : Slotted x t n
  slotted_one =
      record {
        count = o.count;
        few = o.few;
        holds = λ e h. inl (single e h);
        beyond = λ e h k. (o.beyond e h k, o.second e k);
      }
    where
      single : (e : ℕ) → e < n → Single t e (event x e).accesses
      single e h =
          let w = o.entry e h in
          let f = o.few in
          record {
            only = record { shape = shape_in t (2 * e); seen = w.0; written = w.1 };
            is = ap {B = List Access} (λ (d : Event). d.accesses) w.2;
            first = refl;
            second = o.second e (omega arith);
          }

-- The laws of specs/Answer.antt. Assumes nothing.
--     ordered_first ordered_none           under `Begins`: what `first` finds is the first of all orders that meet the problem, or none does
--     possible_meets possible_none         the same for `possible`
--     answered_unique told_unique    two conforming answers are equal, buffers too
--     clean_cleared clean-..               a clean scratch, and what a search from it leaves
--     searched_first searched_from         cleared, and then searched
--     sought_none sought_some              what does not fit, and what is searched, by an equal table of bars
--     sought_fits                          what is found fits
--     told_sought, answered_some answered_none      answers from what a walk says
--     sought_unique                        two conforming walks say the same, leave the same scratch, and find the same way
--     answered_unfit answered_fit ..       how the code's answers are made
use Prim.Native.Nat.{ℕ, ◌+◌, ◌-◌, ◌≤◌, min}
use mathlib.Core.Path.{◌≡◌, refl, sym, ap, subst, ◌∙◌}
use mathlib.Core.Bool.{Bool, true, false, false≢true}
use mathlib.Core.List.{List, ◌++◌}
use native.Mathlib.Omega.{arith}
use native.Mathlib.Decide.{dec_le}
use lib.ListN.{length, take, drop}
use lib.Seq.{take_at, drop_at}
use Rattle.basis.specs.Test.{from}
use Rattle.sets.specs.Mask.{slots}
use Rattle.marks.specs.Table.{bytes_for, cleared}
use Rattle.marks.proofs.TableLaws.{cleared_again, length_cleared, marked_cleared, place_within}
use Rattle.orders.specs.Problem.{Problem}
use Rattle.orders.specs.Order.{Meets}
use Rattle.orders.specs.First.{FirstOf}
use Rattle.orders.specs.Step.{Below, Runs, Dead}
use Rattle.orders.specs.Inits.{Begins}
use Rattle.orders.specs.Tables.{tabled}
use Rattle.orders.specs.Answer.{Fits, Possible, Ordered, Told, Answered}
use Rattle.orders.specs.Walk.{Starting, Walked, Descended, Clean, Searched, Sought}
use Rattle.orders.proofs.FirstLaws.{first_unique}
use Rattle.orders.proofs.TrailLaws.{runs_length}
use Rattle.orders.proofs.InitsLaws.{from_length, from_take, whole_first, whole_none, runs_whole}

-- ---- whether it fits

pub fits_or : (k m room : ℕ) → Dec (Fits k m room)
fits_or k m room = go (dec_le k m) (dec_le m slots) (dec_le (bytes_for (m - k)) room)
  where
    go : Dec (k ≤ m) → Dec (m ≤ slots) → Dec (bytes_for (m - k) ≤ room) → Dec (Fits k m room)
    go (yes a) (yes b) (yes c) = yes (record { inits = a; events = b; scratch = c })
    go (no f) b c = no (λ h. f h.inits)
    go (yes a) (no f) c = no (λ h. f h.events)
    go (yes a) (yes b) (no f) = no (λ h. f h.scratch)

-- ---- from one event at a time to whole orders

module _ {P : Problem} {k : ℕ} (begins : Begins P k) where
  module _ {scratch order scratch' order' : List ℕ} {r : Bool} (o : Ordered P k scratch order r scratch' order') where
    -- the order that is found has a place for each event
    pub ordered_first : r ≡ true → FirstOf (Meets P) (take P.events order') × (drop P.events order' ≡ drop P.events order)
    ordered_first z =
        let w = o.found z in
        let n : length (from 0 k ++ w.0) ≡ P.events = let a = from_length 0 k w.0 in let b = runs_length P k begins.inits w.0 w.1.is in let i = begins.inits in omega arith in (
          subst (λ (l : List ℕ). FirstOf (Meets P) l) (sym (ap (take P.events) w.2 ∙ take_at (from 0 k ++ w.0) (drop P.events order) P.events n)) (whole_first P k begins w.0 w.1),
          ap (drop P.events) w.2 ∙ drop_at (from 0 k ++ w.0) (drop P.events order) P.events n,
        )

    pub ordered_none : r ≡ false → (l : List ℕ) → Meets P l → ⊥
    ordered_none z = whole_none P k begins (o.none z)

  module _ {scratch scratch' : List ℕ} {r : Bool} (o : Possible P k scratch r scratch') where
    pub possible_none : r ≡ false → (l : List ℕ) → Meets P l → ⊥
    possible_none z = whole_none P k begins (o.none z)

    pub possible_meets : r ≡ true → (l : List ℕ) × Meets P l
    possible_meets z = let w = o.some z in (from 0 k ++ w.0, runs_whole P k begins w.0 w.1)

-- ---- two answers to one question are equal

ordered_unique : {P : Problem} {k : ℕ} {scratch order : List ℕ} (r q : Bool) {s t o p : List ℕ}
    → Ordered P k scratch order r s o → Ordered P k scratch order q t p → (r ≡ q) × (s ≡ t) × (o ≡ p)
ordered_unique {P} {k} {order = order} true true a b =
    let v = a.found refl in
    let w = b.found refl in
    (refl, a.clean ∙ sym b.clean, v.2 ∙ ap (λ (l : List ℕ). (from 0 k ++ l) ++ drop P.events order) (first_unique (Runs P (Below k)) v.0 w.0 v.1 w.1) ∙ sym w.2)
ordered_unique true false a b = absurd (let w = a.found refl in b.none refl w.0 w.1.is)
ordered_unique false true a b = absurd (let w = b.found refl in a.none refl w.0 w.1.is)
ordered_unique false false a b = (refl, a.clean ∙ sym b.clean, a.kept refl ∙ sym (b.kept refl))

possible_unique : {P : Problem} {k : ℕ} {scratch : List ℕ} (r q : Bool) {s t : List ℕ}
    → Possible P k scratch r s → Possible P k scratch q t → (r ≡ q) × (s ≡ t)
possible_unique true true a b = (refl, a.clean ∙ sym b.clean)
possible_unique true false a b = absurd (let w = a.some refl in b.none refl w.0 w.1)
possible_unique false true a b = absurd (let w = b.some refl in a.none refl w.0 w.1)
possible_unique false false a b = (refl, a.clean ∙ sym b.clean)

default_unique : {k m : ℕ} {before bars scratch order : List ℕ} {r q : Bool} {s t o p : List ℕ} → Answered k m before bars scratch order r s o
    → Answered k m before bars scratch order q t p → (Fits k m (length scratch) × (m ≤ length order) → ⊥) → (r ≡ q) × (s ≡ t) × (o ≡ p)
default_unique a b n = let x = a.unfit n in let y = b.unfit n in (x.0 ∙ sym y.0, x.1 ∙ sym y.1, x.2 ∙ sym y.2)

pub answered_unique : {k m : ℕ} {before bars scratch order : List ℕ} (r q : Bool) {s t o p : List ℕ}
    → Answered k m before bars scratch order r s o → Answered k m before bars scratch order q t p → (r ≡ q) × (s ≡ t) × (o ≡ p)
answered_unique {k} {m} {scratch = scratch} {order = order} r q {s} {t} {o} {p} a b = go (fits_or k m (length scratch)) (dec_le m (length order))
  where
    go : Dec (Fits k m (length scratch)) → Dec (m ≤ length order) → (r ≡ q) × (s ≡ t) × (o ≡ p)
    go (yes f) (yes l) = ordered_unique r q (a.fit f l) (b.fit f l)
    go (no f) d = default_unique a b (λ h. f h.0)
    go (yes f) (no g) = default_unique a b (λ h. g h.1)

pub told_unique : {k m : ℕ} {before bars scratch : List ℕ} (r q : Bool) {s t : List ℕ}
    → Told k m before bars scratch r s → Told k m before bars scratch q t → (r ≡ q) × (s ≡ t)
told_unique {k} {m} {scratch = scratch} r q {s} {t} a b = go (fits_or k m (length scratch))
  where
    go : Dec (Fits k m (length scratch)) → (r ≡ q) × (s ≡ t)
    go (yes f) = possible_unique r q (a.fit f) (b.fit f)
    go (no f) = let x = a.unfit f in let y = b.unfit f in (x.0 ∙ sym y.0, x.1 ∙ sym y.1)

-- ---- how the code's answers are made

-- a cleared scratch is what a walk starts from
pub starts : (P : Problem) (k : ℕ) (scratch path t : List ℕ) (need : ℕ) → Fits k P.events (length scratch) → slots ≤ length path
    → need ≡ bytes_for (P.events - k) → t ≡ cleared need scratch → Starting P k t path
starts P k scratch path t need f cells e c =
    let is : t ≡ cleared (bytes_for (P.events - k)) scratch = c ∙ ap (λ (n : ℕ). cleared n scratch) e in
    subst (λ (u : List ℕ). Starting P k u path) (sym is)
    (record {
      inits = f.inits;
      events = f.events;
      room = let l = length_cleared (bytes_for (P.events - k)) scratch f.scratch in let s = f.scratch in omega arith;
      cells = cells;
      blank = λ x l. marked_cleared (bytes_for (P.events - k)) scratch f.scratch x (place_within (P.events - k) x l);
    })

-- the machine's number of bytes is the definition's, where there are at most `slots` events
pub needed_slots : (n r : ℕ) → n ≤ slots → r ≡ bytes_for (min n slots) → r ≡ bytes_for n
needed_slots n r l h = let q : min n slots ≡ n = omega arith in h ∙ ap (λ (x : ℕ). bytes_for x) q

-- cleared, walked through, and cleared again
pub clean_again : (n need : ℕ) (scratch t u v : List ℕ) → bytes_for n ≤ length scratch → need ≡ bytes_for n → t ≡ cleared need scratch
    → length u ≡ length t → drop (bytes_for n) u ≡ drop (bytes_for n) t → v ≡ cleared need u → v ≡ cleared (bytes_for n) scratch
clean_again n need scratch t u v l e c s r d =
    let is : t ≡ cleared (bytes_for n) scratch = c ∙ ap (λ (x : ℕ). cleared x scratch) e in
    d ∙ ap (λ (x : ℕ). cleared x u) e
    ∙ cleared_again (bytes_for n) scratch u l (s ∙ ap length is ∙ length_cleared (bytes_for n) scratch l) (r ∙ ap (drop (bytes_for n)) is)

-- ---- a clean scratch

module _ (k m : ℕ) (scratch : List ℕ) (need : ℕ) {t : List ℕ} (f : Fits k m (length scratch)) (e : need ≡ bytes_for (m - k)) (c : t ≡ cleared need scratch) where
  unmarked : t ≡ cleared (bytes_for (m - k)) scratch
  unmarked = c ∙ ap (λ (n : ℕ). cleared n scratch) e

  same_size : length t ≡ length scratch
  same_size = ap length unmarked ∙ length_cleared (bytes_for (m - k)) scratch f.scratch

  pub clean_cleared : Clean k m t
  clean_cleared =
      record {
        inits = f.inits;
        events = f.events;
        room = let l = same_size in let s = f.scratch in omega arith;
        blank = cleared_again (bytes_for (m - k)) scratch t f.scratch same_size (ap (drop (bytes_for (m - k))) unmarked) ∙ sym unmarked;
      }

module _ (P : Problem) (k : ℕ) (t : List ℕ) (c : Clean k P.events t) where
  clean_fits : Fits k P.events (length t)
  clean_fits = record { inits = c.inits; events = c.events; scratch = c.room }

  pub clean_starts : (path : List ℕ) → slots ≤ length path → Starting P k t path
  clean_starts path cells = starts P k t path t (bytes_for (P.events - k)) clean_fits cells refl (sym c.blank)

  -- no mark was made
  pub clean_none : {path : List ℕ} → Dead P (Below k) → Searched P k t false t path
  clean_none d = record { clean = sym c.blank; found = λ z. absurd (false≢true z); none = λ z. d }

  -- walked through, and cleared again
  pub clean_walked : (need : ℕ) {u v path : List ℕ} {r : Bool} → need ≡ bytes_for (P.events - k) → Walked P k t r u path → v ≡ cleared need u → Searched P k t r v path
  clean_walked need {u} {v} e w d =
      record {
        clean = clean_again (P.events - k) need t t u v c.room e (sym c.blank ∙ ap (λ (n : ℕ). cleared n t) (sym e)) w.size w.rest d;
        found = w.found;
        none = w.none;
      }

-- cleared, and then searched
module _ (P : Problem) (k : ℕ) (scratch : List ℕ) (need : ℕ) {t : List ℕ} (f : Fits k P.events (length scratch)) (e : need ≡ bytes_for (P.events - k))
    (c : t ≡ cleared need scratch) where
  pub searched_first : {path : List ℕ} {r : Bool} → r ≡ true → Descended P k r path → Searched P k scratch true t path
  searched_first h d = record { clean = unmarked k P.events scratch need f e c; found = λ z. d.found h; none = λ z. absurd (false≢true (sym z)) }

  pub searched_from : {v path : List ℕ} {r : Bool} → Searched P k t r v path → Searched P k scratch r v path
  searched_from s =
      record {
        clean = s.clean ∙ (clean_cleared k P.events scratch need f e c).blank ∙ unmarked k P.events scratch need f e c;
        found = s.found;
        none = s.none;
      }

module _ {k m : ℕ} {before bars scratch order : List ℕ} where
  pub answered_unfit : (Fits k m (length scratch) × (m ≤ length order) → ⊥) → Answered k m before bars scratch order false scratch order
  answered_unfit n = record { fit = λ f l. absurd (n (f, l)); unfit = λ h. (refl, refl, refl) }

  pub answered_fit : {r : Bool} {s o : List ℕ} → Fits k m (length scratch) → m ≤ length order → Ordered (tabled m before bars) k scratch order r s o
      → Answered k m before bars scratch order r s o
  answered_fit f l a = record { fit = λ g h. a; unfit = λ n. absurd (n (f, l)) }

module _ {P : Problem} {k : ℕ} {scratch s path : List ℕ} {r : Bool} (a : Searched P k scratch r s path) where
  pub ordered_no : {order : List ℕ} → r ≡ false → Ordered P k scratch order false s order
  ordered_no z = record { clean = a.clean; found = λ y. absurd (false≢true y); none = λ y. a.none z; kept = λ y. refl }

  pub ordered_yes : r ≡ true → k ≤ P.events → (order : List ℕ) {o : List ℕ} → o ≡ take P.events (from 0 k ++ path) ++ drop P.events order → Ordered P k scratch order true s o
  ordered_yes z l order e =
      record {
        clean = a.clean;
        found = λ y. (take (P.events - k) path, a.found z, e ∙ ap (λ (x : List ℕ). x ++ drop P.events order) head);
        none = λ y. absurd (false≢true (sym y));
        kept = λ y. absurd (false≢true (sym y));
      }
    where
      head : take P.events (from 0 k ++ path) ≡ from 0 k ++ take (P.events - k) path
      head = let p : P.events ≡ k + (P.events - k) = omega arith in ap (λ (n : ℕ). take n (from 0 k ++ path)) p ∙ from_take 0 k (P.events - k) path

  pub possible_of : Possible P k scratch r s
  possible_of = record { clean = a.clean; some = λ z. (take (P.events - k) path, (a.found z).is); none = a.none }

-- ---- what a walk says of all inputs

module _ {k m : ℕ} {before bars scratch path : List ℕ} where
  pub sought_none : (Fits k m (length scratch) → ⊥) → Sought k m before bars scratch path false scratch path
  sought_none n = record { fit = λ f. absurd (n f); unfit = λ g. (refl, refl, refl); size = refl }

  pub sought_some : (bars' : List ℕ) {r : Bool} {s p : List ℕ} → Fits k m (length scratch) → bars' ≡ bars → Searched (tabled m before bars') k scratch r s p
      → length p ≡ length path → Sought k m before bars scratch path r s p
  sought_some bars' {r} {s} {p} f e a z =
      record { fit = λ g. subst (λ (b : List ℕ). Searched (tabled m before b) k scratch r s p) e a; unfit = λ n. absurd (n f); size = z }

  module _ {r : Bool} {s p : List ℕ} (a : Sought k m before bars scratch path r s p) where
    pub sought_fits : r ≡ true → Fits k m (length scratch)
    sought_fits z = go (fits_or k m (length scratch))
      where
        go : Dec (Fits k m (length scratch)) → Fits k m (length scratch)
        go (yes f) = f
        go (no n) = absurd (false≢true (sym (a.unfit n).0 ∙ z))

    pub told_sought : Told k m before bars scratch r s
    told_sought = record { fit = λ f. possible_of (a.fit f); unfit = λ n. ((a.unfit n).0, (a.unfit n).1) }

    pub answered_some : r ≡ true → (order : List ℕ) → m ≤ length order → {o : List ℕ} → o ≡ take m (from 0 k ++ p) ++ drop m order
        → Answered k m before bars scratch order true s o
    answered_some z order l e = let f = sought_fits z in answered_fit f l (ordered_yes (a.fit f) z f.inits order e)

    pub answered_none : r ≡ false → {order : List ℕ} → m ≤ length order → Answered k m before bars scratch order false s order
    answered_none z l = record { fit = λ f h. ordered_no (a.fit f) z; unfit = λ n. (refl, (a.unfit (λ f. n (f, l))).1, refl) }

  pub sought_unique : (r q : Bool) {s t p u : List ℕ} → Sought k m before bars scratch path r s p → Sought k m before bars scratch path q t u
      → (r ≡ q) × (s ≡ t) × (r ≡ true → take (m - k) p ≡ take (m - k) u)
  sought_unique r q a b =
      let e = told_unique r q (told_sought a) (told_sought b) in
      (e.0, e.1, λ z. let f = sought_fits a z in first_unique (Runs (tabled m before bars) (Below k)) _ _ ((a.fit f).found z) ((b.fit f).found (sym e.0 ∙ z)))

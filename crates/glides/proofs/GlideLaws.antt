-- The laws of specs/steps/Glide.antt. Assumes nothing.
--     listed_ready ready_listed   what can be placed by the table of a list, as the entries tell it
--     barred_none barred_more     the events that entries stop, entry by entry
--     Unseen, unseen_start, unseen_slot, unseen_less, unseen_next, unseen_taken     a loop over the members of a set, the lowest first
--     unseen_hit unseen_end       what it ends with
--     left_below next_left found_left        the lowest event that can be placed, among those that no entry stops
use mathlib.Core.Path.{◌≡◌, refl, sym, ap, ap₂, subst, ◌∙◌}
use mathlib.Core.Bool.{Bool, true, false, ◌&&◌, ◌||◌, not, cond, false≢true}
use mathlib.Core.Logic.{◌⊎◌, inl, inr, ⊎_elim}
use mathlib.Core.List.{List}
use Prim.Native.Nat.{ℕ, ◌+◌, ◌-◌, ◌%◌, ◌^◌, ◌≤◌, ◌<◌, min}
use native.Mathlib.Omega.{arith}
use native.Mathlib.Decide.{ℕ_discrete}
use lib.Bits.{bit_and, bit_or}
use lib.ListN.{get_or}
use Rattle.basis.proofs.BoolLaws.{by_bool, not_both_ways, false_of, and_parts}
use Rattle.std.specs.Prelude.{Option}
use Rattle.sets.specs.Members.{Taken}
use Rattle.placing.specs.Placing.{FoundBelow}
use Rattle.placing.proofs.PlacingLaws.{found_map}
use Rattle.sets.specs.Mask.{slots, mem, Has, Within, full, remove, Lowest, Rest}
use Rattle.sets.proofs.MaskLaws.{mem_empty, mem_or, mem_diff, mem_full, full_has, mem_lt, lt_of_members, remove_old, remove_lt}
use Rattle.placing.proofs.UntriedLaws.{Untried, untried_lowest, untried_hit, untried_next, untried_end}
use Rattle.orders.specs.Tables.{tabled}
use Rattle.orders.specs.Step.{Ready}
use Rattle.orders.specs.Walk.{NextReady}
use Rattle.orders.specs.Listed.{Lists, listed_bars}
use Rattle.glides.specs.steps.Glide.{Stops, Barred, NextAfter}
use Rattle.orders.proofs.ListedLaws.{listed_elim, listed_intro}

-- ---- what can be placed

module _ {between readers writers : List ℕ} {n s c : ℕ} (b : Barred between readers writers n s c) (m : ℕ) (before : List ℕ) (events : m ≤ slots) (v : ℕ) where
  pub listed_ready : v < m → mem s v ≡ false → Within (get_or before v 0) s → mem c v ≡ false → Ready (tabled m before (listed_bars between readers writers n)) (Has s) v
  listed_ready l f h g =
      record {
        event = l;
        fresh = λ z. not_both_ways z f;
        after = λ a x. h a x.1;
        clear = λ r w x z. clear r w x.1 z (listed_elim between readers writers v w r (omega (arith, x.1)) n x.2);
      }
    where
      clear : (r w : ℕ) → w < m → Has s w → (i : ℕ) × (i < n) × Lists between readers writers i r w v → Has s r
      clear r w k z x =
          by_bool (mem s r) (λ y. y)
          (λ y. absurd (not_both_ways (b.all x.0 v x.1
          (record { member = x.2.member; placed = subst (Has s) (sym x.2.writer) z; waiting = ap (mem s) x.2.reader ∙ y })) g))

  pub ready_listed : s < 2 ^ m → Ready (tabled m before (listed_bars between readers writers n)) (Has s) v
      → (mem s v ≡ false) × Within (get_or before v 0) s × (mem c v ≡ false)
  ready_listed k q = (false_of (mem s v) q.fresh, (λ a x. q.after a (q.event, x)), false_of (mem c v) (λ h. stop (b.only v h)))
    where
      stop : (i : ℕ) × (i < n) × Stops between readers writers s i v → ⊥
      stop x =
          let w = get_or writers x.0 0 % slots in
          let r = get_or readers x.0 0 % slots in
          let w-lt : w < m = mem_lt m s w k x.2.placed in
          let e = q.event in
          not_both_ways
          (q.clear r w (e, w-lt, listed_intro between readers writers v w r (omega (arith, w-lt, events)) (omega (arith, e, events)) n x.0 x.1 (record { member = x.2.member; writer = refl; reader = refl })) x.2.placed)
          x.2.waiting

-- ---- what entries stop

module _ (between readers writers : List ℕ) (s : ℕ) where
  pub barred_none : Barred between readers writers 0 s 0
  barred_none = record { only = λ v h. absurd (not_both_ways h (mem_empty v)); all = λ i v l. absurd (omega (arith, l)) }

  -- what an entry stops, as the code finds it
  abbrev on : ℕ → Bool
  on i = mem s (get_or writers i 0 % slots) && not (mem s (get_or readers i 0 % slots))

  stops : (i v : ℕ) (t : Bool) → on i ≡ t → Has (cond t (get_or between i 0) 0) v → Stops between readers writers s i v
  stops i v true e h =
      let p = and_parts _ _ e in
      record { member = h; placed = p.0; waiting = false_of _ (λ z. false≢true (sym (ap not z) ∙ p.1)) }
  stops i v false e h = absurd (not_both_ways h (mem_empty v))

  stopped : (i v : ℕ) → Stops between readers writers s i v → Has (cond (on i) (get_or between i 0) 0) v
  stopped i v h = ap (λ (t : Bool). mem (cond t (get_or between i 0) 0) v) (ap₂ (λ (x y : Bool). x && not y) h.placed h.waiting) ∙ h.member

  pub barred_more : {n c : ℕ} → Barred between readers writers n s c → Barred between readers writers (n + 1) s (bit_or c (cond (on n) (get_or between n 0) 0))
  barred_more {n} {c} b =
      record {
        only = λ v h. ⊎_elim (λ g. let x = b.only v g in (x.0, omega (arith, x.1), x.2)) (λ g. (n, omega arith, stops n v (on n) refl g)) (either v (sym (mem_or c _ v) ∙ h));
        all = λ i v l h. mem_or c _ v ∙ go i v h l (ℕ_discrete i n);
      }
    where
      either : (v : ℕ) → (mem c v || mem (cond (on n) (get_or between n 0) 0) v) ≡ true → Has c v ⊎ Has (cond (on n) (get_or between n 0) 0) v
      either v h = by_bool (mem c v) inl (λ f. inr (ap (λ (x : Bool). x || mem (cond (on n) (get_or between n 0) 0) v) (sym f) ∙ h))

      go : (i v : ℕ) → Stops between readers writers s i v → i < n + 1 → Dec (i ≡ n) → (mem c v || mem (cond (on n) (get_or between n 0) 0) v) ≡ true
      go i v h l (no f) = ap (λ (x : Bool). x || mem (cond (on n) (get_or between n 0) 0) v) (b.all i v (omega (arith, l, f)) h)
      go i v h l (yes e) =
          let x = stopped n v (subst (λ (j : ℕ). Stops between readers writers s j v) e h) in
          by_bool (mem c v) (λ z. ap (λ (y : Bool). y || mem (cond (on n) (get_or between n 0) 0) v) z) (λ z. ap (λ (y : Bool). y || mem (cond (on n) (get_or between n 0) 0) v) z ∙ x)

-- ---- the lowest of a set

-- the members of `left` of which nothing is known yet; the others are seen, or wait for something
pub record Unseen (m : ℕ) (before : List ℕ) (s left : ℕ) (seen : ℕ → Bool) (rest : ℕ) : Type 0 where
  pub untried : Untried 0 m 0 (λ (d : ℕ). Has left d × Within (get_or before d 0) s) seen rest
  pub within : Within rest left

module _ (m : ℕ) (before : List ℕ) (s left : ℕ) (wide : left < 2 ^ slots) where
  pub unseen_start : {seen : ℕ → Bool} → Within left (full m) → Unseen m before s left seen left
  unseen_start h =
      record {
        untried = record { width = wide; only = λ d g. (omega arith, full_has m d (h d g), mem_empty d); tried = λ d a b k q. inr q.0 };
        within = λ d g. g;
      }

  module _ {seen : ℕ → Bool} {rest : ℕ} (u : Unseen m before s left seen rest) where
    tried_end : rest ≡ 0 → (d : ℕ) → d < m → Has left d → Within (get_or before d 0) s → seen d ≡ true
    tried_end z d l h g = untried_end u.untried z d (omega arith) l (mem_lt slots left d wide h) (h, g)

    module _ {e : ℕ} (low : Lowest rest e) (some : rest ≡ 0 → ⊥) where
      pub unseen_slot : e < slots
      unseen_slot = (untried_lowest u.untried low some).2

      pub unseen_less : remove rest e < rest
      unseen_less = remove_lt rest e (untried_lowest u.untried low some).0

      pub unseen_event : e < m
      unseen_event = (untried_lowest u.untried low some).1

      pub unseen_member : Has left e
      unseen_member = u.within e (untried_lowest u.untried low some).0

      pub tried_hit : (d : ℕ) → d < e → Has left d → Within (get_or before d 0) s → seen d ≡ true
      tried_hit d l k g = untried_hit u.untried low some d (omega arith) l (mem_lt slots left d wide k) (k, g)

      pub unseen_next : (Within (get_or before e 0) s → seen e ≡ true) → Unseen m before s left seen (remove rest e)
      unseen_next f =
          record { untried = untried_next u.untried low some (λ q. f q.1); within = λ d h. u.within d (remove_old rest e d h) }

    -- a turn of a `for` over them
    pub unseen_taken : {e t : ℕ} → Taken rest e t → (Within (get_or before e 0) s → seen e ≡ true) → Unseen m before s left seen t
    unseen_taken k f = subst (Unseen m before s left seen) (sym k.rest) (unseen_next k.low k.some f)

    pub unseen_end : rest ≡ 0 → NextAfter m before seen s left m
    unseen_end z =
        record {
          bound = omega arith;
          member = λ h. absurd (omega (arith, h));
          after = λ h. absurd (omega (arith, h));
          unseen = λ h. absurd (omega (arith, h));
          tried = tried_end z;
        }

    pub unseen_hit : {e t : ℕ} → Taken rest e t → Within (get_or before e 0) s → seen e ≡ false → (e < m) × NextAfter m before seen s left e
    unseen_hit k h f =
        let w = unseen_event k.low k.some in
        (w, record { bound = omega (arith, w); member = λ l. unseen_member k.low k.some; after = λ l. h; unseen = λ l. f; tried = tried_hit k.low k.some })

-- ---- the lowest event that can be placed

module _ (m k s free c : ℕ) (fits : c < 2 ^ slots) (rest : Rest s k (min m slots) free) where
  abbrev left : ℕ
  left = bit_and free ((2 ^ slots - 1) - c)

  mem_left : (d : ℕ) → mem left d ≡ (mem free d && not (mem c d))
  mem_left d = mem_diff slots free c d (lt_of_members slots free (λ i h. let l = (rest.only i h).1 in omega (arith, l))) fits

  parts : (d : ℕ) → Has left d → Has free d × (mem c d ≡ false)
  parts d h = let p = and_parts _ _ (sym (mem_left d) ∙ h) in (p.0, false_of _ (λ z. false≢true (sym (ap not z) ∙ p.1)))

  pub left_below : Within left (full m)
  left_below d h = let l = (rest.only d (parts d h).0).1 in mem_full m d (omega (arith, l))

  module _ (before between readers writers : List ℕ) (n : ℕ) (b : Barred between readers writers n s c) (events : m ≤ slots) (set : s < 2 ^ m) where
    -- an event that can be placed is one of those that no entry stops
    stays : (d : ℕ) → k ≤ d → Ready (tabled m before (listed_bars between readers writers n)) (Has s) d → Has left d × Within (get_or before d 0) s
    stays d l q =
        let x = ready_listed b m before events d set q in
        let e = q.event in
        (mem_left d ∙ ap₂ (λ (y z : Bool). y && not z) (rest.all d l (omega (arith, e, events)) x.0) x.2, x.1)

    pub next_left : {seen : ℕ → Bool} {r : ℕ} → NextAfter m before seen s left r → NextReady (tabled m before (listed_bars between readers writers n)) seen s k r
    next_left {r = r} a =
        record {
          bound = a.bound;
          place = λ h. (rest.only r (parts r (a.member h)).0).0;
          ready = λ h. let p = parts r (a.member h) in listed_ready b m before events r h (rest.only r p.0).2 (a.after h) p.1;
          unseen = a.unseen;
          tried = λ d l h q. let x = stays d l q in a.tried d h x.0 x.1;
        }

    pub found_left : (seen : ℕ → Bool) (r : Option ℕ) → FoundBelow m (NextAfter m before seen s left) r
        → FoundBelow m (NextReady (tabled m before (listed_bars between readers writers n)) seen s k) r
    found_left seen r =
        found_map m {P = NextAfter m before seen s left} {Q = NextReady (tabled m before (listed_bars between readers writers n)) seen s k} (λ e a. next_left a) r

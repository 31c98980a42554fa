-- The laws of specs/steps/Widths.antt: the width of an event that is no init as a member of a set, its alignment by the bits of its start. Assumes nothing.
--     by_width        the bits of the start below a width tell whether it divides the start
--     table_at        what stands in a table, from one test of all of its entries
--     listed_same     kind, mode, width and alignment by the set: they fit
--     whole_same      01's rule for tear-free, of an event that fits: aligned, none of width 8 but sc, no marker
use mathlib.Core.Path.{◌≡◌, refl, sym, ap, ◌∙◌}
use mathlib.Core.Bool.{Bool, true, false, cond}
use mathlib.Core.List.{List, [], ◌∷◌}
use mathlib.Core.Logic.{◌⊎◌, inl, inr, ⊎_elim}
use Prim.Native.Nat.{ℕ, zero, suc, ◌+◌, ◌-◌, ◌*◌, ◌/◌, ◌%◌, ◌^◌, ◌<◌, ◌≤◌}
use native.Mathlib.Nat.{mod-eq_of_lt, eq-or-lt_of_le}
use native.Mathlib.Omega.{arith}
use borrow.Author.Tests.{eqb-true, eq-eqb, ltb-true, ltb-false, ne_eqb}
use lib.Bits.{bit_and, and_le_l, and_mod, and_mask}
use lib.Dec.{eqb, ltb}
use lib.ListN.{get_or}
use Rattle.basis.specs.Test.{◌and◌, ◌or◌, non}
use Rattle.basis.proofs.BoolLaws.{T_true, and_both, and_holds, and_fails, and_true, and_false, or_either, or_holds, or_fails, both_hold, non_holds, non_fails}
use Rattle.sets.specs.Mask.{mem}
use Rattle.format.specs.declared.Shape.{Shape}
use Rattle.format.specs.Shape.{marks, sc, divides, unbroken}
use Rattle.content.specs.Content.{sized, kind_fits}
use Rattle.content.specs.steps.Widths.{widths_of}
use Rattle.content.proofs.ContentLaws.{SizedFacts, KindFacts, a_read, a_write, both, a_marker, kind_facts}

-- ---- the alignment

module _ (s w : ℕ) (h : s < 256) where
  -- the bits of the start below a width, which is a power of two
  low_bits : (k : ℕ) → (w + 255) % 256 ≡ 2 ^ k - 1 → bit_and s (w + 255) ≡ s % 2 ^ k
  low_bits k e =
      let l = and_le_l s (w + 255) in
      let small : bit_and s (w + 255) < 256 = omega arith in
      sym (mod-eq_of_lt small) ∙ and_mod s (w + 255) 8
      ∙ ap (λ (n : ℕ). bit_and n ((w + 255) % 256)) (mod-eq_of_lt h) ∙ ap (bit_and s) e ∙ and_mask s k

  at_width : (k : ℕ) → w ≡ 2 ^ k → (w + 255) % 256 ≡ 2 ^ k - 1 → eqb (bit_and s (w + 255)) 0 ≡ divides w s
  unfolding divides
  at_width k e m = ap (λ (n : ℕ). eqb n 0) (low_bits k m ∙ ap (λ (n : ℕ). s % n) (sym e))

  reduced : (n : ℕ) → w ≡ n → (w + 255) % 256 ≡ (n + 255) % 256
  reduced n e = ap (λ (v : ℕ). (v + 255) % 256) e

  pub by_width : (f : Bool) → ((eqb w 1 or (eqb w 2 or (eqb w 4 or eqb w 8))) and (f or eqb (bit_and s (w + 255)) 0)) ≡ ((eqb w 1 or eqb w 2 or eqb w 4 or eqb w 8) and (f or divides w s))
  unfolding ◌and◌ ◌or◌
  by_width f = go (eqb w 1) refl (eqb w 2) refl (eqb w 4) refl (eqb w 8) refl
    where
      same : (k : ℕ) → w ≡ 2 ^ k → (w + 255) % 256 ≡ 2 ^ k - 1 → (f or eqb (bit_and s (w + 255)) 0) ≡ (f or divides w s)
      same k e m = ap (λ (b : Bool). f or b) (at_width k e m)

      go : (a : Bool) → eqb w 1 ≡ a → (b : Bool) → eqb w 2 ≡ b → (c : Bool) → eqb w 4 ≡ c → (d : Bool) → eqb w 8 ≡ d
          → ((a or (b or (c or d))) and (f or eqb (bit_and s (w + 255)) 0)) ≡ ((a or b or c or d) and (f or divides w s))
      go true p b q c r d t = let e = eqb-true w 1 p in same 0 e (reduced 1 e)
      go false p true q c r d t = let e = eqb-true w 2 q in same 1 e (reduced 2 e)
      go false p false q true r d t = let e = eqb-true w 4 r in same 2 e (reduced 4 e)
      go false p false q false r true t = let e = eqb-true w 8 t in same 3 e (reduced 8 e)
      go false p false q false r false t = refl

  -- a width of 0: only the start 0 has none of eight bits
  at_none : w ≡ 0 → eqb (bit_and s (w + 255)) 0 ≡ eqb s 0
  at_none e = ap (λ (n : ℕ). eqb n 0) (low_bits 8 (reduced 0 e) ∙ mod-eq_of_lt h)

-- ---- a test of every number below a bound

unfoldable below : (ℕ → Bool) → ℕ → Bool
below f zero = true
below f (suc n) = let r = below f n in f n and r

below_at : (f : ℕ → Bool) (n : ℕ) → below f n ≡ true → (k : ℕ) → k < n → f k ≡ true
unfolding below
below_at f zero t k h = absurd (omega arith)
below_at f (suc n) t k h = go (eq-or-lt_of_le (omega arith)) (below_at f n (and_both (f n) (below f n) t).1)
  where
    go : (k ≡ n) ⊎ (k < n) → ((j : ℕ) → j < n → f j ≡ true) → f k ≡ true
    go (inl e) ih = ap f e ∙ (and_both (f n) (below f n) t).0
    go (inr l) ih = ih k l

agrees : Bool → Bool → Bool
agrees a b = cond a b (non b)

agree : (a b : Bool) → agrees a b ≡ true → a ≡ b
unfolding non agrees
agree true true e = refl
agree true false e = sym e
agree false true e = e
agree false false e = refl

-- ---- the table

abbrev pub table : List ℕ
table = 0 ∷ 0 ∷ 0 ∷ 0 ∷ 0 ∷ 278 ∷ 278 ∷ 0 ∷ 0 ∷ 278 ∷ 278 ∷ 0 ∷ 0 ∷ 0 ∷ 278 ∷ 0 ∷ 0 ∷ 0 ∷ 1 ∷ 0 ∷ 0 ∷ 0 ∷ 0 ∷ 0 ∷ 0 ∷ 0 ∷ 0 ∷ 0 ∷ 0 ∷ 0 ∷ 0 ∷ 0 ∷ []

table_entry : (i : ℕ) → i < 32 → get_or table i 0 ≡ widths_of (i / 4) (i % 4)
unfolding below widths_of ◌and◌ ◌or◌
table_entry i h = eqb-true _ _ (below_at (λ (j : ℕ). eqb (get_or table j 0) (widths_of (j / 4) (j % 4))) 32 refl i h)

pub table_at : (k m : ℕ) → k < 8 → m < 4 → get_or table (k * 4 + m) 0 ≡ widths_of k m
table_at k m h l =
    let d : (k * 4 + m) / 4 ≡ k = omega arith in
    let r : (k * 4 + m) % 4 ≡ m = omega arith in
    table_entry (k * 4 + m) (omega arith) ∙ ap (λ (i : ℕ). widths_of i ((k * 4 + m) % 4)) d ∙ ap (widths_of k) r

-- ---- the sets

abbrev wide : ℕ → ℕ → Bool
wide x w = ltb w 32 and mem x (w % 32)

abbrev powers : ℕ → Bool
powers w = eqb w 1 or eqb w 2 or eqb w 4 or eqb w 8

-- a set whose members below 32 are those that pass, where nothing above does
wide_by : (x : ℕ) (f : ℕ → Bool) → ((w : ℕ) → w < 32 → agrees (mem x w) (f w) ≡ true) → ((w : ℕ) → 32 ≤ w → f w ≡ false) → (w : ℕ) → wide x w ≡ f w
unfolding ◌and◌
wide_by x f low high w = go (ltb w 32) refl
  where
    go : (b : Bool) → ltb w 32 ≡ b → (b and mem x (w % 32)) ≡ f w
    go true p = let l = ltb-true w 32 p in ap (mem x) (mod-eq_of_lt l) ∙ agree _ _ (low w l)
    go false p = sym (high w (ltb-false w 32 p))

wide_powers : (w : ℕ) → wide 278 w ≡ powers w
unfolding below mem agrees non ◌and◌ ◌or◌
wide_powers =
    wide_by 278 powers (below_at (λ (j : ℕ). agrees (mem 278 j) (powers j)) 32 refl)
    (λ w h. rw (ne_eqb w 1 (λ (e : w ≡ 1). omega arith), ne_eqb w 2 (λ (e : w ≡ 2). omega arith), ne_eqb w 4 (λ (e : w ≡ 4). omega arith), ne_eqb w 8 (λ (e : w ≡ 8). omega arith)) refl)

wide_zero : (w : ℕ) → wide 1 w ≡ eqb w 0
unfolding below mem agrees non ◌and◌
wide_zero =
    wide_by 1 (λ (w : ℕ). eqb w 0) (below_at (λ (j : ℕ). agrees (mem 1 j) (eqb j 0)) 32 refl) (λ w h. ne_eqb w 0 (λ (e : w ≡ 0). omega arith))

wide_none : (w : ℕ) → wide 0 w ≡ false
unfolding below mem agrees non ◌and◌
wide_none = wide_by 0 (λ (w : ℕ). false) (below_at (λ (j : ℕ). agrees (mem 0 j) false) 32 refl) (λ w h. refl)

-- ---- kind and mode: none but those of the table has a width

none_kind : (k m : ℕ) → 8 ≤ k → widths_of k m ≡ 0
unfolding widths_of ◌or◌
none_kind k m h =
    rw (ne_eqb k 1 (λ (e : k ≡ 1). omega arith), ne_eqb k 2 (λ (e : k ≡ 2). omega arith), ne_eqb k 3 (λ (e : k ≡ 3). omega arith), ne_eqb k 4 (λ (e : k ≡ 4). omega arith))
    (go (eqb m 1) (eqb m 2))
  where
    go : (p q : Bool) → ◌≡◌ {A = ℕ} (cond p 0 (cond q 0 0)) 0
    go true q = refl
    go false true = refl
    go false false = refl

none_mode : (k m : ℕ) → 4 ≤ m → widths_of k m ≡ 0
unfolding widths_of
none_mode k m h = rw (ne_eqb m 1 (λ (e : m ≡ 1). omega arith), ne_eqb m 2 (λ (e : m ≡ 2). omega arith)) refl

small_same : (k m w : ℕ) → ((ltb k 8 and (ltb m 4 and ltb w 32)) and mem (widths_of (k % 8) (m % 4)) (w % 32)) ≡ wide (widths_of k m) w
unfolding ◌and◌
small_same k m w = go (ltb k 8) refl (ltb m 4) refl
  where
    go : (b : Bool) → ltb k 8 ≡ b → (c : Bool) → ltb m 4 ≡ c → ((b and (c and ltb w 32)) and mem (widths_of (k % 8) (m % 4)) (w % 32)) ≡ wide (widths_of k m) w
    go false p c q = sym (ap (λ (x : ℕ). wide x w) (none_kind k m (ltb-false k 8 p)) ∙ wide_none w)
    go true p false q = sym (ap (λ (x : ℕ). wide x w) (none_mode k m (ltb-false m 4 q)) ∙ wide_none w)
    go true p true q =
        ap (λ (i : ℕ). ltb w 32 and mem (widths_of i (m % 4)) (w % 32)) (mod-eq_of_lt (ltb-true k 8 p)) ∙ ap (λ (i : ℕ). ltb w 32 and mem (widths_of k i) (w % 32)) (mod-eq_of_lt (ltb-true m 4 q))

-- ---- all of it

module _ (a : Shape) (h : a.start < 256) where
  abbrev even : Bool
  even = eqb (bit_and a.start (a.width + 255)) 0

  marker : (wide 1 a.width and even) ≡ (eqb a.start 0 and eqb a.width 0)
  unfolding ◌and◌
  marker = ap (λ (b : Bool). b and even) (wide_zero a.width) ∙ go (eqb a.width 0) refl
    where
      go : (b : Bool) → eqb a.width 0 ≡ b → (b and even) ≡ (eqb a.start 0 and b)
      go true p = at_none a.start a.width h (eqb-true _ _ p) ∙ sym (and_true (eqb a.start 0))
      go false p = sym (and_false (eqb a.start 0))

  -- sized, with f for a mode that asks no alignment
  abbrev fits : Bool → Bool
  fits f = powers a.width and (f or divides a.width a.start)

  access : (f : Bool) → (wide 278 a.width and (f or even)) ≡ fits f
  access f = ap (λ (b : Bool). b and (f or even)) (wide_powers a.width) ∙ by_width a.start a.width h f

  none_at_all : (b : Bool) → (wide 0 a.width and b) ≡ false
  unfolding ◌and◌
  none_at_all b = ap (λ (d : Bool). d and b) (wide_none a.width)

  by_table : (wide (widths_of a.kind a.mode) a.width and (non (eqb a.mode 2) or even)) ≡ ((eqb a.mode 1 or eqb a.mode 2) and kind_fits a)
  unfolding widths_of kind_fits sized sc ◌and◌ ◌or◌ non
  by_table = go (eqb a.mode 1) refl (eqb a.mode 2) refl (eqb a.kind 1) (eqb a.kind 2) (eqb a.kind 3) (eqb a.kind 4)
    where
      go : (p : Bool) → eqb a.mode 1 ≡ p → (q : Bool) → eqb a.mode 2 ≡ q → (k l i j : Bool)
          → (wide (cond p (cond (k or l) 278 0) (cond q (cond (k or l or i) 278 (cond j 1 0)) 0)) a.width and (non q or even))
          ≡ ((p or q) and cond k (fits (non q)) (cond l (fits (non q)) (cond i (q and fits (non q)) (cond j (q and (eqb a.start 0 and eqb a.width 0)) false))))
      go true p true q k l i j = absurd (let e : a.mode ≡ 1 = eqb-true _ _ p in let f : a.mode ≡ 2 = eqb-true _ _ q in omega (arith, e, f))
      go true p false q true l i j = access true
      go true p false q false true i j = access true
      go true p false q false false true j = none_at_all true
      go true p false q false false false true = none_at_all true
      go true p false q false false false false = none_at_all true
      go false p true q true l i j = access false
      go false p true q false true i j = access false
      go false p true q false false true j = access false
      go false p true q false false false true = marker
      go false p true q false false false false = none_at_all even
      go false p false q k l i j = none_at_all true

  pub listed_same : (((ltb a.kind 8 and (ltb a.mode 4 and ltb a.width 32)) and mem (widths_of (a.kind % 8) (a.mode % 4)) (a.width % 32)) and (non (sc a) or even))
      ≡ ((eqb a.mode 1 or eqb a.mode 2) and kind_fits a)
  unfolding sc
  listed_same = ap (λ (b : Bool). b and (non (eqb a.mode 2) or even)) (small_same a.kind a.mode a.width) ∙ by_table

-- ---- tear-free, where the rest fits

module _ (k m st w : ℕ) (h : st < 256) where
  abbrev rule : Bool
  rule = non (eqb k 4) and (eqb m 2 or (eqb m 1 and unbroken w st))

  abbrev code : Bool
  code = eqb (bit_and st (w + 255)) 0 and (eqb (bit_and w (m * 8)) 0 and non (eqb k 4))

  module _ (k4 : eqb k 4 ≡ false) where
    sc_at : m ≡ 2 → (j : ℕ) → w ≡ 2 ^ j → (w + 255) % 256 ≡ 2 ^ j - 1 → eqb (bit_and w (m * 8)) 0 ≡ true → divides w st ≡ true → code ≡ rule
    sc_at em j e r c d =
        both_hold _ _ (at_width st w h j e r ∙ d) (both_hold _ _ c (non_holds _ k4)) ∙ sym (both_hold _ _ (non_holds _ k4) (or_holds _ _ (eq-eqb m 2 em)))

    free_at : m ≡ 1 → (j : ℕ) → w ≡ 2 ^ j → (w + 255) % 256 ≡ 2 ^ j - 1 → eqb (bit_and w (m * 8)) 0 ≡ true → (eqb w 1 or eqb w 2 or eqb w 4) ≡ true → code ≡ rule
    unfolding unbroken
    free_at em j e r c u =
        ap (λ (b : Bool). b and (eqb (bit_and w (m * 8)) 0 and non (eqb k 4))) (at_width st w h j e r) ∙ ap (λ (b : Bool). divides w st and b) (both_hold _ _ c (non_holds _ k4)) ∙ and_true (divides w st)
        ∙ sym (and_holds _ _ (non_holds _ k4) ∙ or_fails _ _ (ne_eqb m 2 (λ (o : m ≡ 2). omega arith)) ∙ and_holds _ _ (eq-eqb m 1 em) ∙ and_holds _ _ u)

    eight_at_lem : m ≡ 1 → w ≡ 8 → code ≡ rule
    unfolding unbroken ◌or◌ ◌and◌
    eight_at_lem em e =
        let c : eqb (bit_and w (m * 8)) 0 ≡ false = rw (em, e) refl in
        let u : unbroken w st ≡ false = rw e refl in
        ap (λ (b : Bool). eqb (bit_and st (w + 255)) 0 and b) (and_fails (eqb (bit_and w (m * 8)) 0) (non (eqb k 4)) c) ∙ and_false (eqb (bit_and st (w + 255)) 0)
        ∙ sym (and_holds _ _ (non_holds _ k4) ∙ or_fails _ _ (ne_eqb m 2 (λ (o : m ≡ 2). omega arith)) ∙ and_holds _ _ (eq-eqb m 1 em) ∙ u)

  marker_at : eqb k 4 ≡ true → code ≡ rule
  marker_at k4 =
      ap (λ (b : Bool). eqb (bit_and st (w + 255)) 0 and b) (ap (λ (b : Bool). eqb (bit_and w (m * 8)) 0 and b) (non_fails _ k4) ∙ and_false _) ∙ and_false _ ∙ sym (and_fails _ _ (non_fails _ k4))

module _ (a : Shape) (h : a.start < 256) where
  access_whole : eqb a.kind 4 ≡ false → SizedFacts a → (a.mode ≡ 1) ⊎ (a.mode ≡ 2) → code a.kind a.mode a.start a.width h ≡ rule a.kind a.mode a.start a.width h
  unfolding ◌or◌
  access_whole k4 f (inr em) = go f.width
    where
      at : (j : ℕ) → a.width ≡ 2 ^ j → (a.width + 255) % 256 ≡ 2 ^ j - 1 → eqb (bit_and a.width (a.mode * 8)) 0 ≡ true
          → code a.kind a.mode a.start a.width h ≡ rule a.kind a.mode a.start a.width h
      at j e r c = sc_at a.kind a.mode a.start a.width h k4 em j e r c (T_true _ (f.aligned em))

      go : (a.width ≡ 1) ⊎ (a.width ≡ 2) ⊎ (a.width ≡ 4) ⊎ (a.width ≡ 8) → code a.kind a.mode a.start a.width h ≡ rule a.kind a.mode a.start a.width h
      go (inl e) = at 0 e (reduced a.start a.width h 1 e) (rw (em, e) refl)
      go (inr (inl e)) = at 1 e (reduced a.start a.width h 2 e) (rw (em, e) refl)
      go (inr (inr (inl e))) = at 2 e (reduced a.start a.width h 4 e) (rw (em, e) refl)
      go (inr (inr (inr e))) = at 3 e (reduced a.start a.width h 8 e) (rw (em, e) refl)
  access_whole k4 f (inl em) = go f.width
    where
      at : (j : ℕ) → a.width ≡ 2 ^ j → (a.width + 255) % 256 ≡ 2 ^ j - 1 → eqb (bit_and a.width (a.mode * 8)) 0 ≡ true → (eqb a.width 1 or eqb a.width 2 or eqb a.width 4) ≡ true
          → code a.kind a.mode a.start a.width h ≡ rule a.kind a.mode a.start a.width h
      at j e r c u = free_at a.kind a.mode a.start a.width h k4 em j e r c u

      go : (a.width ≡ 1) ⊎ (a.width ≡ 2) ⊎ (a.width ≡ 4) ⊎ (a.width ≡ 8) → code a.kind a.mode a.start a.width h ≡ rule a.kind a.mode a.start a.width h
      go (inl e) = at 0 e (reduced a.start a.width h 1 e) (rw (em, e) refl) (rw e refl)
      go (inr (inl e)) = at 1 e (reduced a.start a.width h 2 e) (rw (em, e) refl) (rw e refl)
      go (inr (inr (inl e))) = at 2 e (reduced a.start a.width h 4 e) (rw (em, e) refl) (rw e refl)
      go (inr (inr (inr e))) = eight_at_lem a.kind a.mode a.start a.width h k4 em e

  pub whole_same : ((eqb a.mode 1 or eqb a.mode 2) and kind_fits a) ≡ true
      → (eqb (bit_and a.start (a.width + 255)) 0 and (eqb (bit_and a.width (a.mode * 8)) 0 and non (marks a))) ≡ (non (eqb a.kind 4) and (eqb a.mode 2 or (eqb a.mode 1 and unbroken a.width a.start)))
  unfolding marks
  whole_same f = go (kind_facts a v.1)
    where
      v : ((eqb a.mode 1 or eqb a.mode 2) ≡ true) × (kind_fits a ≡ true)
      v = and_both (eqb a.mode 1 or eqb a.mode 2) (kind_fits a) f

      m : (a.mode ≡ 1) ⊎ (a.mode ≡ 2)
      m = ⊎_elim (λ p. inl (eqb-true _ _ p)) (λ p. inr (eqb-true _ _ p)) (or_either (eqb a.mode 1) (eqb a.mode 2) v.0)

      go : KindFacts a → code a.kind a.mode a.start a.width h ≡ rule a.kind a.mode a.start a.width h
      go (a_read e z) = access_whole (ne_eqb _ _ (λ (o : a.kind ≡ 4). omega (arith, e, o))) z m
      go (a_write e z) = access_whole (ne_eqb _ _ (λ (o : a.kind ≡ 4). omega (arith, e, o))) z m
      go (both e n z) = access_whole (ne_eqb _ _ (λ (o : a.kind ≡ 4). omega (arith, e, o))) z m
      go (a_marker e z) = marker_at a.kind a.mode a.start a.width h (eq-eqb _ _ e)

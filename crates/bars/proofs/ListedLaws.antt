-- The laws of specs/Listed.antt. Assumes nothing.
--     lists_mem                    a set that has what is not gone has what the row lists
--     late_mem                     a set without what is gone, as the machine takes it out
--     Had                          an entry has the last row's events and set, if that is any
--     listed_none                  before the first row
--     listed_full                  a row more where there is no room
--     listed_new, listed_old       a row more with an entry for it; one that needs none
--     had_new, had_old             and the last row then
--     same_both                    as the code compares two rows
--     listed_next                  a row more, as the code enters it
use mathlib.Core.Path.{◌≡◌, refl, sym, ap, ◌∙◌, subst}
use mathlib.Core.Bool.{Bool, true, false, cond, not, ◌&&◌, false≢true}
use mathlib.Core.Logic.{◌⊎◌, inl, inr, ⊎_elim}
use mathlib.Core.List.{List}
use Prim.Native.Nat.{ℕ, ◌+◌, ◌-◌, ◌^◌, ◌<◌, ◌≤◌}
use native.Mathlib.Omega.{arith}
use native.Mathlib.Decide.{ℕ_discrete, dec_lt}
use borrow.Author.Tests.{eqb-true}
use lib.Bits.{bit_and}
use lib.Dec.{eqb, leb}
use lib.ListN.{length, get_or, set}
use lib.Seq.{get_or-set_same, get_or-set_other}
use Rattle.basis.specs.Test.{◌and◌, non}
use Rattle.basis.proofs.BoolLaws.{amp_and, not_non, and_both}
use Rattle.format.specs.declared.Row.{Row}
use Rattle.sets.specs.Mask.{slots, mem, Has}
use Rattle.sets.proofs.MaskLaws.{mem_empty, mem_diff}
use Rattle.tables.specs.Tables.{row_in}
use Rattle.bars.specs.Bars.{mask_in}
use Rattle.bars.specs.Listed.{list_room, gone_in, lists_in, Entry, Listed}
use Rattle.bars.specs.steps.Entering.{Entering}
use Rattle.bars.proofs.BarsLaws.{mem_only}

-- a set without what is gone, as the machine takes it out
pub late_mem : (k : ℕ) (pred : List ℕ) (w m gone v : ℕ) → m < 2 ^ slots → gone < 2 ^ slots → gone ≡ cond (leb k w) (get_or pred w 0) 0
    → mem (bit_and m ((2 ^ slots - 1) - gone)) v ≡ (mem m v and non (gone_in k pred w v))
unfolding gone_in
late_mem k pred w m gone v hm hg e =
    mem_diff slots m gone v hm hg ∙ amp_and (mem m v) (not (mem gone v)) ∙ ap (λ (b : Bool). mem m v and b) (not_non (mem gone v) ∙ ap (λ (x : ℕ). non (mem x v)) e ∙ ap non (mem_only (leb k w) (get_or pred w 0) v))

-- an entry has the last row's reader, writer and set, where the set is not empty
pub record Had (last reader writer n : ℕ) (between readers writers : List ℕ) : Type 0 where
  pub one : (last ≡ 0) ⊎ ((i : ℕ) × (i < n) × (get_or between i 0 ≡ last) × (get_or readers i 0 ≡ reader) × (get_or writers i 0 ≡ writer))

module _ (t eq succ pred q : List ℕ) (k : ℕ) where
  pub lists_mem : (r : Row) (m w c : ℕ) → m ≡ mask_in t eq succ pred r → w ≡ r.writer → ((v : ℕ) → mem c v ≡ (mem m v and non (gone_in k pred w v)))
      → (v : ℕ) → mem c v ≡ lists_in t eq succ pred k r v
  unfolding lists_in
  lists_mem r m w c e h g v = g v ∙ ap (λ (x : ℕ). mem x v and non (gone_in k pred w v)) e ∙ ap (λ (x : ℕ). mem (mask_in t eq succ pred r) v and non (gone_in k pred x v)) h

  pub listed_none : (between readers writers : List ℕ) → Listed t eq succ pred q k 0 0 between readers writers
  listed_none between readers writers = record { few = omega arith; from_row = λ i h v p. absurd (omega arith); each_row = λ l j h v p. absurd (omega arith) }

  module _ {m n : ℕ} {between readers writers : List ℕ} (l : Listed t eq succ pred q k m n between readers writers) where
    pub listed_full : (n < list_room → ⊥) → Listed t eq succ pred q k (m + 1) n between readers writers
    listed_full f =
        record {
          few = l.few;
          from_row = λ i h v p. let g = l.from_row i h v p in (g.0, omega (arith, g.1), g.2, g.3);
          each_row = λ h j a v p. absurd (f h);
        }

    module _ (c : ℕ) (is : (v : ℕ) → mem c v ≡ lists_in t eq succ pred k (row_in q m) v) (r w : ℕ) (hr : r ≡ (row_in q m).reader) (hw : w ≡ (row_in q m).writer)
        (nb : n < length between) (nr : n < length readers) (nw : n < length writers) where
      -- what stood below n stands there still
      kept : (i : ℕ) → i < n → (x y v : ℕ) → Entry between readers writers i x y v → Entry (set between n c) (set readers n r) (set writers n w) i x y v
      kept i h x y v e =
          record {
            reader = get_or-set_other readers n i r 0 (omega arith) ∙ e.reader;
            writer = get_or-set_other writers n i w 0 (omega arith) ∙ e.writer;
            has = ap (λ (z : ℕ). mem z v) (get_or-set_other between n i c 0 (omega arith)) ∙ e.has;
          }

      old_row : (i : ℕ) → i < n → (v : ℕ) → Has (get_or (set between n c) i 0) v
          → (j : ℕ) × (j < m + 1) × Entry (set between n c) (set readers n r) (set writers n w) i (row_in q j).reader (row_in q j).writer v × (lists_in t eq succ pred k (row_in q j) v ≡ true)
      old_row i h v p =
          let g = l.from_row i h v (sym (ap (λ (z : ℕ). mem z v) (get_or-set_other between n i c 0 (omega arith))) ∙ p) in
          (g.0, omega (arith, g.1), kept i h _ _ v g.2, g.3)

      here : (v : ℕ) → Has c v → Entry (set between n c) (set readers n r) (set writers n w) n (row_in q m).reader (row_in q m).writer v
      here v p =
          record {
            reader = get_or-set_same readers n r 0 nr ∙ hr;
            writer = get_or-set_same writers n w 0 nw ∙ hw;
            has = ap (λ (z : ℕ). mem z v) (get_or-set_same between n c 0 nb) ∙ p;
          }

      pub listed_new : n < list_room → Listed t eq succ pred q k (m + 1) (n + 1) (set between n c) (set readers n r) (set writers n w)
      listed_new room = record { few = omega arith; from_row = λ i h v p. back i h v p (ℕ_discrete i n); each_row = λ h j a v p. forth j a v p (ℕ_discrete j m) }
        where
          back : (i : ℕ) → i < n + 1 → (v : ℕ) → Has (get_or (set between n c) i 0) v → Dec (i ≡ n)
              → (j : ℕ) × (j < m + 1) × Entry (set between n c) (set readers n r) (set writers n w) i (row_in q j).reader (row_in q j).writer v × (lists_in t eq succ pred k (row_in q j) v ≡ true)
          back i h v p (no d) = old_row i (omega (arith, d)) v p
          back i h v p (yes d) =
              let g : Has c v = sym (ap (λ (z : ℕ). mem z v) (ap (λ (z : ℕ). get_or (set between n c) z 0) d ∙ get_or-set_same between n c 0 nb)) ∙ p in
              (m, omega arith, subst (λ (z : ℕ). Entry (set between n c) (set readers n r) (set writers n w) z (row_in q m).reader (row_in q m).writer v) (sym d) (here v g), sym (is v) ∙ g)

          forth : (j : ℕ) → j < m + 1 → (v : ℕ) → lists_in t eq succ pred k (row_in q j) v ≡ true → Dec (j ≡ m)
              → (i : ℕ) × (i < n + 1) × Entry (set between n c) (set readers n r) (set writers n w) i (row_in q j).reader (row_in q j).writer v
          forth j h v p (no d) = let g = l.each_row room j (omega (arith, d)) v p in (g.0, omega (arith, g.1), kept g.0 g.1 _ _ v g.2)
          forth j h v p (yes d) =
              let f : lists_in t eq succ pred k (row_in q m) v ≡ true = subst (λ (z : ℕ). lists_in t eq succ pred k (row_in q z) v ≡ true) d p in
              (n, omega arith, subst (λ (z : ℕ). Entry (set between n c) (set readers n r) (set writers n w) n (row_in q z).reader (row_in q z).writer v) (sym d) (here v (is v ∙ f)))

      pub had_new : Had c r w (n + 1) (set between n c) (set readers n r) (set writers n w)
      had_new = record { one = inr (n, omega arith, get_or-set_same between n c 0 nb, get_or-set_same readers n r 0 nr, get_or-set_same writers n w 0 nw) }

      module _ (h : Had c r w n between readers writers) where
        pub had_old : Had c r w n (set between n c) (set readers n r) (set writers n w)
        had_old =
            record {
              one = ⊎_elim (λ z. inl z)
                  (λ g. inr (g.0, g.1, get_or-set_other between n g.0 c 0 (omega (arith, g.1)) ∙ g.2, get_or-set_other readers n g.0 r 0 (omega (arith, g.1)) ∙ g.3, get_or-set_other writers n g.0 w 0 (omega (arith, g.1)) ∙ g.4))
                  h.one;
            }

        pub listed_old : n < list_room → Listed t eq succ pred q k (m + 1) n (set between n c) (set readers n r) (set writers n w)
        listed_old room = record { few = l.few; from_row = old_row; each_row = λ a j b v p. forth j b v p (ℕ_discrete j m) }
          where
            last : (v : ℕ) → Has c v → (i : ℕ) × (i < n) × Entry (set between n c) (set readers n r) (set writers n w) i (row_in q m).reader (row_in q m).writer v
            last v p =
                ⊎_elim (λ z. absurd (false≢true (sym (mem_empty v) ∙ ap (λ (y : ℕ). mem y v) (sym z) ∙ p)))
                (λ g. (g.0, g.1, kept g.0 g.1 _ _ v (record { reader = g.3 ∙ hr; writer = g.4 ∙ hw; has = ap (λ (y : ℕ). mem y v) g.2 ∙ p })))
                h.one

            forth : (j : ℕ) → j < m + 1 → (v : ℕ) → lists_in t eq succ pred k (row_in q j) v ≡ true → Dec (j ≡ m)
                → (i : ℕ) × (i < n) × Entry (set between n c) (set readers n r) (set writers n w) i (row_in q j).reader (row_in q j).writer v
            forth j b v p (no d) = let g = l.each_row room j (omega (arith, d)) v p in (g.0, g.1, kept g.0 g.1 _ _ v g.2)
            forth j b v p (yes d) =
                let f : lists_in t eq succ pred k (row_in q m) v ≡ true = subst (λ (z : ℕ). lists_in t eq succ pred k (row_in q z) v ≡ true) d p in
                subst (λ (z : ℕ). (i : ℕ) × (i < n) × Entry (set between n c) (set readers n r) (set writers n w) i (row_in q z).reader (row_in q z).writer v) (sym d) (last v (is v ∙ f))

-- ---- a row more, as the code enters it

-- as the code compares two rows and their sets
pub same_both : (a b c d e f : ℕ) → (eqb a b && (eqb c d && eqb e f)) ≡ true → (a ≡ b) × (c ≡ d) × (e ≡ f)
same_both a b c d e f h =
    let g = and_both (eqb a b) (eqb c d && eqb e f) (sym (amp_and _ _) ∙ h) in
    let k = and_both (eqb c d) (eqb e f) (sym (amp_and _ _) ∙ g.1) in
    (eqb-true a b g.0, eqb-true c d k.0, eqb-true e f k.1)

no_more : (n : ℕ) → n + 0 ≡ n
no_more n = omega arith

module _ (t eq succ pred q : List ℕ) (k : ℕ) {m n : ℕ} {between readers writers : List ℕ} (l : Listed t eq succ pred q k m n between readers writers)
    {last lr lw : ℕ} (had : n < list_room → Had last lr lw n between readers writers) (nb : length between ≡ list_room) (nr : length readers ≡ list_room) (nw : length writers ≡ list_room)
    (r : Row) (hr : r ≡ row_in q m) (c : ℕ) (is : (v : ℕ) → mem c v ≡ lists_in t eq succ pred k (row_in q m) v) (again : Bool)
    (same : again ≡ true → (r.reader ≡ lr) × (r.writer ≡ lw) × (c ≡ last)) {z : ℕ} {between' readers' writers' : List ℕ}
    (e : Entering n c r again z between readers writers between' readers' writers') where
  abbrev Next : Type 0
  Next = Listed t eq succ pred q k (m + 1) z between' readers' writers' × (z < list_room → Had c r.reader r.writer z between' readers' writers')

  made : {z₁ : ℕ} {b₁ r₁ w₁ : List ℕ} → z ≡ z₁ → between' ≡ b₁ → readers' ≡ r₁ → writers' ≡ w₁
      → Listed t eq succ pred q k (m + 1) z₁ b₁ r₁ w₁ × (z₁ < list_room → Had c r.reader r.writer z₁ b₁ r₁ w₁) → Next
  made {z₁} {b₁} {r₁} {w₁} a b d f g =
      subst (λ (x : ℕ). Listed t eq succ pred q k (m + 1) x between' readers' writers' × (x < list_room → Had c r.reader r.writer x between' readers' writers')) (sym a)
      (subst (λ (x : List ℕ). Listed t eq succ pred q k (m + 1) z₁ x readers' writers' × (z₁ < list_room → Had c r.reader r.writer z₁ x readers' writers')) (sym b)
      (subst (λ (x : List ℕ). Listed t eq succ pred q k (m + 1) z₁ b₁ x writers' × (z₁ < list_room → Had c r.reader r.writer z₁ b₁ x writers')) (sym d)
      (subst (λ (x : List ℕ). Listed t eq succ pred q k (m + 1) z₁ b₁ r₁ x × (z₁ < list_room → Had c r.reader r.writer z₁ b₁ r₁ x)) (sym f) g)))

  pub listed_next : Next
  unfolding ◌and◌ non
  listed_next = by (dec_lt n list_room)
    where
      new : n < list_room → Listed t eq succ pred q k (m + 1) (n + 1) (set between n c) (set readers n r.reader) (set writers n r.writer)
          × (n + 1 < list_room → Had c r.reader r.writer (n + 1) (set between n c) (set readers n r.reader) (set writers n r.writer))
      new h = (
        listed_new t eq succ pred q k l c is r.reader r.writer (ap (λ (x : Row). x.reader) hr) (ap (λ (x : Row). x.writer) hr) (omega arith) (omega arith) (omega arith) h,
        λ a. had_new t eq succ pred q k l c is r.reader r.writer (ap (λ (x : Row). x.reader) hr) (ap (λ (x : Row). x.writer) hr) (omega arith) (omega arith) (omega arith),
      )

      old : n < list_room → Had c r.reader r.writer n between readers writers
          → Listed t eq succ pred q k (m + 1) n (set between n c) (set readers n r.reader) (set writers n r.writer)
          × (n < list_room → Had c r.reader r.writer n (set between n c) (set readers n r.reader) (set writers n r.writer))
      old h g = (
        listed_old t eq succ pred q k l c is r.reader r.writer (ap (λ (x : Row). x.reader) hr) (ap (λ (x : Row). x.writer) hr) (omega arith) (omega arith) (omega arith) g h,
        λ a. had_old t eq succ pred q k l c is r.reader r.writer (ap (λ (x : Row). x.reader) hr) (ap (λ (x : Row). x.writer) hr) (omega arith) (omega arith) (omega arith) g,
      )

      -- the same as the last one
      was : n < list_room → again ≡ true → Had c r.reader r.writer n between readers writers
      was h a = let s = same a in subst (λ (x : ℕ). Had x r.reader r.writer n between readers writers) (sym s.2) (subst (λ (x : ℕ). Had last x r.writer n between readers writers) (sym s.0) (subst (λ (x : ℕ). Had last lr x n between readers writers) (sym s.1) (had h)))

      step : n < list_room → (x y : Bool) → eqb c 0 ≡ x → again ≡ y → Next
      step h true y p s = let g = e.room h in made (g.0 ∙ ap (λ (a : Bool). n + cond (non a and non again) 1 0) p ∙ no_more n) g.1 g.2 g.3 (old h (record { one = inl (eqb-true c 0 p) }))
      step h false true p s = let g = e.room h in made (g.0 ∙ ap (λ (a : Bool). n + cond (non a and non again) 1 0) p ∙ ap (λ (a : Bool). n + cond (non false and non a) 1 0) s ∙ no_more n) g.1 g.2 g.3 (old h (was h s))
      step h false false p s = let g = e.room h in made (g.0 ∙ ap (λ (a : Bool). n + cond (non a and non again) 1 0) p ∙ ap (λ (a : Bool). n + cond (non false and non a) 1 0) s) g.1 g.2 g.3 (new h)

      by : Dec (n < list_room) → Next
      by (yes h) = step h (eqb c 0) again refl refl
      by (no h) = let g = e.full h in made g.0 g.1 g.2 g.3 (listed_full t eq succ pred q k l h, λ a. absurd (h a))

-- What is found by a short list of bars is what is found by the table of all bars: what the list leaves out never stops an event. Assumes nothing.
--     listed_fewer        a bar of the list is one of the table
--     listed_settled      a bar of the table is one of the list, or its event between happens before its writer, which is no init
--     listed_answered     so the answer by the list is the answer by the table
use mathlib.Core.Path.{◌≡◌, sym, ap, ◌∙◌, subst}
use mathlib.Core.Bool.{Bool, true, false}
use mathlib.Core.Logic.{◌⊎◌, inl, inr, ⊎_elim}
use mathlib.Core.List.{List}
use Prim.Native.Nat.{ℕ, ◌+◌, ◌*◌, ◌%◌, ◌<◌, ◌≤◌, min}
use native.Mathlib.Omega.{arith}
use native.Mathlib.Nat.{mod-eq_of_lt}
use native.Mathlib.Decide.{dec_lt}
use borrow.Author.Tests.{eq-eqb, eqb-true, leb-true}
use lib.Dec.{eqb, leb}
use lib.ListN.{length, get_or, replicate, length-replicate, get_or-replicate}
use Rattle.basis.specs.Test.{◌and◌, non}
use Rattle.basis.proofs.BoolLaws.{and_holds, and_both, by_bool, not_both_ways}
use Rattle.sets.specs.Mask.{slots, mem, Has}
use Rattle.sets.proofs.MaskLaws.{mem_empty}
use Rattle.gather.specs.Writers.{bar_at}
use Rattle.tables.specs.Tables.{row_room, row_in}
use Rattle.tables.proofs.TablesLaws.{reader_slot, writer_slot}
use Rattle.alike.specs.Ranges.{equals_in}
use Rattle.orders.specs.Answer.{Fits, Answered}
use Rattle.orders.specs.Listed.{Lists, listed_bars}
use Rattle.orders.proofs.ListedLaws.{listed_elim, listed_intro}
use Rattle.orders.proofs.SameLaws.{answered_same}
use Rattle.bars.specs.Bars.{mask_in, bars_in, filled_in}
use Rattle.bars.specs.Listed.{list_room, gone_in, lists_in, Entry, Listed}
use Rattle.bars.proofs.BarsLaws.{bars_back, bars_forth}
use Rattle.arrange.specs.Arranged.{bars_of}

module _ (t succ pred q : List ℕ) (k n rows c : ℕ) (between readers writers : List ℕ) (few : n ≤ slots)
    (l : Listed t (equals_in t (min n slots)) succ pred q k (min rows row_room) c between readers writers) where
  abbrev zeros : List ℕ
  zeros = replicate (slots * slots) 0

  abbrev eq : List ℕ
  eq = equals_in t (min n slots)

  long : slots * slots ≤ length zeros
  long = let z = length-replicate {A = ℕ} (slots * slots) 0 in omega arith

  module _ (r w v : ℕ) (hv : v < n) (hw : w < n) where
    -- a row of the sheet as the table's test names it
    name : (j : ℕ) → (row_in q j).reader ≡ r → (row_in q j).writer ≡ w → mem (mask_in t eq succ pred (row_in q j)) v ≡ true
        → (eqb (row_in q j).reader r and eqb (row_in q j).writer w and mem (mask_in t eq succ pred (row_in q j)) v) ≡ true
    name j a b h = and_holds _ _ (eq-eqb (row_in q j).reader r a) ∙ and_holds _ _ (eq-eqb (row_in q j).writer w b) ∙ h

    pub listed_fewer : Has (bar_at (listed_bars between readers writers c) v w) r → Has (bar_at (bars_of t n succ pred q rows) v w) r
    unfolding filled_in lists_in
    listed_fewer h =
        let i = listed_elim between readers writers v w r (omega arith) c h in
        let j = l.from_row i.0 i.1 v i.2.member in
        let a : (row_in q j.0).reader ≡ r = sym (mod-eq_of_lt (reader_slot q j.0)) ∙ ap (λ (x : ℕ). x % slots) (sym j.2.reader) ∙ i.2.reader in
        let b : (row_in q j.0).writer ≡ w = sym (mod-eq_of_lt (writer_slot q j.0)) ∙ ap (λ (x : ℕ). x % slots) (sym j.2.writer) ∙ i.2.writer in
        bars_forth t eq succ pred q zeros long v w r (omega arith) (omega arith) (min rows row_room) (inr (j.0, (j.1, name j.0 a b (and_both _ _ j.3).0)))

    -- the row j bars v between w and r
    from_row : c < list_room → (j : ℕ) → j < min rows row_room → (row_in q j).reader ≡ r → (row_in q j).writer ≡ w → mem (mask_in t eq succ pred (row_in q j)) v ≡ true
        → Has (bar_at (listed_bars between readers writers c) v w) r ⊎ ((k ≤ w) × Has (get_or pred w 0) v)
    unfolding lists_in gone_in non
    from_row room j hj a b h =
        by_bool (gone_in k pred (row_in q j).writer v)
        (λ g. let x = and_both _ _ g in inr (subst (λ (z : ℕ). (k ≤ z) × Has (get_or pred z 0) v) b (leb-true k _ x.0, x.1)))
        (λ g. let e = l.each_row room j hj v (and_holds _ _ h ∙ ap non g) in
        inl (listed_intro between readers writers v w r (omega arith) (omega arith) c e.0 e.1
        (record {
          member = e.2.has;
          writer = ap (λ (x : ℕ). x % slots) (e.2.writer ∙ b) ∙ mod-eq_of_lt (omega arith);
          reader = ap (λ (x : ℕ). x % slots) e.2.reader ∙ mod-eq_of_lt (reader_slot q j) ∙ a;
        })))

    pub listed_settled : c < list_room → Has (bar_at (bars_of t n succ pred q rows) v w) r → Has (bar_at (listed_bars between readers writers c) v w) r ⊎ ((k ≤ w) × Has (get_or pred w 0) v)
    unfolding filled_in
    listed_settled room h =
        ⊎_elim
        (λ g. absurd (not_both_ways g (ap (λ (x : ℕ). mem x r) (get_or-replicate (slots * slots) (v * slots + w) 0 0 (omega arith)) ∙ mem_empty r)))
        (λ g. let x = and_both _ _ g.1.1 in let y = and_both _ _ x.1 in from_row room g.0 g.1.0 (eqb-true _ r x.0) (eqb-true _ w y.0) y.1)
        (bars_back t eq succ pred q zeros long v w r (omega arith) (omega arith) (min rows row_room) h)

module _ {t succ pred q : List ℕ} {k n : ℕ} (rows : ℕ) {c : ℕ} {between readers writers : List ℕ}
    (l : Listed t (equals_in t (min n slots)) succ pred q k (min rows row_room) c between readers writers) (room : c < list_room) {scratch order : List ℕ} {r : Bool}
    {scratch' order' : List ℕ} (a : Answered k n pred (listed_bars between readers writers (min c list_room)) scratch order r scratch' order') where
  -- c counts as it stands
  all : Answered k n pred (listed_bars between readers writers c) scratch order r scratch' order'
  all = subst (λ (x : ℕ). Answered k n pred (listed_bars between readers writers x) scratch order r scratch' order') (omega arith) a

  pub listed_answered : Answered k n pred (bars_of t n succ pred q rows) scratch order r scratch' order'
  listed_answered = by (dec_lt slots n)
    where
      by : Dec (slots < n) → Answered k n pred (bars_of t n succ pred q rows) scratch order r scratch' order'
      by (no few) =
          answered_same (λ e w v hv hw. listed_fewer t succ pred q k n rows c between readers writers (omega (arith, few)) l e w v hv hw)
          (λ e w v hv hw. listed_settled t succ pred q k n rows c between readers writers (omega (arith, few)) l e w v hv hw room) all
      by (yes many) = record { fit = λ f. absurd (let z = f.events in omega (arith, z, many)); unfit = λ z. a.unfit (λ g. z g) }

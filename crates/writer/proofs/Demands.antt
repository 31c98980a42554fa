-- The promises of specs/Demands.antt. Assumes nothing.
use mathlib.Core.Path.{◌≡◌, refl, sym, ap, ◌∙◌, subst}
use mathlib.Core.Logic.{◌⊎◌, inl, inr}
use mathlib.Core.Bool.{Bool, true, false, cond}
use mathlib.Core.List.{List, ◌++◌}
use Prim.Native.Nat.{ℕ, ◌≤◌, ◌<◌, ◌^◌}
use native.Mathlib.Omega.{arith}
use borrow.Author.Tests.{ltb-true, le-ltb}
use lib.Dec.{ltb}
use lib.ListN.{length, take, drop}
use lib.Seq.{take-append_seam, drop-append_seam}
use Rattle.format.specs.Limits.{max_bytes}
use Rattle.format.specs.Execution.{Execution}
use Rattle.parse.specs.Parse.{Parsed, refused, whole, parse}
use Rattle.parse.proofs.PromiseLaws.{promise}
use Rattle.parse.proofs.RefusalLaws.{refusal_low}
use Rattle.parse.proofs.WellSheetLaws.{well_accepted, accepted_well}
use Rattle.answer.proofs.ReadLaws.{kind_in_lem, number_in_lem, place_in_lem}
use Rattle.puts.specs.Put.{overlaid}
use Rattle.encode.specs.Table.{Table, table_of}
use Rattle.encode.specs.Encode.{encode}
use Rattle.encode.specs.Index.{index_of}
use Rattle.encode.specs.Place.{OfEvent, OfPair, Names, too_long, at_head, none_reads, no_event, at_event, at_row, at_pair}
use Rattle.encode.proofs.WrittenBack.{written_back}
use Rattle.encode.proofs.ReadBack.{read_back}
use Rattle.encode.specs.Copy.{table_at, Alike, refused_alike, whole_alike}
use Rattle.encode.proofs.PlaceLaws.{short_index, refused_at, index_below}
use Rattle.encode.proofs.AlikeLaws.{copy_long, copy_alike}
use Rattle.encode.proofs.TearLaws.{tear_refused}
use Rattle.encode.proofs.ShortLaws.{well_written}
use Rattle.writer.specs.Written.{Written, unwritten}
use Rattle.std.proofs.Common.{Ok, Err}
use Rattle.writer.specs.Written.{told_by, told, left}
use Rattle.writer.specs.Word.{written_word, written_in}
use Rattle.writer.specs.Demands.{Agree, ReadsBack, WrittenBack, WritesBack, WritesExactly, Why, by_reader, no_room, Refuses, Numbers, RoomEnough, TearRefused, SameTold, both_refused, both_written, CopyTold, FitsWord}

pub agree : Agree
agree s entry r q f g a b =
    let e : r ≡ q = a.answer ∙ sym b.answer in
    (e, a.buffer ∙ ap (λ (u : Written). left u s entry) e ∙ sym b.buffer)

not_sheet : {A : Type 0} {n i m : ℕ} → Ok m ≡ unwritten n i → A
not_sheet e = let z : ◌≡◌ {A = ℕ} 0 1 = cc in absurd (omega arith)

-- a sheet is told where it is whole and fits
sheet_whole : (s : List ℕ) (room n : ℕ) → Ok n ≡ told s room → (x : Execution) × (parse s ≡ whole x) × (n ≡ length s)
unfolding told
sheet_whole s room n e = go (parse s) refl e
  where
    go : (p : Parsed) → parse s ≡ p → Ok n ≡ told_by s room p → (x : Execution) × (parse s ≡ whole x) × (n ≡ length s)
    go (refused m q) f h = not_sheet h
    go (whole x) f h = (x, f, fits (ltb room (length s)) h)
      where
        fits : (b : Bool) → Ok n ≡ cond b (unwritten 15 0) (Ok (length s)) → n ≡ length s
        fits true k = not_sheet k
        fits false k = cc

pub reads_back : ReadsBack
reads_back t entry n exit w =
    let v = sheet_whole (encode t) (length entry) n w.answer in
    let b : exit ≡ encode t ++ drop (length (encode t)) entry = w.buffer in
    let f : take n exit ≡ encode t = ap (λ (k : ℕ). take k exit) v.2 ∙ ap (take (length (encode t))) b ∙ take-append_seam (encode t) (drop (length (encode t)) entry) in
    let d : drop n exit ≡ drop n entry =
    ap (λ (k : ℕ). drop k exit) v.2 ∙ ap (drop (length (encode t))) b ∙ drop-append_seam (encode t) (drop (length (encode t)) entry) ∙ ap (λ (k : ℕ). drop k entry) (sym v.2) in
    (v.0, ap parse f ∙ v.1, read_back t v.0 v.1, d)

pub written_again : WrittenBack
written_again s x e = written_back s x e

pub writes_back : WritesBack
unfolding told
writes_back s x entry r exit well h w =
    let e = well_accepted s x well in
    let q = written_back s x e in
    let a : r ≡ Ok (length s) =
    w.answer ∙ ap (λ (u : List ℕ). told u (length entry)) q ∙ ap (told_by s (length entry)) e
    ∙ ap (λ (b : Bool). cond b (unwritten 15 0) (Ok (length s))) (le-ltb (length entry) (length s) h) in
    (a, w.buffer ∙ ap (λ (u : Written). left u (encode (table_of x)) entry) a ∙ ap (λ (u : List ℕ). overlaid u entry) q)

pub writes_exactly : WritesExactly
writes_exactly t x =
    ((λ e. (promise (encode t) x e, read_back t x e)), (λ w. subst (λ (u : Table). parse (encode u) ≡ whole x) w.1 (well_written x w.0)))

-- the number and the index of a refusal
abbrev number_told : Written → ℕ
number_told (Ok n) = 0
number_told (Err e) = e.number

abbrev index_told : Written → ℕ
index_told (Ok n) = 0
index_told (Err e) = e.index

pub refuses : Refuses
unfolding told
refuses t entry n i exit w = (go (parse (encode t)) refl w.answer, w.buffer)
  where
    go : (p : Parsed) → parse (encode t) ≡ p → unwritten n i ≡ told_by (encode t) (length entry) p → Why t (length entry) n i
    go (refused m q) e f =
        let g : n ≡ m = ap number_told f in
        let h : i ≡ index_of (encode t) m q = ap index_told f in
        let k : parse (encode t) ≡ refused n q = e ∙ ap (λ (j : ℕ). refused j q) (sym g) in
        by_reader q k (subst (Names t n q) (sym (h ∙ ap (λ (j : ℕ). index_of (encode t) j q) (sym g))) (refused_at t n q k))
    go (whole x) e f = short (ltb (length entry) (length (encode t))) refl f
      where
        short : (b : Bool) → ltb (length entry) (length (encode t)) ≡ b → unwritten n i ≡ cond b (unwritten 15 0) (Ok (length (encode t))) → Why t (length entry) n i
        short true q k =
            let g : n ≡ 15 = ap number_told k in
            let h : i ≡ 0 = ap index_told k in
            subst (λ (m : ℕ). Why t (length entry) m i) (sym g) (subst (Why t (length entry) 15) (sym h) (no_room x e (ltb-true _ _ q)))
        short false q k = not_sheet (sym k)

-- ---- the numbers

abbrev Number : ℕ → Type 0
Number n = (n ≡ 1) ⊎ ((4 ≤ n) × (n ≤ 11)) ⊎ (n ≡ 14) ⊎ (n ≡ 15)

names_number : (t : Table) {n p i : ℕ} → Names t n p i → Number n
names_number t too_long = inl refl
names_number t at_head = inr (inl (omega arith, omega arith))
names_number t none_reads = inr (inl (omega arith, omega arith))
names_number t no_event = inr (inr (inl refl))
names_number t {n} (at_event j h o) = inr (inl (go o))
  where
    go : OfEvent n → (4 ≤ n) × (n ≤ 11)
    go (inl e) = (omega arith, omega arith)
    go (inr (inl e)) = (omega arith, omega arith)
    go (inr (inr (inl e))) = (omega arith, omega arith)
    go (inr (inr (inr e))) = (omega arith, omega arith)
names_number t (at_row j h) = inr (inl (omega arith, omega arith))
names_number t {n} (at_pair j h o) = inr (inl (go o))
  where
    go : OfPair n → (4 ≤ n) × (n ≤ 11)
    go (inl e) = (omega arith, omega arith)
    go (inr e) = (omega arith, omega arith)

pub numbers : Numbers
numbers t entry n i exit w = go (refuses t entry n i exit w).0
  where
    go : {m j : ℕ} → Why t (length entry) m j → Number m
    go (by_reader p e k) = names_number t k
    go (no_room x e h) = inr (inr (inr refl))

-- 15 is of a whole sheet, which has at most 4,096 bytes
pub room_enough : RoomEnough
room_enough t entry i exit h w = go (refuses t entry 15 i exit w).0 refl
  where
    go : {n j : ℕ} → Why t (length entry) n j → n ≡ 15 → ⊥
    go (by_reader {n} p e k) q = let b = (refusal_low (encode t) n p e).0 in omega arith
    go (no_room x e r) q = let l = (accepted_well (encode t) x e).short in omega arith

pub tears : TearRefused
tears h events d e n = tear_refused h events d e n

-- ---- two editions

module _ (t : Table) (one : t.head.edition ≡ 1) (len' : length (encode (table_at 2 t)) ≤ max_bytes) (room room' : ℕ) (fits : max_bytes ≤ room) (fits' : max_bytes ≤ room') where
  abbrev u : Table
  u = table_at 2 t

  len : length (encode t) ≤ max_bytes
  len = let l = copy_long t one in omega arith

  told_alike : (p q : Parsed) → Alike t u p q → SameTold (length t.events) (told_by (encode t) room p) (told_by (encode u) room' q)
  told_alike p q (refused_alike {n} {p = p₁} {q = q₁} {i} a b) =
      let e : index_of (encode t) n p₁ ≡ i = short_index t len n p₁ i a in
      let f : index_of (encode u) n q₁ ≡ i = short_index u len' n q₁ i b in
      subst (λ (j : ℕ). SameTold (length t.events) (unwritten n j) (unwritten n (index_of (encode u) n q₁))) (sym e)
      (subst (λ (j : ℕ). SameTold (length t.events) (unwritten n i) (unwritten n j)) (sym f) (both_refused n i))
  told_alike p q (whole_alike x) =
      let e : ltb room (length (encode t)) ≡ false = le-ltb room (length (encode t)) (let l = len in omega arith) in
      let f : ltb room' (length (encode u)) ≡ false = le-ltb room' (length (encode u)) (omega arith) in
      rw (e, f, copy_long t one) (both_written (length (encode t)))

pub copy_told : CopyTold
unfolding told
copy_told t one rule len' entry entry' r r' exit exit' fits fits' w w' =
    subst (λ (a : Written). SameTold (length t.events) a r') (sym w.answer)
    (subst (λ (b : Written). SameTold (length t.events) (told (encode t) (length entry)) b) (sym w'.answer)
    (told_alike t one len' (length entry) (length entry') fits fits' (parse (encode t)) (parse (encode (table_at 2 t))) (copy_alike t one rule len')))

-- ---- the word

abbrev Held : Written → Type 0
Held (Err e) = (e.number < 256) × (e.index < 2 ^ 32)
Held (Ok n) = n < 2 ^ 32

held_in : (r : Written) → Held r → written_in (written_word r) ≡ r
unfolding written_in
held_in (Err e) h = rw (kind_in_lem 1 e.number e.index (omega arith) h.0 h.1, number_in_lem 1 e.number e.index (omega arith) h.0 h.1, place_in_lem 1 e.number e.index (omega arith) h.0 h.1) refl
held_in (Ok n) h = rw (kind_in_lem 5 0 n (omega arith) (omega arith) h, place_in_lem 5 0 n (omega arith) (omega arith) h) refl

-- every answer is small
told_held : (s : List ℕ) (room : ℕ) → Held (told s room)
unfolding told
told_held s room = go (parse s) refl
  where
    go : (p : Parsed) → parse s ≡ p → Held (told_by s room p)
    go (refused n p) e = let l = refusal_low s n p e in let i = index_below s n p e in (omega arith, omega arith)
    go (whole x) e = fits (ltb room (length s)) (accepted_well s x e).short
      where
        fits : (b : Bool) → length s ≤ max_bytes → Held (cond b (unwritten 15 0) (Ok (length s)))
        fits true h = (omega arith, omega arith)
        fits false h = omega arith

pub fits_word : FitsWord
fits_word s entry r exit w = held_in r (subst Held (sym w.answer) (told_held s (length entry)))

-- The law of specs/Lend.antt, `lends`: what a table's slices lend is the table. Entry by entry, behind what stands before it. Assumes nothing.
--     flat_snoc, flat_length        the bytes of one entry more; of entries of one length
use mathlib.Core.Path.{◌≡◌, refl, sym, ap, ◌∙◌}
use mathlib.Core.List.{List, [], ◌∷◌, ◌++◌, append_assoc, append-nil}
use Prim.Native.Nat.{ℕ, suc, ◌+◌, ◌*◌, ◌/◌, ◌<◌}
use native.Mathlib.Omega.{arith}
use native.Mathlib.Nat.{suc-mul, mul-div_cancel, div-add-mod'}
use lib.ListN.{length, take, drop, length-append}
use lib.Seq.{take_at, drop_at}
use Rattle.basis.specs.Test.{each, from}
use Rattle.format.specs.declared.Head.{Head}
use Rattle.format.specs.declared.Row.{Row}
use Rattle.format.specs.declared.Pair.{Pair}
use Rattle.format.specs.Layout.{row_bytes, pair_bytes, row_of, pair_of}
use Rattle.encode.specs.Table.{Description, Table}
use Rattle.encode.specs.Encode.{row_value, pair_value}
use Rattle.encode.specs.Lent.{part, entries, description_bytes, data_length, data_from, description_of, description_no, lent}
use Rattle.encode.specs.Lend.{eight, data_of, flat, Lends}

module _ {A : Type 0} (f : A → List ℕ) where
  pub flat_snoc : (l : List A) (a : A) → flat f (l ++ (a ∷ [])) ≡ flat f l ++ f a
  unfolding flat
  flat_snoc [] a = append-nil (f a)
  flat_snoc (b ∷ l) a = ap (λ (m : List ℕ). f b ++ m) (flat_snoc l a) ∙ sym (append_assoc (f b) (flat f l) (f a))

module _ {A : Type 0} (f : A → List ℕ) (gap : ℕ) (fixed : (a : A) → length (f a) ≡ gap) where
  pub flat_length : (l : List A) → length (flat f l) ≡ length l * gap
  unfolding flat
  flat_length [] = omega arith
  flat_length (a ∷ l) = length-append (f a) (flat f l) ∙ ap (λ (n : ℕ). n + length (flat f l)) (fixed a) ∙ ap (λ (n : ℕ). gap + n) (flat_length l) ∙ (let e = suc-mul (length l) gap in omega arith)

  flat_count : 0 < gap → (l : List A) → length (flat f l) / gap ≡ length l
  flat_count h l = ap (λ (n : ℕ). n / gap) (flat_length l) ∙ mul-div_cancel (length l) h

  part_here : (pre rest : List ℕ) (a : A) (k : ℕ) → length pre ≡ k * gap → part gap (pre ++ (f a ++ rest)) k ≡ f a
  part_here pre rest a k e = ap (take gap) (drop_at pre (f a ++ rest) (k * gap) e) ∙ take_at (f a) rest gap (fixed a)

  pre_more : (pre : List ℕ) (a : A) (k : ℕ) → length pre ≡ k * gap → length (pre ++ f a) ≡ suc k * gap
  pre_more pre a k e = let l = length-append pre (f a) in let g = fixed a in let m = suc-mul k gap in omega arith

  parts_flat : (l : List A) (pre : List ℕ) (k : ℕ) → length pre ≡ k * gap → each (part gap (pre ++ flat f l)) (from k (length l)) ≡ each f l
  unfolding each from flat
  parts_flat [] pre k e = refl
  parts_flat (a ∷ l) pre k e =
      ap (λ (v : List ℕ). v ∷ each (part gap (pre ++ (f a ++ flat f l))) (from (suc k) (length l))) (part_here pre (flat f l) a k e)
      ∙ ap (λ (m : List (List ℕ)). f a ∷ m)
      (ap (λ (u : List ℕ). each (part gap u) (from (suc k) (length l))) (sym (append_assoc pre (f a) (flat f l))) ∙ parts_flat l (pre ++ f a) (suc k) (pre_more pre a k e))

  entries_flat : 0 < gap → (l : List A) → entries gap (flat f l) ≡ each f l
  unfolding entries
  entries_flat h l = ap (λ (n : ℕ). each (part gap (flat f l)) (from 0 n)) (flat_count h l) ∙ parts_flat l [] 0 (omega arith)

rows_same : (edition : ℕ) (l : List Row) → each (row_of edition) (each (row_value edition) l) ≡ l
unfolding each
rows_same edition [] = refl
rows_same edition (r ∷ l) = ap (λ (m : List Row). r ∷ m) (rows_same edition l)

pairs_same : (l : List Pair) → each pair_of (each pair_value l) ≡ l
unfolding each
pairs_same [] = refl
pairs_same (p ∷ l) = ap (λ (m : List Pair). p ∷ m) (pairs_same l)

-- ---- descriptions

module _ (events bytes : List ℕ) (a : Description) (k : ℕ) (here : part description_bytes events k ≡ eight a) (rest : List ℕ) (there : drop (data_from events k) bytes ≡ a.bytes ++ rest) where
  size_here : data_length (part description_bytes events k) ≡ length a.bytes
  size_here = ap data_length here ∙ div-add-mod' (length a.bytes) 256

  description_here : description_no events bytes k ≡ a
  description_here =
      ap (λ (d : List ℕ). description_of d (take (data_length (part description_bytes events k)) (drop (data_from events k) bytes))) here
      ∙ ap (description_of (eight a))
      (ap (λ (n : ℕ). take n (drop (data_from events k) bytes)) size_here ∙ ap (take (length a.bytes)) there ∙ take_at a.bytes rest (length a.bytes) refl)

descriptions : (l : List Description) (pre front : List ℕ) (k : ℕ) → length pre ≡ k * description_bytes → data_from (pre ++ flat eight l) k ≡ length front
    → each (description_no (pre ++ flat eight l) (front ++ flat data_of l)) (from k (length l)) ≡ l
unfolding each from flat data_from
descriptions [] pre front k e f = refl
descriptions (a ∷ l) pre front k e f =
    let here : part description_bytes (pre ++ (eight a ++ flat eight l)) k ≡ eight a = part_here eight description_bytes (λ _. refl) pre (flat eight l) a k e in
    let there : drop (data_from (pre ++ (eight a ++ flat eight l)) k) (front ++ (a.bytes ++ flat data_of l)) ≡ a.bytes ++ flat data_of l =
    drop_at front (a.bytes ++ flat data_of l) (data_from (pre ++ (eight a ++ flat eight l)) k) (sym f) in
    let p : pre ++ (eight a ++ flat eight l) ≡ (pre ++ eight a) ++ flat eight l = sym (append_assoc pre (eight a) (flat eight l)) in
    let q : front ++ (a.bytes ++ flat data_of l) ≡ (front ++ a.bytes) ++ flat data_of l = sym (append_assoc front a.bytes (flat data_of l)) in
    let g : data_from ((pre ++ eight a) ++ flat eight l) (suc k) ≡ length (front ++ a.bytes) =
    ap (λ (u : List ℕ). data_from u (suc k)) (sym p)
    ∙ ap (λ (n : ℕ). n + data_length (part description_bytes (pre ++ (eight a ++ flat eight l)) k)) f
    ∙ ap (λ (n : ℕ). length front + n) (size_here (pre ++ (eight a ++ flat eight l)) (front ++ (a.bytes ++ flat data_of l)) a k here (flat data_of l) there)
    ∙ sym (length-append front a.bytes) in
    ap (λ (d : Description). d ∷ each (description_no (pre ++ (eight a ++ flat eight l)) (front ++ (a.bytes ++ flat data_of l))) (from (suc k) (length l)))
    (description_here (pre ++ (eight a ++ flat eight l)) (front ++ (a.bytes ++ flat data_of l)) a k here (flat data_of l) there)
    ∙ ap (λ (m : List Description). a ∷ m)
    (ap (λ (u : List ℕ). each (description_no u (front ++ (a.bytes ++ flat data_of l))) (from (suc k) (length l))) p
    ∙ ap (λ (u : List ℕ). each (description_no ((pre ++ eight a) ++ flat eight l) u) (from (suc k) (length l))) q
    ∙ descriptions l (pre ++ eight a) (front ++ a.bytes) (suc k) (pre_more eight description_bytes (λ _. refl) pre a k e) g)

events_same : (l : List Description) → each (description_no (flat eight l) (flat data_of l)) (from 0 (length (flat eight l) / description_bytes)) ≡ l
unfolding data_from
events_same l =
    ap (λ (n : ℕ). each (description_no (flat eight l) (flat data_of l)) (from 0 n)) (flat_count eight description_bytes (λ _. refl) (omega arith) l)
    ∙ descriptions l [] [] 0 (omega arith) refl

same_table : (h : Head) {e f : List Description} {r s : List Row} {p q : List Pair} → e ≡ f → r ≡ s → p ≡ q
    → ◌≡◌ {A = Table} (record { head = h; events = e; rows = r; pairs = p }) (record { head = h; events = f; rows = s; pairs = q })
same_table h a b c = cc

row_long : (edition : ℕ) (r : Row) → length (row_value edition r) ≡ row_bytes edition
unfolding row_bytes
row_long edition r = refl

some_bytes : (edition : ℕ) → 0 < row_bytes edition
unfolding row_bytes
some_bytes edition = omega arith

pub lends : Lends
unfolding lent
lends t =
    same_table t.head (events_same t.events)
    (ap (each (row_of t.head.edition)) (entries_flat (row_value t.head.edition) (row_bytes t.head.edition) (row_long t.head.edition) (some_bytes t.head.edition) t.rows)
    ∙ rows_same t.head.edition t.rows)
    (ap (each pair_of) (entries_flat pair_value pair_bytes (λ _. refl) (omega arith) t.pairs) ∙ pairs_same t.pairs)

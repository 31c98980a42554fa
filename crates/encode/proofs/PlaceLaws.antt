-- The laws of specs/Place.antt: the index that `index_of` counts is the one that a refusal names.
--     same_fuel, same_field, same_run     the fields of a tag that stand before a place
--     index_run                           of an entry of a list: its index
--     short_index                         the index of what a refusal names
--     index_below : an index fits where the sheet's length does
--     refused_at : parse (encode t) ≡ refused n p → Names t n p (index_of (encode t) n p)
-- Assumes nothing.
use mathlib.Core.Path.{◌≡◌, refl, sym, ap, ◌∙◌, subst}
use mathlib.Core.Logic.{inl, inr}
use mathlib.Core.Bool.{Bool, true, false, cond}
use mathlib.Core.List.{List, [], ◌∷◌, ◌++◌, append_assoc, append-nil}
use Prim.Native.Nat.{ℕ, zero, suc, ◌+◌, ◌<◌, ◌≤◌}
use native.Mathlib.Omega.{arith}
use borrow.Author.Tests.{ltb-true, ltb-false, eq-eqb, ne_eqb}
use lib.Dec.{eqb, ltb}
use lib.ListN.{length, get_or, take, drop, length-append}
use lib.Seq.{length-take-le}
use Rattle.basis.specs.Test.{◌or◌}
use Rattle.basis.proofs.ListLaws.{entry_split}
use Rattle.format.specs.Limits.{max_bytes}
use Rattle.format.specs.Execution.{blank_row, no_pair}
use Rattle.format.specs.Field.{tag_at, next_at}
use Rattle.parse.specs.Parse.{refused, place_of, parse}
use Rattle.parse.proofs.ParseLaws.{too_long as long}
use Rattle.parse.proofs.RefusalLaws.{refusal_low}
use Rattle.encode.specs.Table.{Description, Table}
use Rattle.encode.specs.Encode.{field, head_value, event_value, row_value, pair_value, run, encode}
use Rattle.encode.specs.Index.{same_from, no_entry, index_of}
use Rattle.encode.specs.Place.{before_events, before_rows, before_pairs, event_place, row_place, pair_place, OfEvent, OfPair, Names, too_long, at_head, none_reads, no_event, at_event, at_row, at_pair}
use Rattle.encode.proofs.EncodeLaws.{length_field, sheet_split}
use Rattle.encode.proofs.IndexLaws.{same_end, same_next}
use Rattle.encode.proofs.ReadBack.{seam_short, tag_here, next_here, whole_rows, all_pairs, refused_stands}

-- ---- counting from a place on

same_fuel : (s : List ℕ) (p k j q : ℕ) → p < k + q → p < j + q → same_from s k q p ≡ same_from s j q p
unfolding same_from
same_fuel s p zero zero q a b = refl
same_fuel s p zero (suc j) q a b = sym (same_end s j q p (omega arith))
same_fuel s p (suc k) zero q a b = same_end s k q p (omega arith)
same_fuel s p (suc k) (suc j) q a b = go (ltb q p) refl (same_fuel s p k j (next_at s q))
  where
    go : (c : Bool) → ltb q p ≡ c → (p < k + next_at s q → p < j + next_at s q → same_from s k (next_at s q) p ≡ same_from s j (next_at s q) p)
        → same_from s (suc k) q p ≡ same_from s (suc j) q p
    go true e ih =
        same_next s k q p (ltb-true _ _ e) ∙ ap (λ (n : ℕ). cond (eqb (tag_at s q) (tag_at s p)) 1 0 + n) (ih (omega arith) (omega arith))
        ∙ sym (same_next s j q p (ltb-true _ _ e))
    go false e ih = same_end s k q p (ltb-false _ _ e) ∙ sym (same_end s j q p (ltb-false _ _ e))

abbrev same : List ℕ → ℕ → ℕ → ℕ
same s q p = same_from s (suc p) q p

-- one field
same_field : (s a : List ℕ) (tag : ℕ) (v rest : List ℕ) (p : ℕ) → length s ≤ max_bytes → s ≡ a ++ (field tag v ++ rest) → length (a ++ field tag v) ≤ p
    → same s (length a) p ≡ cond (eqb tag (tag_at s p)) 1 0 + same s (length (a ++ field tag v)) p
same_field s a tag v rest p z e h =
    let l = length-append a (field tag v) in
    let m = length_field tag v in
    let t : tag_at s (length a) ≡ tag = subst (λ (u : List ℕ). tag_at u (length a) ≡ tag) (sym e) (tag_here a tag v rest) in
    let n : next_at s (length a) ≡ length (a ++ field tag v) = subst (λ (u : List ℕ). next_at u (length a) ≡ length (a ++ field tag v)) (sym e) (next_here a tag v rest (seam_short s a tag v rest e z)) in
    same_next s p (length a) p (omega arith) ∙ ap (λ (k : ℕ). cond (eqb k (tag_at s p)) 1 0 + same_from s p (next_at s (length a)) p) t
    ∙ ap (λ (k : ℕ). cond (eqb tag (tag_at s p)) 1 0 + same_from s p k p) n
    ∙ ap (λ (k : ℕ). cond (eqb tag (tag_at s p)) 1 0 + k) (same_fuel s p p (suc p) (length (a ++ field tag v)) (omega arith) (omega arith))

none_more : (b : Bool) → ◌≡◌ {A = ℕ} (cond b 0 0) 0
none_more true = refl
none_more false = refl

one_more : (b : Bool) (n k : ℕ) → cond b 1 0 + (cond b n 0 + k) ≡ cond b (suc n) 0 + k
one_more true n k = omega arith
one_more false n k = omega arith

-- a list of fields
module _ {A : Type 0} (s : List ℕ) (z : length s ≤ max_bytes) (tag : ℕ) (value : A → List ℕ) (p : ℕ) where
  same_run : (l : List A) (a rest : List ℕ) → s ≡ a ++ (run tag value l ++ rest) → length (a ++ run tag value l) ≤ p
      → same s (length a) p ≡ cond (eqb tag (tag_at s p)) (length l) 0 + same s (length (a ++ run tag value l)) p
  unfolding run
  same_run [] a rest e h =
      ap (λ (l : List ℕ). same s (length l) p) (sym (append-nil a)) ∙ let y = none_more (eqb tag (tag_at s p)) in omega arith
  same_run (x ∷ l) a rest e h =
      let g : a ++ (field tag (value x) ++ run tag value l) ≡ (a ++ field tag (value x)) ++ run tag value l = sym (append_assoc a (field tag (value x)) (run tag value l)) in
      let f : s ≡ a ++ (field tag (value x) ++ (run tag value l ++ rest)) = e ∙ ap (λ (m : List ℕ). a ++ m) (append_assoc (field tag (value x)) (run tag value l) rest) in
      let i : length ((a ++ field tag (value x)) ++ run tag value l) ≤ p = subst (λ (m : List ℕ). length m ≤ p) g h in
      let j = length-append (a ++ field tag (value x)) (run tag value l) in
      same_field s a tag (value x) (run tag value l ++ rest) p z f (omega arith)
      ∙ ap (λ (k : ℕ). cond (eqb tag (tag_at s p)) 1 0 + k)
      (same_run l (a ++ field tag (value x)) rest (f ∙ sym (append_assoc a (field tag (value x)) (run tag value l ++ rest))) i)
      ∙ ap (λ (m : List ℕ). cond (eqb tag (tag_at s p)) 1 0 + (cond (eqb tag (tag_at s p)) (length l) 0 + same s (length m) p)) (sym g)
      ∙ one_more (eqb tag (tag_at s p)) (length l) (same s (length (a ++ (field tag (value x) ++ run tag value l))) p)

-- ---- an entry of a list

run_append : {A : Type 0} (tag : ℕ) (value : A → List ℕ) (l m : List A) → run tag value (l ++ m) ≡ run tag value l ++ run tag value m
unfolding run
run_append tag value [] m = refl
run_append tag value (a ∷ l) m =
    ap (λ (k : List ℕ). field tag (value a) ++ k) (run_append tag value l m) ∙ sym (append_assoc (field tag (value a)) (run tag value l) (run tag value m))

module _ {A : Type 0} (none : A) (s base rest : List ℕ) (z : length s ≤ max_bytes) (tag : ℕ) (value : A → List ℕ) (every : List A) (e : s ≡ base ++ (run tag value every ++ rest)) (i : ℕ) (h : i < length every) where
  abbrev place : ℕ
  place = length (base ++ run tag value (take i every))

  abbrev a : A
  a = get_or every i none

  abbrev behind : List ℕ
  behind = run tag value (drop (suc i) every) ++ rest

  here : s ≡ base ++ (run tag value (take i every) ++ (field tag (value a) ++ behind))
  unfolding run
  here =
      e ∙ ap (λ (l : List ℕ). base ++ l)
      (ap (λ (l : List A). run tag value l ++ rest) (entry_split none every i h) ∙ ap (λ (l : List ℕ). l ++ rest) (run_append tag value (take i every) (a ∷ drop (suc i) every))
      ∙ append_assoc (run tag value (take i every)) (field tag (value a) ++ run tag value (drop (suc i) every)) rest
      ∙ ap (λ (l : List ℕ). run tag value (take i every) ++ l) (append_assoc (field tag (value a)) (run tag value (drop (suc i) every)) rest))

  pub tag_there : tag_at s place ≡ tag
  tag_there =
      subst (λ (u : List ℕ). tag_at u place ≡ tag) (sym (here ∙ sym (append_assoc base (run tag value (take i every)) (field tag (value a) ++ behind))))
      (tag_here (base ++ run tag value (take i every)) tag (value a) behind)

  pub index_run : same s (length base) place ≡ i
  index_run =
      let y = same_end s place place place (omega arith) in
      let l = length-take-le i every (omega arith) in
      same_run s z tag value place (take i every) base (field tag (value a) ++ behind) here (omega arith)
      ∙ ap (λ (b : Bool). cond b (length (take i every)) 0 + same s place place) (eq-eqb tag (tag_at s place) (sym tag_there)) ∙ omega arith

  pub base_before : length base ≤ place
  base_before = let l = length-append base (run tag value (take i every)) in omega arith

-- ---- over the lists before it

no_description : Description
no_description = record { agent = 0; kind = 0; mode = 0; start = 0; width = 0; tear = 0; bytes = [] }

module _ (t : Table) (z : length (encode t) ≤ max_bytes) where
  abbrev edition : ℕ
  edition = t.head.edition

  over_head : (p : ℕ) → (tag_at (encode t) p ≡ 1 → ⊥) → length (before_events t) ≤ p → same (encode t) 0 p ≡ same (encode t) (length (before_events t)) p
  over_head p d h =
      same_field (encode t) [] 1 (head_value t.head) _ p z (sheet_split t) h
      ∙ ap (λ (b : Bool). cond b 1 0 + same (encode t) (length (before_events t)) p) (ne_eqb 1 (tag_at (encode t) p) (λ q. d (sym q))) ∙ omega arith

  over_events : (p : ℕ) → (tag_at (encode t) p ≡ 2 → ⊥) → length (before_rows t) ≤ p → same (encode t) (length (before_events t)) p ≡ same (encode t) (length (before_rows t)) p
  over_events p d h =
      same_run (encode t) z 2 (event_value edition) p t.events (before_events t) _ (sheet_split t) h
      ∙ ap (λ (b : Bool). cond b (length t.events) 0 + same (encode t) (length (before_rows t)) p) (ne_eqb 2 (tag_at (encode t) p) (λ q. d (sym q))) ∙ omega arith

  over_rows : (p : ℕ) → (tag_at (encode t) p ≡ 3 → ⊥) → length (before_pairs t) ≤ p → same (encode t) (length (before_rows t)) p ≡ same (encode t) (length (before_pairs t)) p
  over_rows p d h =
      same_run (encode t) z 3 (row_value edition) p t.rows (before_rows t) _ (whole_rows t) h
      ∙ ap (λ (b : Bool). cond b (length t.rows) 0 + same (encode t) (length (before_pairs t)) p) (ne_eqb 3 (tag_at (encode t) p) (λ q. d (sym q))) ∙ omega arith

  same_event : (i : ℕ) → i < length t.events → same (encode t) 0 (event_place t i) ≡ i
  unfolding event_place
  same_event i h =
      let g = tag_there no_description (encode t) (before_events t) _ z 2 (event_value edition) t.events (sheet_split t) i h in
      over_head (event_place t i) (λ q. omega arith) (base_before no_description (encode t) (before_events t) _ z 2 (event_value edition) t.events (sheet_split t) i h)
      ∙ index_run no_description (encode t) (before_events t) _ z 2 (event_value edition) t.events (sheet_split t) i h

  same_row : (i : ℕ) → i < length t.rows → same (encode t) 0 (row_place t i) ≡ i
  unfolding row_place
  same_row i h =
      let g = tag_there blank_row (encode t) (before_rows t) _ z 3 (row_value edition) t.rows (whole_rows t) i h in
      let b = base_before blank_row (encode t) (before_rows t) _ z 3 (row_value edition) t.rows (whole_rows t) i h in
      let l = length-append (before_events t) (run 2 (event_value edition) t.events) in
      over_head (row_place t i) (λ q. omega arith) (omega arith) ∙ over_events (row_place t i) (λ q. omega arith) b
      ∙ index_run blank_row (encode t) (before_rows t) _ z 3 (row_value edition) t.rows (whole_rows t) i h

  same_pair : (i : ℕ) → i < length t.pairs → same (encode t) 0 (pair_place t i) ≡ i
  unfolding pair_place
  same_pair i h =
      let g = tag_there no_pair (encode t) (before_pairs t) [] z 4 pair_value t.pairs (all_pairs t) i h in
      let b = base_before no_pair (encode t) (before_pairs t) [] z 4 pair_value t.pairs (all_pairs t) i h in
      let l = length-append (before_events t) (run 2 (event_value edition) t.events) in
      let m = length-append (before_rows t) (run 3 (row_value edition) t.rows) in
      over_head (pair_place t i) (λ q. omega arith) (omega arith) ∙ over_events (pair_place t i) (λ q. omega arith) (omega arith)
      ∙ over_rows (pair_place t i) (λ q. omega arith) b ∙ index_run no_pair (encode t) (before_pairs t) [] z 4 pair_value t.pairs (all_pairs t) i h

  -- ---- every refusal

  -- a refusal about an entry: its place is the entry's tag
  of_event : (n p : ℕ) → OfEvent n → index_of (encode t) n (place_of n p) ≡ same (encode t) 0 p
  unfolding index_of no_entry ◌or◌ place_of
  of_event n p (inl e) = rw e refl
  of_event n p (inr (inl e)) = rw e refl
  of_event n p (inr (inr (inl e))) = rw e refl
  of_event n p (inr (inr (inr e))) = rw e refl

  of_row : (p : ℕ) → index_of (encode t) 7 (place_of 7 p) ≡ same (encode t) 0 p
  unfolding index_of no_entry ◌or◌ place_of
  of_row p = refl

  of_pair : (n p : ℕ) → OfPair n → index_of (encode t) n (place_of n p) ≡ same (encode t) 0 p
  unfolding index_of no_entry ◌or◌ place_of
  of_pair n p (inl e) = rw e refl
  of_pair n p (inr e) = rw e refl

  pub short_index : (n p i : ℕ) → Names t n p i → index_of (encode t) n p ≡ i
  unfolding index_of no_entry ◌or◌
  short_index n p i too_long = refl
  short_index n p i at_head = refl
  short_index n p i none_reads = refl
  short_index n p i no_event = refl
  short_index n p i (at_event j h o) = of_event n (event_place t j) o ∙ same_event j h
  short_index n p i (at_row j h) = of_row (row_place t j) ∙ same_row j h
  short_index n p i (at_pair j h o) = of_pair n (pair_place t j) o ∙ same_pair j h

-- a sheet that is too long is refused 1, whose index is 0
pub refused_at : (t : Table) (n p : ℕ) → parse (encode t) ≡ refused n p → Names t n p (index_of (encode t) n p)
unfolding index_of no_entry ◌or◌
refused_at t n p e = go (ltb max_bytes (length (encode t))) refl
  where
    go : (b : Bool) → ltb max_bytes (length (encode t)) ≡ b → Names t n p (index_of (encode t) n p)
    go true q =
        let f : refused 1 0 ≡ refused n p = sym (long (encode t) (ltb-true _ _ q)) ∙ e in
        let a : 1 ≡ n = cc in
        let c : 0 ≡ p = cc in
        subst (λ (m : ℕ). Names t m p (index_of (encode t) m p)) a (subst (λ (r : ℕ). Names t 1 r 0) c too_long)
    go false q = let w = refused_stands t n p e in subst (Names t n p) (sym (short_index t (ltb-false _ _ q) n p w.0 w.1)) w.1

-- no more fields than there is fuel
same_most : (s : List ℕ) (p k q : ℕ) → same_from s k q p ≤ k
unfolding same_from
same_most s p zero q = omega arith
same_most s p (suc k) q = go (ltb q p) refl (eqb (tag_at s q) (tag_at s p)) refl (same_most s p k (next_at s q))
  where
    go : (c : Bool) → ltb q p ≡ c → (d : Bool) → eqb (tag_at s q) (tag_at s p) ≡ d → same_from s k (next_at s q) p ≤ k → same_from s (suc k) q p ≤ suc k
    go false e d f ih = let z = same_end s k q p (ltb-false _ _ e) in omega arith
    go true e true f ih = let z = same_next s k q p (ltb-true _ _ e) ∙ ap (λ (b : Bool). cond b 1 0 + same_from s k (next_at s q) p) f in omega arith
    go true e false f ih = let z = same_next s k q p (ltb-true _ _ e) ∙ ap (λ (b : Bool). cond b 1 0 + same_from s k (next_at s q) p) f in omega arith

pub index_below : (s : List ℕ) (n p : ℕ) → parse s ≡ refused n p → index_of s n p ≤ max_bytes + 1
unfolding index_of
index_below s n p e = go (no_entry n) (same_most s p (suc p) 0) (refusal_low s n p e).1
  where
    go : (b : Bool) → same_from s (suc p) 0 p ≤ suc p → p ≤ max_bytes → cond b 0 (same_from s (suc p) 0 p) ≤ max_bytes + 1
    go true m h = omega arith
    go false m h = omega arith

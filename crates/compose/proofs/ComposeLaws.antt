-- What the functions of this crate put: fields, entries, descriptions, the whole sheet.
--     puts_field                    the opening and the value of a field
--     puts_entry, puts_run_none, puts_run_all     one entry more; none, all of them
--     gap_room, gap_more, puts_part places a gap apart
--     kind_same, kind_other         the kind of a description, by its tear byte
--     puts_event, puts_description  an event; as number i of the table
--     end_within, rest_none, rest_more     where the data of the next event begins
--     row_parts, puts_sheet         how many rows a slice has; the whole sheet
-- Assumes nothing.
use mathlib.Core.Path.{◌≡◌, refl, sym, ap, ◌∙◌, subst}
use mathlib.Core.Bool.{Bool, true, false, cond}
use mathlib.Core.List.{List, [], ◌∷◌, ◌++◌}
use Prim.Native.Nat.{ℕ, zero, suc, ◌+◌, ◌-◌, ◌*◌, ◌/◌, ◌≤◌, ◌<◌}
use native.Mathlib.Omega.{arith}
use native.Mathlib.Numerals.{add-one}
use native.Mathlib.Nat.{mul-le-mul_right, suc-mul, div-mul-le_self}
use borrow.Author.Tests.{leb-true, leb-false, eq-eqb, ne_eqb}
use lib.Dec.{leb}
use lib.ListN.{length, get_or, take, drop, length-take, length-drop, drop_of_length-le}
use lib.Seq.{drop-drop, drop-length}
use Rattle.basis.specs.Test.{each, from}
use Rattle.basis.proofs.ListLaws.{part_short, from_more, each_more}
use Rattle.format.specs.declared.Shape.{Shape}
use Rattle.format.specs.Layout.{edition_of, event_bytes, tear_by, row_bytes, pair_bytes, head_of, shape_of, row_of, pair_of}
use Rattle.puts.specs.Put.{Puts}
use Rattle.puts.proofs.PutLaws.{puts_none, puts_then}
use Rattle.encode.specs.Table.{Description}
use Rattle.encode.specs.Encode.{field, kind_byte, event_value, head_value, row_value, pair_value, run, encode}
use Rattle.encode.specs.Lent.{part, entries, description_bytes, data_length, data_from, description_of, description_no, lent}
use Rattle.encode.proofs.EncodeLaws.{run_snoc, laid_long, row_back, pair_back, sheet_split}
use Rattle.compose.specs.steps.Opening.{opening}

pub puts_field : {e f g : List ℕ} {at m n : ℕ} (tag : ℕ) (v : List ℕ) → Puts (opening tag (length v)) at m e f → Puts v m n f g → Puts (field tag v) at n e g
unfolding field
puts_field tag v a b = puts_then a b

-- one field more
pub puts_entry : {A : Type 0} (tag : ℕ) (value : A → List ℕ) (f : ℕ → A) (i : ℕ) {e g h : List ℕ} {at m n : ℕ} → Puts (run tag value (each f (from 0 i))) at m e g
    → Puts (field tag (value (f i))) m n g h → Puts (run tag value (each f (from 0 (i + 1)))) at n e h
puts_entry tag value f i a b =
    rw (from_more i, each_more f (from 0 i) i, run_snoc tag value (each f (from 0 i)) (f i)) (puts_then a b)

pub gap_more : (k i gap : ℕ) → k ≡ i * gap → k + gap ≡ (i + 1) * gap
gap_more k i gap e = rw (add-one, suc-mul, e)

pub gap_room : (k i n gap m : ℕ) → k ≡ i * gap → i < n → n * gap ≤ m → k + gap ≤ m
gap_room k i n gap m e h r = let q = mul-le-mul_right {m = i + 1} {n = n} gap (omega arith) in let g = gap_more k i gap e in omega arith

-- no field, and all of them
pub puts_run_none : {A : Type 0} (tag : ℕ) (value : A → List ℕ) (f : ℕ → A) (at : ℕ) (l : List ℕ) → Puts (run tag value (each f (from 0 0))) at at l l
unfolding run each from
puts_run_none tag value f at l = puts_none at l

pub puts_run_all : {A : Type 0} (tag : ℕ) (value : A → List ℕ) (f : ℕ → A) (i n : ℕ) {e g : List ℕ} {at m : ℕ} → i ≡ n → Puts (run tag value (each f (from 0 i))) at m e g
    → Puts (run tag value (each f (from 0 n))) at m e g
puts_run_all tag value f i n q a = rw q at a

-- the part that is lent is the entry
pub puts_part : (tag gap : ℕ) (l : List ℕ) (k i : ℕ) {e g : List ℕ} {at m : ℕ} → k ≡ i * gap → Puts (field tag (take (k + gap - k) (drop k l))) at m e g → Puts (field tag (part gap l i)) at m e g
puts_part tag gap l k i {e} {g} {at} {m} q a =
    let w : k + gap - k ≡ gap = omega arith in
    subst (λ (j : ℕ). Puts (field tag (take gap (drop j l))) at m e g) q (subst (λ (j : ℕ). Puts (field tag (take j (drop k l))) at m e g) w a)

-- ---- descriptions

module _ (edition : ℕ) (d : List ℕ) (a : Shape) (b : ℕ) (e : a ≡ shape_of edition d) (f : b ≡ get_or d 5 0) where
  abbrev said : ℕ
  said = tear_by edition (get_or d 1 0) (get_or d 2 0) (get_or d 3 0) (get_or d 4 0) (get_or d 5 0)

  pub kind_same : b ≡ a.tear → a.kind ≡ kind_byte edition (description_of d [])
  unfolding kind_byte
  kind_same h =
      let g : get_or d 5 0 ≡ said = sym f ∙ h ∙ ap {B = ℕ} (λ (u : Shape). u.tear) e in
      rw (eq-eqb _ _ g) (ap {B = ℕ} (λ (u : Shape). u.kind) e)

  pub kind_other : (b ≡ a.tear → ⊥) → 0 ≡ kind_byte edition (description_of d [])
  unfolding kind_byte
  kind_other h =
      let g : get_or d 5 0 ≡ said → ⊥ = λ q. h (f ∙ q ∙ sym (ap {B = ℕ} (λ (u : Shape). u.tear) e)) in
      rw (ne_eqb _ _ g) refl

-- what may stand before the data
abbrev pub fixed : ℕ → List ℕ → List ℕ
fixed edition d = get_or d 0 0 ∷ kind_byte edition (description_of d []) ∷ get_or d 2 0 ∷ get_or d 3 0 ∷ get_or d 4 0 ∷ get_or d 5 0 ∷ []

pub fixed_here : (edition : ℕ) (d : List ℕ) {a k m s w t : ℕ} → a ≡ get_or d 0 0 → k ≡ kind_byte edition (description_of d []) → m ≡ get_or d 2 0 → s ≡ get_or d 3 0 → w ≡ get_or d 4 0 → t ≡ get_or d 5 0
    → ◌≡◌ {A = List ℕ} (a ∷ k ∷ m ∷ s ∷ w ∷ t ∷ []) (fixed edition d)
fixed_here edition d p q r u o i = cc

pub puts_event : (edition : ℕ) (d bytes v : List ℕ) (j : ℕ) {e f g h : List ℕ} {at m n o : ℕ} → v ≡ fixed edition d → j ≡ event_bytes edition
    → Puts (opening 2 (length bytes + j)) at m e f → Puts (take j v) m n f g → Puts bytes n o g h
    → Puts (field 2 (event_value edition (description_of d bytes))) at o e h
unfolding kind_byte
puts_event edition d bytes v j {e} {f} {g} {h} {at} {m} {n} {o} q i a b c =
    let y = laid_long edition (get_or d 0 0) (kind_byte edition (description_of d [])) (get_or d 2 0) (get_or d 3 0) (get_or d 4 0) (get_or d 5 0) bytes in
    let l : length bytes + j ≡ length (event_value edition (description_of d bytes)) = omega arith in
    puts_field 2 (event_value edition (description_of d bytes)) (subst (λ (k : ℕ). Puts (opening 2 k) at m e f) l a)
    (puts_then (subst (λ (u : List ℕ). Puts u m n f g) (ap (take j) q ∙ ap (λ (k : ℕ). take k (fixed edition d)) i) b) c)

-- the data of an event: as many of the bytes wanted as there are
abbrev pub end_of : ℕ → ℕ → ℕ → ℕ
end_of size first want = cond (leb want (size - first)) (first + want) size

module _ (l : List ℕ) (first want : ℕ) (h : first ≤ length l) where
  pub end_within : (end_of (length l) first want ≤ length l) × (first ≤ end_of (length l) first want)
  end_within = go (leb want (length l - first)) refl
    where
      go : (b : Bool) → leb want (length l - first) ≡ b → (cond b (first + want) (length l) ≤ length l) × (first ≤ cond b (first + want) (length l))
      go true p = let q = leb-true want (length l - first) p in (omega arith, omega arith)
      go false p = (omega arith, h)

  pub end_part : take (end_of (length l) first want - first) (drop first l) ≡ take want (drop first l)
  end_part = go (leb want (length l - first)) refl
    where
      go : (b : Bool) → leb want (length l - first) ≡ b → take (cond b (first + want) (length l) - first) (drop first l) ≡ take want (drop first l)
      go true p = let q : first + want - first ≡ want = omega arith in ap (λ (k : ℕ). take k (drop first l)) q
      go false p = let q = leb-false want (length l - first) p in part_short l first want (omega arith)

  pub end_rest : drop (end_of (length l) first want) l ≡ drop want (drop first l)
  end_rest = go (leb want (length l - first)) refl
    where
      go : (b : Bool) → leb want (length l - first) ≡ b → drop (cond b (first + want) (length l)) l ≡ drop want (drop first l)
      go true p = sym (drop-drop want first l)
      go false p =
          let q = leb-false want (length l - first) p in
          drop-length l ∙ sym (drop_of_length-le (drop first l) {i = want} (simp length-drop (omega arith)))

pub rest_none : (events bytes : List ℕ) → drop 0 bytes ≡ drop (data_from events 0) bytes
unfolding data_from
rest_none events bytes = refl

-- one event more
module _ (events bytes : List ℕ) (k i first : ℕ) (e : k ≡ i * description_bytes) (h : first ≤ length bytes) (r : drop first bytes ≡ drop (data_from events i) bytes) where
  here : take (k + description_bytes - k) (drop k events) ≡ part description_bytes events i
  here = let w : k + description_bytes - k ≡ description_bytes = omega arith in ap (λ (j : ℕ). take j (drop k events)) w ∙ ap (λ (j : ℕ). take description_bytes (drop j events)) e

  module _ (want end : ℕ) (n : want ≡ data_length (take (k + description_bytes - k) (drop k events))) (q : end ≡ end_of (length bytes) first want) where
    wanted : want ≡ data_length (part description_bytes events i)
    wanted = n ∙ ap data_length here

    pub description_here : description_of (take (k + description_bytes - k) (drop k events)) (take (end - first) (drop first bytes)) ≡ description_no events bytes i
    description_here =
        ap (λ (d : List ℕ). description_of d (take (end - first) (drop first bytes))) here
        ∙ ap (description_of (part description_bytes events i))
        (ap (λ (j : ℕ). take (j - first) (drop first bytes)) q ∙ end_part bytes first want h ∙ ap (λ (j : ℕ). take j (drop first bytes)) wanted
        ∙ ap (take (data_length (part description_bytes events i))) r)

    pub rest_more : drop end bytes ≡ drop (data_from events (i + 1)) bytes
    unfolding data_from
    rest_more =
        ap (λ (j : ℕ). drop j bytes) q ∙ end_rest bytes first want h ∙ ap (drop want) r ∙ ap (λ (j : ℕ). drop j (drop (data_from events i) bytes)) wanted
        ∙ drop-drop (data_length (part description_bytes events i)) (data_from events i) bytes ∙ rw add-one refl

    pub puts_description : (edition : ℕ) {f g : List ℕ} {m o : ℕ}
        → Puts (field 2 (event_value edition (description_of (take (k + description_bytes - k) (drop k events)) (take (end - first) (drop first bytes))))) m o f g
        → Puts (field 2 (event_value edition (description_no events bytes i))) m o f g
    puts_description edition {f} {g} {m} {o} a = subst (λ (d : Description). Puts (field 2 (event_value edition d)) m o f g) description_here a

-- ---- rows and pairs

part_length : (gap : ℕ) (l : List ℕ) (i : ℕ) → i < length l / gap → length (part gap l i) ≡ gap
part_length gap l i h =
    let r = gap_room (i * gap) i (length l / gap) gap (length l) refl h (div-mul-le_self (length l) gap) in simp (length-take, length-drop) (omega arith)

-- entries that are their parts
run_parts : {A : Type 0} (tag : ℕ) (value : A → List ℕ) (of : List ℕ → A) (g : ℕ → List ℕ) (n s : ℕ) → ((i : ℕ) → s ≤ i → i < s + n → value (of (g i)) ≡ g i)
    → run tag (λ (v : List ℕ). v) (each g (from s n)) ≡ run tag value (each of (each g (from s n)))
unfolding run each from
run_parts tag value of g zero s h = refl
run_parts tag value of g (suc n) s h =
    ap (λ (v : List ℕ). field tag v ++ run tag (λ (u : List ℕ). u) (each g (from (suc s) n))) (sym (h s (omega arith) (omega arith)))
    ∙ ap (λ (l : List ℕ). field tag (value (of (g s))) ++ l) (run_parts tag value of g n (suc s) (λ i a b. h i (omega arith) (omega arith)))

rows_parts : (edition : ℕ) (l : List ℕ)
    → run 3 (λ (v : List ℕ). v) (each (part (row_bytes edition) l) (from 0 (length l / row_bytes edition))) ≡ run 3 (row_value edition) (each (row_of edition) (entries (row_bytes edition) l))
unfolding entries
rows_parts edition l =
    run_parts 3 (row_value edition) (row_of edition) (part (row_bytes edition) l) (length l / row_bytes edition) 0
    (λ i a b. row_back edition (part (row_bytes edition) l i) (part_length (row_bytes edition) l i (omega arith)))

pairs_parts : (l : List ℕ) → run 4 (λ (v : List ℕ). v) (each (part pair_bytes l) (from 0 (length l / pair_bytes))) ≡ run 4 pair_value (each pair_of (entries pair_bytes l))
unfolding entries
pairs_parts l = run_parts 4 pair_value pair_of (part pair_bytes l) (length l / pair_bytes) 0 (λ i a b. pair_back (part pair_bytes l i) (part_length pair_bytes l i (omega arith)))

-- a row has bytes, so that a slice has a number of them
pub row_parts : (edition gap n : ℕ) → gap ≡ row_bytes edition → (0 < gap) × (n / gap * gap ≤ n)
unfolding row_bytes
row_parts edition gap n e = (omega arith, div-mul-le_self n gap)

-- the whole sheet
pub head_here : (h : List ℕ) {a b c : ℕ} → a ≡ get_or h 0 0 → b ≡ get_or h 1 0 → c ≡ get_or h 2 0 → ◌≡◌ {A = List ℕ} (a ∷ b ∷ c ∷ []) (head_value (head_of (edition_of h) h))
head_here h p q r = cc

pub puts_sheet : (head events bytes rows pairs v : List ℕ) {e f g h i : List ℕ} {a b c d : ℕ} (edition gap : ℕ) → edition ≡ edition_of head → gap ≡ row_bytes edition
    → v ≡ head_value (head_of (edition_of head) head) → Puts (field 1 v) 0 a e f
    → Puts (run 2 (event_value edition) (each (description_no events bytes) (from 0 (length events / description_bytes)))) a b f g
    → Puts (run 3 (λ (u : List ℕ). u) (each (part gap rows) (from 0 (length rows / gap)))) b c g h
    → Puts (run 4 (λ (u : List ℕ). u) (each (part pair_bytes pairs) (from 0 (length pairs / pair_bytes)))) c d h i
    → Puts (encode (lent head events bytes rows pairs)) 0 d e i
unfolding lent
puts_sheet head events bytes rows pairs v {e} {f} {g} {h} {i} {a} {b} {c} {d} edition gap s w q k l m n =
    let y : gap ≡ row_bytes (edition_of head) = w ∙ ap row_bytes s in
    rw (sheet_split (lent head events bytes rows pairs), ← (rows_parts (edition_of head) rows), ← (pairs_parts pairs), ← q)
    (puts_then k (puts_then (subst (λ (z : ℕ). Puts (run 2 (event_value z) (each (description_no events bytes) (from 0 (length events / description_bytes)))) a b f g) s l)
    (puts_then (subst (λ (z : ℕ). Puts (run 3 (λ (u : List ℕ). u) (each (part z rows) (from 0 (length rows / z)))) b c g h) y m) n)))

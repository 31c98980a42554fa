-- Reading what was written gives the table back (02 §2), and what is written is refused only for what an entry of the table says. Both by one walk over the
-- fields: `Good` says what is to be shown of either answer, and the walk over a list of entries is handed what comes after it.
--     tag_here, value_here, next_here, fault_here, ..     the field at a seam of a sheet
--     head_number, event_number, row_number, pair_number     the numbers of faults
--     turn, walk                                          one field, a list of fields
--     up_to, more_events                                   the places of the first n events, of one more
--     read-back : parse (encode t) ≡ whole x → table_of x ≡ t
--     refused_stands : parse (encode t) ≡ refused n p → Stands t n p, which is Names t n p i for some i
-- Assumes nothing.
use mathlib.Core.Path.{◌≡◌, refl, sym, ap, ◌∙◌, subst}
use mathlib.Core.Bool.{Bool, true, false, cond}
use mathlib.Core.Logic.{◌⊎◌, inl, inr}
use mathlib.Core.List.{List, [], ◌∷◌, ◌++◌, append_assoc, append-nil}
use Prim.Native.Nat.{ℕ, zero, suc, ◌+◌, ◌*◌, ◌/◌, ◌%◌, ◌<◌, ◌≤◌}
use native.Mathlib.Omega.{arith}
use native.Mathlib.Nat.{div-add-mod', le_of_eq, mod-eq_of_lt, div-lt_iff_lt-mul}
use borrow.Author.Tests.{ltb-false, le-ltb}
use lib.Dec.{eqb, ltb}
use lib.ListN.{length, get_or, take, drop, length-append}
use lib.Seq.{get_or-append_seam, get_or-append-add, drop-append-add, take-append_seam}
use Rattle.basis.specs.Test.{non, each, from}
use Rattle.basis.proofs.ListLaws.{from_more, each_length, each_more, each_at}
use Rattle.format.specs.Limits.{max_bytes, max_pairs}
use Rattle.format.specs.Field.{field_bytes, tag_at, length_at, next_at, value_at}
use Rattle.format.specs.declared.Head.{Head}
use Rattle.format.specs.declared.Row.{Row}
use Rattle.format.specs.declared.Pair.{Pair}
use Rattle.format.specs.Execution.{Execution}
use Rattle.format.specs.Layout.{head_bytes, event_bytes, data_bytes, row_bytes, agent_of, shape_of, event_of}
use Rattle.content.specs.Content.{head_fits, event_fits, room_for, row_fits, pair_fits}
use Rattle.parse.specs.Parse.{Parsed, refused, whole, State, place_of, blank, allowed, head_fault, event_fault_by, row_fault, pair_fault, value_fault, value_fault_by, fault_at, fault_by, taken, after, finish, fields_from, parse}
use Rattle.parse.proofs.RefusalLaws.{refusal_number}
use Rattle.parse.proofs.ParseLaws.{Finished, headless, none_reads as no_reads, absent, rowless, complete, finished, at_end, at_fault, at_field}
use Rattle.parse.proofs.LackLaws.{lacking_there}
use Rattle.parse.proofs.WellSheetLaws.{allows_to}
use Rattle.encode.specs.Table.{Description, Table, describe, table_of}
use Rattle.encode.specs.Encode.{field, head_value, event_value, row_value, pair_value, run, encode}
use Rattle.encode.specs.Place.{before_events, before_rows, before_pairs, event_place, row_place, pair_place, OfEvent, OfPair, Names, too_long, at_head, none_reads, no_event, at_event, at_row, at_pair}
use Rattle.encode.proofs.EncodeLaws.{run_snoc, length_field, event_forth, sheet_split}

-- ---- the field at a seam

abbrev whole_sheet : List ℕ → ℕ → List ℕ → List ℕ → List ℕ
whole_sheet pre tag v rest = pre ++ (field tag v ++ rest)

-- the length of a sheet with a field in it
seam_long : (pre : List ℕ) (tag : ℕ) (v rest : List ℕ) → length (pre ++ (field tag v ++ rest)) ≡ length pre + (3 + length v + length rest)
seam_long pre tag v rest =
    length-append pre (field tag v ++ rest) ∙ ap (λ (n : ℕ). length pre + n) (length-append (field tag v) rest ∙ ap (λ (n : ℕ). n + length rest) (length_field tag v))

-- in a sheet of 4,096 bytes two bytes hold the length of each value
pub seam_short : (s pre : List ℕ) (tag : ℕ) (v rest : List ℕ) → s ≡ pre ++ (field tag v ++ rest) → length s ≤ max_bytes → length v ≤ max_bytes
seam_short s pre tag v rest e h = let l = seam_long pre tag v rest in let m = ap length e in omega arith

module _ (pre : List ℕ) (tag : ℕ) (v rest : List ℕ) where
  pub tag_here : tag_at (whole_sheet pre tag v rest) (length pre) ≡ tag
  unfolding field
  tag_here = get_or-append_seam pre tag _ 0

module _ (pre : List ℕ) (tag : ℕ) (v rest : List ℕ) (short : length v ≤ max_bytes) where
  abbrev sheet : List ℕ
  sheet = whole_sheet pre tag v rest

  pub length_here : length_at sheet (length pre) ≡ length v
  unfolding field
  length_here =
      ap (λ (k : ℕ). k * 256 + get_or sheet (length pre + 2) 0) (get_or-append-add pre (field tag v ++ rest) 1 0)
      ∙ ap (λ (k : ℕ). length v / 256 % 256 * 256 + k) (get_or-append-add pre (field tag v ++ rest) 2 0)
      ∙ ap (λ (k : ℕ). k * 256 + length v % 256) (let q : length v / 256 < 256 = (div-lt_iff_lt-mul (omega arith)).1 (omega arith) in mod-eq_of_lt q) ∙ div-add-mod' (length v) 256

  pub value_here : value_at sheet (length pre) ≡ v
  unfolding field value_at
  value_here =
      ap (λ (n : ℕ). take n (drop (length pre + 3) sheet)) length_here
      ∙ ap (λ (l : List ℕ). take (length v) l) (drop-append-add pre (field tag v ++ rest) 3) ∙ take-append_seam v rest

  pub next_here : next_at sheet (length pre) ≡ length (pre ++ field tag v)
  next_here = ap (λ (n : ℕ). length pre + 3 + n) length_here ∙ sym (length-append pre (field tag v) ∙ ap (λ (n : ℕ). length pre + n) (length_field tag v) ∙ omega arith)

  pub before_end : length pre < length sheet
  before_end = let e = seam_long pre tag v rest in omega arith

  pub fault_here : (st : State) → allowed st.tag tag ≡ true → fault_at sheet (length pre) st ≡ value_fault st.got tag v
  unfolding fault_by non
  fault_here st h =
      let e = seam_long pre tag v rest in
      let n = length_here in
      let a : ltb (length sheet) (length pre + field_bytes) ≡ false = le-ltb (length sheet) (length pre + field_bytes) (omega arith) in
      let b : ltb (length sheet) (next_at sheet (length pre)) ≡ false = le-ltb (length sheet) (next_at sheet (length pre)) (omega arith) in
      simp (a, tag_here pre tag v rest, h, b, value_here)

  pub after_here : (st : State) → (after sheet (length pre) st).tag ≡ tag
  unfolding after
  after_here st = tag_here pre tag v rest

  pub got_here : (st : State) → (after sheet (length pre) st).got ≡ taken st.got tag v
  unfolding after
  got_here st = rw (tag_here pre tag v rest, value_here)

  pub places_here : (st : State) → (after sheet (length pre) st).places ≡ cond (eqb tag 2) (st.places ++ (length pre ∷ [])) st.places
  unfolding after
  places_here st = rw (tag_here pre tag v rest)

-- ---- what is to be shown of an answer

-- a refusal at place p, whatever its index
abbrev pub Stands : Table → ℕ → ℕ → Type 0
Stands t n p = (i : ℕ) × Names t n p i

abbrev Good : Table → Parsed → Type 0
Good t (refused n p) = 1 ≤ n → Stands t n p
Good t (whole x) = table_of x ≡ t

no_fuel : (t : Table) (s : List ℕ) (p : ℕ) (st : State) → Good t (fields_from s zero p st)
unfolding fields_from
no_fuel t s p st = λ h. absurd (omega arith)

-- ---- the numbers of faults

pub head_number : (x : Execution) (h : Head) (n : ℕ) → value_fault x 1 (head_value h) ≡ suc n → suc n ≡ 5
unfolding value_fault_by head_fault head_bytes non
head_number x h n = go (head_fits h)
  where
    go : (a : Bool) → cond (non a) 5 0 ≡ suc n → suc n ≡ 5
    go true e = absurd (omega arith)
    go false e = sym e

pub event_number : (x : Execution) (v : List ℕ) (n : ℕ) → value_fault x 2 v ≡ suc n → OfEvent (suc n)
unfolding value_fault_by event_fault_by
event_number x v n =
    go (ltb (length v) (event_bytes x.head.edition)) (non (event_fits x.head x.events (agent_of v) (shape_of x.head.edition v)))
    (non (eqb (length v) (event_bytes x.head.edition + data_bytes (shape_of x.head.edition v)))) (non (room_for x.events (agent_of v)))
  where
    go : (a b c d : Bool) → cond a 4 (cond b 6 (cond c 4 (cond d 9 0))) ≡ suc n → OfEvent (suc n)
    go true b c d e = inl (sym e)
    go false true c d e = inr (inl (sym e))
    go false false true d e = inl (sym e)
    go false false false true e = inr (inr (inl (sym e)))
    go false false false false e = absurd (omega arith)

pub row_number : (edition : ℕ) (x : Execution) (r : Row) (n : ℕ) → value_fault x 3 (row_value edition r) ≡ suc n → suc n ≡ 7
unfolding value_fault_by row_fault row_bytes non
row_number edition x r n = go (row_fits x.events x.rows r)
  where
    go : (a : Bool) → cond (non a) 7 0 ≡ suc n → suc n ≡ 7
    go true e = absurd (omega arith)
    go false e = sym e

pub pair_number : (x : Execution) (p : Pair) (n : ℕ) → value_fault x 4 (pair_value p) ≡ suc n → OfPair (suc n)
unfolding value_fault_by pair_fault non
pair_number x p n = go (pair_fits x.events x.pairs p) (ltb (length x.pairs) max_pairs)
  where
    go : (a b : Bool) → cond (non a) 8 (cond (non b) 9 0) ≡ suc n → OfPair (suc n)
    go true true e = absurd (omega arith)
    go true false e = inr (sym e)
    go false b e = inl (sym e)

-- ---- one field

module _ (t : Table) (pre : List ℕ) (tag : ℕ) (v rest : List ℕ) (short : length v ≤ max_bytes) (st : State) (h : allowed st.tag tag ≡ true)
    (faulty : (n : ℕ) → value_fault st.got tag v ≡ suc n → Stands t (suc n) (place_of (suc n) (length pre))) where
  abbrev Goes : List ℕ → Type 0
  Goes s = (k : ℕ) (st₁ : State) → st₁.tag ≡ tag → st₁.got ≡ taken st.got tag v → st₁.places ≡ cond (eqb tag 2) (st.places ++ (length pre ∷ [])) st.places
      → Good t (fields_from s k (length (pre ++ field tag v)) st₁)

  turn_here : (value_fault st.got tag v ≡ 0 → Goes (whole_sheet pre tag v rest)) → (k : ℕ) → Good t (fields_from (whole_sheet pre tag v rest) k (length pre) st)
  turn_here again zero = no_fuel t (whole_sheet pre tag v rest) (length pre) st
  turn_here again (suc k) = go (value_fault st.got tag v) refl
    where
      go : (n : ℕ) → value_fault st.got tag v ≡ n → Good t (fields_from (whole_sheet pre tag v rest) (suc k) (length pre) st)
      go zero e =
          subst (Good t) (sym (at_field (whole_sheet pre tag v rest) k (length pre) st (before_end pre tag v rest short) (fault_here pre tag v rest short st h ∙ e)))
          (subst (λ (q : ℕ). Good t (fields_from (whole_sheet pre tag v rest) k q (after (whole_sheet pre tag v rest) (length pre) st))) (sym (next_here pre tag v rest short))
          (again e k (after (whole_sheet pre tag v rest) (length pre) st) (after_here pre tag v rest short st) (got_here pre tag v rest short st) (places_here pre tag v rest short st)))
      go (suc n) e =
          subst (Good t) (sym (at_fault (whole_sheet pre tag v rest) k (length pre) st (suc n) (before_end pre tag v rest short) (fault_here pre tag v rest short st h ∙ e) (λ d. omega arith)))
          (λ _. faulty n e)

  turn : (s : List ℕ) → s ≡ whole_sheet pre tag v rest → (value_fault st.got tag v ≡ 0 → Goes s) → (k : ℕ) → Good t (fields_from s k (length pre) st)
  turn s e again k =
      subst (λ (u : List ℕ). (value_fault st.got tag v ≡ 0 → Goes u) → Good t (fields_from u k (length pre) st)) (sym e) (λ g. turn_here g k) again

-- ---- a list of fields

-- what has been read when the entries `done` are behind
record Read (t : Table) (part : Table) (places : List ℕ) (st : State) : Type 0 where
  got : table_of st.got ≡ part
  at : st.places ≡ places

pub front_of : {A : Type 0} (done todo every : List A) → done ++ todo ≡ every → take (length done) every ≡ done
front_of done todo every e = subst (λ (l : List _). take (length done) l ≡ done) e (take-append_seam done todo)

pub count_of : {A : Type 0} (done : List A) (a : A) (todo every : List A) → done ++ (a ∷ todo) ≡ every → length done < length every
count_of done a todo every e = let l = length-append done (a ∷ todo) in let m = ap length e in omega arith

module _ {A : Type 0} (t : Table) (s base rest : List ℕ) (len : length s ≤ max_bytes) (tag : ℕ) (value : A → List ℕ) (every : List A) (part : List A → Table) (places : List A → List ℕ)
    (low : 1 ≤ tag) (allows : (n : ℕ) → 1 ≤ n → n ≤ tag → allowed n tag ≡ true)
    (faulty : (x : Execution) (a : A) (i n : ℕ) → i < length every → value_fault x tag (value a) ≡ suc n → Stands t (suc n) (place_of (suc n) (length (base ++ run tag value (take i every)))))
    (step : (x : Execution) (done : List A) (a : A) → table_of x ≡ part done → value_fault x tag (value a) ≡ 0 → table_of (taken x tag (value a)) ≡ part (done ++ (a ∷ [])))
    (more : (done : List A) (a : A) (l : List ℕ) → take (length done) every ≡ done → l ≡ places done
    → cond (eqb tag 2) (l ++ (length (base ++ run tag value done) ∷ [])) l ≡ places (done ++ (a ∷ [])))
    (end : (k : ℕ) (st : State) → 1 ≤ st.tag → st.tag ≤ tag → Read t (part every) (places every) st → Good t (fields_from s k (length (base ++ run tag value every)) st)) where
  walk : (todo done : List A) → done ++ todo ≡ every → s ≡ (base ++ run tag value done) ++ (run tag value todo ++ rest)
      → (k : ℕ) (st : State) → 1 ≤ st.tag → st.tag ≤ tag → Read t (part done) (places done) st → Good t (fields_from s k (length (base ++ run tag value done)) st)
  unfolding run
  walk [] done d e k st a b g =
      let q : done ≡ every = sym (append-nil done) ∙ d in
      subst (λ (l : List A). Good t (fields_from s k (length (base ++ run tag value l)) st)) (sym q) (end k st a b (subst (λ (l : List A). Read t (part l) (places l) st) q g))
  walk (x ∷ todo) done d e k st a b g =
      let here : s ≡ (base ++ run tag value done) ++ (field tag (value x) ++ (run tag value todo ++ rest)) =
      e ∙ ap (λ (l : List ℕ). (base ++ run tag value done) ++ l) (append_assoc (field tag (value x)) (run tag value todo) rest) in
      let f = front_of done (x ∷ todo) every d in
      let longer : (base ++ run tag value done) ++ field tag (value x) ≡ base ++ run tag value (done ++ (x ∷ [])) =
      append_assoc base (run tag value done) (field tag (value x)) ∙ ap (λ (l : List ℕ). base ++ l) (sym (run_snoc tag value done x)) in
      turn t (base ++ run tag value done) tag (value x) (run tag value todo ++ rest)
      (seam_short s (base ++ run tag value done) tag (value x) (run tag value todo ++ rest) here len) st (allows st.tag a b)
      (λ n z. subst (λ (l : List A). Stands t (suc n) (place_of (suc n) (length (base ++ run tag value l)))) f (faulty st.got x (length done) n (count_of done x todo every d) z))
      s here
      (λ z k₁ st₁ q r p.
      subst (λ (l : List ℕ). Good t (fields_from s k₁ (length l) st₁)) (sym longer)
      (walk todo (done ++ (x ∷ [])) (append_assoc done (x ∷ []) todo ∙ d)
      (here ∙ sym (append_assoc (base ++ run tag value done) (field tag (value x)) (run tag value todo ++ rest)) ∙ ap (λ (l : List ℕ). l ++ (run tag value todo ++ rest)) longer)
      k₁ st₁ (omega arith) (omega arith)
      (record { got = ap table_of r ∙ step st.got done x g.got z; at = p ∙ more done x st.places f g.at }))) k

  -- from the first entry on
  walk_all : s ≡ base ++ (run tag value every ++ rest) → (k : ℕ) (st : State) → 1 ≤ st.tag → st.tag ≤ tag → Read t (part []) (places []) st → Good t (fields_from s k (length base) st)
  unfolding run
  walk_all e k st a b g =
      subst (λ (l : List ℕ). Good t (fields_from s k (length l) st)) (append-nil base)
      (walk every [] refl (e ∙ ap (λ (l : List ℕ). l ++ (run tag value every ++ rest)) (sym (append-nil base))) k st a b g)

-- ---- the whole table

abbrev table : Head → List Description → List Row → List Pair → Table
table h events rows pairs = record { head = h; events = events; rows = rows; pairs = pairs }

-- what was read has the table's head
head_of : (x : Execution) (h : Head) (events : List Description) (rows : List Row) (pairs : List Pair) → table_of x ≡ table h events rows pairs → x.head ≡ h
unfolding table_of
head_of x h events rows pairs e = ap (λ (u : Table). u.head) e

step_event : (h : Head) (x : Execution) (done : List Description) (d : Description) → table_of x ≡ table h done [] [] → value_fault x 2 (event_value h.edition d) ≡ 0
    → table_of (taken x 2 (event_value h.edition d)) ≡ table h (done ++ (d ∷ [])) [] []
unfolding table_of taken value_fault_by
step_event h x done d e f =
    let q = head_of x h done [] [] e in
    let g : describe (event_of x.head.edition (event_value h.edition d)) ≡ d =
    subst (λ (u : Head). value_fault x 2 (event_value u.edition d) ≡ 0 → describe (event_of x.head.edition (event_value u.edition d)) ≡ d) q
    (λ c. event_forth x.head x.events d c) f in
    rw (each_more describe x.events (event_of x.head.edition (event_value h.edition d)), g)
    (ap (λ (u : Table). table u.head (u.events ++ (d ∷ [])) u.rows u.pairs) e)

step_row : (h : Head) (events : List Description) (x : Execution) (done : List Row) (r : Row) → table_of x ≡ table h events done [] → value_fault x 3 (row_value h.edition r) ≡ 0
    → table_of (taken x 3 (row_value h.edition r)) ≡ table h events (done ++ (r ∷ [])) []
unfolding table_of taken
step_row h events x done r e f = ap (λ (u : Table). table u.head u.events (u.rows ++ (r ∷ [])) u.pairs) e

step_pair : (h : Head) (events : List Description) (rows : List Row) (x : Execution) (done : List Pair) (p : Pair) → table_of x ≡ table h events rows done
    → value_fault x 4 (pair_value p) ≡ 0 → table_of (taken x 4 (pair_value p)) ≡ table h events rows (done ++ (p ∷ []))
unfolding table_of taken
step_pair h events rows x done p e f = ap (λ (u : Table). table u.head u.events u.rows (u.pairs ++ (p ∷ []))) e

-- ---- the places of the events

abbrev pub up_to : Table → ℕ → List ℕ
up_to t n = each (event_place t) (from 0 n)

pub more_events : (t : Table) (done : List Description) (d : Description) (l : List ℕ) → take (length done) t.events ≡ done → l ≡ up_to t (length done)
    → l ++ (length (before_events t ++ run 2 (event_value t.head.edition) done) ∷ []) ≡ up_to t (length (done ++ (d ∷ [])))
unfolding event_place
more_events t done d l f e =
    let n : length (done ++ (d ∷ [])) ≡ length done + 1 = length-append done (d ∷ []) in
    rw (n, from_more (length done), each_more (event_place t) (from 0 (length done)) (length done), f, e) refl

-- ---- after all fields

good_finish : (t : Table) (st : State) → 1 ≤ st.tag → Read t t (up_to t (length t.events)) st → Good t (finish (encode t) st)
unfolding table_of
good_finish t st h r = go (finished (encode t) st)
  where
    many : length st.got.events ≡ length t.events
    many = sym (each_length describe st.got.events) ∙ ap (λ (u : Table). length u.events) r.got

    go : {v : Parsed} → Finished (encode t) st v → Good t v
    go (headless z) = absurd (omega arith)
    go (no_reads z a) = λ _. (0, none_reads)
    go (absent z a m) = λ _. (0, no_event)
    go (rowless e z a m l) =
        let b = lacking_there st.got e l in
        let c = many in
        let p : get_or st.places e 0 ≡ event_place t e =
        ap (λ (u : List ℕ). get_or u e 0) r.at ∙ each_at (event_place t) (length t.events) 0 e 0 (omega arith) ∙ ap (event_place t) (omega arith) in
        λ _. (e, subst (λ (j : ℕ). Names t 11 (place_of 11 j) e) (sym p) (at_event e (omega arith) (inr (inr (inr refl)))))
    go (complete z a m l) = r.got

-- ---- one list after another

module _ (t : Table) where
  abbrev edition : ℕ
  edition = t.head.edition

  faulty_pair : (x : Execution) (p : Pair) (i n : ℕ) → i < length t.pairs → value_fault x 4 (pair_value p) ≡ suc n
      → Stands t (suc n) (place_of (suc n) (length (before_pairs t ++ run 4 pair_value (take i t.pairs))))
  unfolding pair_place
  faulty_pair x p i n h e = (i, at_pair i h (pair_number x p n e))

  faulty_row : (x : Execution) (r : Row) (i n : ℕ) → i < length t.rows → value_fault x 3 (row_value edition r) ≡ suc n
      → Stands t (suc n) (place_of (suc n) (length (before_rows t ++ run 3 (row_value edition) (take i t.rows))))
  unfolding row_place
  faulty_row x r i n h e = (i, subst (λ (m : ℕ). Names t m (place_of m (row_place t i)) i) (sym (row_number edition x r n e)) (at_row i h))

  faulty_event : (x : Execution) (d : Description) (i n : ℕ) → i < length t.events → value_fault x 2 (event_value edition d) ≡ suc n
      → Stands t (suc n) (place_of (suc n) (length (before_events t ++ run 2 (event_value edition) (take i t.events))))
  unfolding event_place
  faulty_event x d i n h e = (i, at_event i h (event_number x (event_value edition d) n e))

  pub whole_pairs : encode t ≡ before_pairs t ++ run 4 pair_value t.pairs
  unfolding encode
  whole_pairs = simp append_assoc

  pub whole_rows : encode t ≡ before_rows t ++ (run 3 (row_value edition) t.rows ++ run 4 pair_value t.pairs)
  unfolding encode
  whole_rows = simp append_assoc

  pub all_pairs : encode t ≡ before_pairs t ++ (run 4 pair_value t.pairs ++ [])
  all_pairs = whole_pairs ∙ ap (λ (l : List ℕ). before_pairs t ++ l) (sym (append-nil (run 4 pair_value t.pairs)))

  module _ (len : length (encode t) ≤ max_bytes) where
    at_last : (k : ℕ) (st : State) → 1 ≤ st.tag → st.tag ≤ 4 → Read t t (up_to t (length t.events)) st
        → Good t (fields_from (encode t) k (length (before_pairs t ++ run 4 pair_value t.pairs)) st)
    at_last zero st a b g = no_fuel t (encode t) (length (before_pairs t ++ run 4 pair_value t.pairs)) st
    at_last (suc k) st a b g =
        let l : length (encode t) ≤ length (before_pairs t ++ run 4 pair_value t.pairs) = le_of_eq (ap length whole_pairs) in
        subst (Good t) (sym (at_end (encode t) k (length (before_pairs t ++ run 4 pair_value t.pairs)) st l)) (good_finish t st a g)

    at_pairs : (k : ℕ) (st : State) → 1 ≤ st.tag → st.tag ≤ 3 → Read t (table t.head t.events t.rows []) (up_to t (length t.events)) st
        → Good t (fields_from (encode t) k (length (before_pairs t)) st)
    at_pairs k st a b g =
        walk_all t (encode t) (before_pairs t) [] len 4 pair_value t.pairs (table t.head t.events t.rows) (λ _. up_to t (length t.events)) (omega arith) (λ n. allows_to 4 n (inr (inr refl))) faulty_pair
        (step_pair t.head t.events t.rows) (λ done p l f e. e) at_last all_pairs k st a (omega arith) g

    at_rows : (k : ℕ) (st : State) → 1 ≤ st.tag → st.tag ≤ 2 → Read t (table t.head t.events [] []) (up_to t (length t.events)) st
        → Good t (fields_from (encode t) k (length (before_rows t)) st)
    at_rows k st a b g =
        walk_all t (encode t) (before_rows t) (run 4 pair_value t.pairs) len 3 (row_value edition) t.rows (λ (l : List Row). table t.head t.events l []) (λ _. up_to t (length t.events))
        (omega arith) (λ n. allows_to 3 n (inr (inl refl))) faulty_row (step_row t.head t.events) (λ done r l f e. e) at_pairs whole_rows k st a (omega arith) g

    at_events : (k : ℕ) (st : State) → 1 ≤ st.tag → st.tag ≤ 2 → Read t (table t.head [] [] []) [] st → Good t (fields_from (encode t) k (length (before_events t)) st)
    unfolding each from
    at_events k st a b g =
        walk_all t (encode t) (before_events t) (run 3 (row_value edition) t.rows ++ run 4 pair_value t.pairs) len 2 (event_value edition) t.events (λ (l : List Description). table t.head l [] [])
        (λ (l : List Description). up_to t (length l)) (omega arith) (λ n. allows_to 2 n (inl refl)) faulty_event (step_event t.head) (more_events t) at_rows (sheet_split t) k st a b g

    head_first : (k : ℕ) → Good t (fields_from (encode t) k 0 blank)
    unfolding allowed table_of taken each
    head_first k =
        turn t [] 1 (head_value t.head) (run 2 (event_value edition) t.events ++ (run 3 (row_value edition) t.rows ++ run 4 pair_value t.pairs)) (omega arith) blank refl
        (λ n e. (0, subst (λ (m : ℕ). Names t m (place_of m 0) 0) (sym (head_number blank.got t.head n e)) at_head))
        (encode t) (sheet_split t)
        (λ f k₁ st₁ q r p. at_events k₁ st₁ (omega arith) (omega arith) (record { got = ap table_of r; at = p })) k

  good : Good t (parse (encode t))
  unfolding parse
  good = go (ltb max_bytes (length (encode t))) refl
    where
      go : (b : Bool) → ltb max_bytes (length (encode t)) ≡ b → Good t (cond b (refused 1 0) (fields_from (encode t) (suc (length (encode t))) 0 blank))
      go true q = λ _. (0, too_long)
      go false q = head_first (ltb-false _ _ q) (suc (length (encode t)))

  pub read_back : (x : Execution) → parse (encode t) ≡ whole x → table_of x ≡ t
  read_back x e = subst (Good t) e good

  pub refused_stands : (n p : ℕ) → parse (encode t) ≡ refused n p → Stands t n p
  refused_stands n p e = subst (Good t) e good (some_number (refusal_number (encode t) n p e))
    where
      some_number : ((1 ≤ n) × (n ≤ 11)) ⊎ (n ≡ 14) → 1 ≤ n
      some_number (inl b) = b.0
      some_number (inr q) = omega arith

-- What the reader says of a table that keeps to 01's rule, at edition 1 and at edition 2, is the same, places aside: both sheets are walked in step, and
-- each field is at fault in both or in neither, by the same number. Laws of specs/Copy.antt. Assumes nothing.
--     event_plain, fault_plain     what a description that keeps to the rule says, at either edition: the same event, the same fault
--     copy_alike                           the claim CopyAlike            copy_long     the copy is longer by a byte for each event
use mathlib.Core.Path.{◌≡◌, refl, sym, ap, ◌∙◌, subst}
use mathlib.Core.Logic.{◌⊎◌, inl, inr}
use mathlib.Core.Bool.{Bool, true, false, cond}
use mathlib.Core.List.{List, [], ◌∷◌, ◌++◌, append_assoc, append-nil, Memᴰ}
use mathlib.Core.Option.{Option, none, some}
use Prim.Native.Nat.{ℕ, zero, suc, ◌+◌, ◌<◌, ◌≤◌}
use native.Mathlib.Omega.{arith}
use native.Mathlib.Nat.{le_of_eq}
use borrow.Author.Tests.{eqb-true, eqb-false, eq-eqb, ne_eqb, le-ltb}
use lib.Dec.{eqb, ltb}
use lib.ListN.{length, get_or, take, length-append}
use Rattle.basis.specs.Test.{non, any, each, from}
use Rattle.basis.proofs.ListLaws.{each_at}
use Rattle.format.specs.declared.Head.{Head}
use Rattle.format.specs.declared.Shape.{Shape}
use Rattle.format.specs.declared.Row.{Row}
use Rattle.format.specs.declared.Pair.{Pair}
use Rattle.format.specs.Limits.{max_bytes}
use Rattle.format.specs.Shape.{tear_of}
use Rattle.format.specs.Event.{Event, reads_some}
use Rattle.format.specs.Execution.{Execution, with_head, at_edition}
use Rattle.format.specs.Layout.{head_bytes, event_bytes, tear_by, data_bytes, row_bytes, agent_of, shape_of, event_of}
use Rattle.content.specs.Content.{within, head_fits, alone, event_fits, room_for}
use Rattle.parse.specs.Parse.{Parsed, refused, whole, State, place_of, blank, allowed, head_fault, event_fault, event_fault_by, row_fault, value_fault, value_fault_by, taken, after, missing, lowest_lacking, completed, finish, fields_from, parse}
use Rattle.parse.proofs.ParseLaws.{at_end, at_fault, at_field}
use Rattle.parse.proofs.RefusalLaws.{refusal_number}
use Rattle.parse.proofs.LackLaws.{lacking_there}
use Rattle.parse.proofs.WellSheetLaws.{allows_to}
use Rattle.encode.specs.Table.{Description, Table}
use Rattle.encode.specs.Encode.{field, kind_byte, head_value, event_value, row_value, pair_value, run, encode}
use Rattle.encode.specs.Place.{before_events, before_rows, before_pairs, event_place, row_place, pair_place, Names, at_head, none_reads, no_event, at_event, at_row, at_pair}
use Rattle.encode.specs.Copy.{table_at, ByTheRule, Alike, refused_alike, whole_alike, CopyAlike}
use Rattle.encode.proofs.EncodeLaws.{run_snoc, length_field, spread, event_spread, laid_agent, laid_data, said_long, said_shape, sheet_split}
use Rattle.encode.proofs.ReadBack.{seam_short, before_end, fault_here, next_here, after_here, got_here, places_here, head_number, event_number, row_number, pair_number, front_of, count_of, up_to, more_events, whole_pairs, whole_rows, all_pairs}

-- ---- an event

module _ (d : Description) (rule : d.tear ≡ tear_of d.kind d.mode d.start d.width) where
  abbrev plain : Shape
  plain = record { kind = d.kind; mode = d.mode; start = d.start; width = d.width; tear = d.tear }

  -- either edition says its tear byte
  tear_plain : (edition : ℕ) → tear_by edition d.kind d.mode d.start d.width d.tear ≡ d.tear
  unfolding tear_by
  tear_plain edition = go (eqb edition 2)
    where
      go : (c : Bool) → cond c d.tear (tear_of d.kind d.mode d.start d.width) ≡ d.tear
      go true = refl
      go false = sym rule

  kind_plain : (edition : ℕ) → kind_byte edition d ≡ d.kind
  unfolding kind_byte
  kind_plain edition = rw (eq-eqb _ _ (sym (tear_plain edition))) refl

  shape_plain : (edition : ℕ) → shape_of edition (event_value edition d) ≡ plain
  shape_plain edition =
      said_shape edition d
      ∙ ap (λ (k : ℕ). record { kind = k; mode = d.mode; start = d.start; width = d.width; tear = tear_by edition k d.mode d.start d.width d.tear }) (kind_plain edition)
      ∙ ap (λ (t : ℕ). record { kind = d.kind; mode = d.mode; start = d.start; width = d.width; tear = t }) (tear_plain edition)

  agent_plain : (edition : ℕ) → agent_of (event_value edition d) ≡ d.agent
  agent_plain edition = laid_agent edition d.agent (kind_byte edition d) d.mode d.start d.width d.tear d.bytes

  event_plain : (edition : ℕ) → event_of edition (event_value edition d) ≡ spread d.agent plain d.bytes
  event_plain edition =
      event_spread edition d.agent plain d.bytes (event_value edition d) (agent_plain edition) (shape_plain edition)
      (laid_data edition d.agent (kind_byte edition d) d.mode d.start d.width d.tear d.bytes)

  -- its fault, by what it says
  abbrev toll : Head → List Event → ℕ
  toll h events =
      cond (non (event_fits h events d.agent plain)) 6 (cond (non (eqb (length d.bytes) (data_bytes plain))) 4 (cond (non (room_for events d.agent)) 9 0))

  same_length : (a m n : ℕ) → eqb (a + m) (a + n) ≡ eqb m n
  same_length a m n = go (eqb m n) refl
    where
      go : (b : Bool) → eqb m n ≡ b → eqb (a + m) (a + n) ≡ b
      go true e = eq-eqb _ _ (ap (λ (k : ℕ). a + k) (eqb-true m n e))
      go false e = let f = eqb-false m n e in let g : a + m ≡ a + n → ⊥ = λ (q : a + m ≡ a + n). f (omega arith) in ne_eqb _ _ g

  fault_plain : (h : Head) (events : List Event) → event_fault h events (event_value h.edition d) ≡ toll h events
  unfolding event_fault_by
  fault_plain h events =
      let l = said_long h.edition d in
      let a : ltb (length (event_value h.edition d)) (event_bytes h.edition) ≡ false = le-ltb (length (event_value h.edition d)) (event_bytes h.edition) (omega arith) in
      rw (a, agent_plain h.edition, shape_plain h.edition, l, same_length (event_bytes h.edition) (length d.bytes) (data_bytes plain)) refl

  fault_same : (h : Head) (events : List Event) → event_fault (at_edition 2 h) events (event_value 2 d) ≡ event_fault h events (event_value h.edition d)
  unfolding event_fits alone
  fault_same h events = fault_plain (at_edition 2 h) events ∙ sym (fault_plain h events)

-- ---- two answers

abbrev second : Execution → Execution
second x = with_head x (at_edition 2 x.head)

-- alike, or one of the walks was cut short
data Near (t u : Table) : Parsed → Parsed → Type 0 where
  spent_left : (q : Parsed) → Near t u (refused 0 0) q
  spent_right : (p : Parsed) → Near t u p (refused 0 0)
  near : {p q : Parsed} → Alike t u p q → Near t u p q

near_by : (t u : Table) {p p₁ q q₁ : Parsed} → p ≡ p₁ → q ≡ q₁ → Near t u p₁ q₁ → Near t u p q
near_by t u {p} {p₁} {q} {q₁} e f n = subst (λ (a : Parsed). Near t u a q) (sym e) (subst (λ (b : Parsed). Near t u p₁ b) (sym f) n)

-- a fault at two places is that of one entry
abbrev Named : Table → Table → ℕ → ℕ → ℕ → Type 0
Named t u n p q = (i : ℕ) × Names t n (place_of n p) i × Names u n (place_of n q) i

-- ---- one field

module _ (t u : Table) (pre pre' : List ℕ) (tag : ℕ) (v v' rest rest' : List ℕ) (short : length v ≤ max_bytes) (short' : length v' ≤ max_bytes) (st st' : State)
    (h : allowed st.tag tag ≡ true) (h' : allowed st'.tag tag ≡ true) (same : value_fault st'.got tag v' ≡ value_fault st.got tag v)
    (faulty : (n : ℕ) → value_fault st.got tag v ≡ suc n → Named t u (suc n) (length pre) (length pre')) where
  abbrev Goes : List ℕ → List ℕ → Type 0
  Goes s s' = (k k' : ℕ) (st₁ st₁' : State) → st₁.tag ≡ tag → st₁'.tag ≡ tag → st₁.got ≡ taken st.got tag v → st₁'.got ≡ taken st'.got tag v'
      → st₁.places ≡ cond (eqb tag 2) (st.places ++ (length pre ∷ [])) st.places → st₁'.places ≡ cond (eqb tag 2) (st'.places ++ (length pre' ∷ [])) st'.places
      → Near t u (fields_from s k (length (pre ++ field tag v)) st₁) (fields_from s' k' (length (pre' ++ field tag v')) st₁')

  abbrev here : List ℕ
  here = pre ++ (field tag v ++ rest)

  abbrev here' : List ℕ
  here' = pre' ++ (field tag v' ++ rest')

  turn_here : (value_fault st.got tag v ≡ 0 → Goes here here') → (k k' : ℕ) → Near t u (fields_from here k (length pre) st) (fields_from here' k' (length pre') st')
  unfolding fields_from
  turn_here again zero k' = spent_left _
  turn_here again (suc k) zero = spent_right _
  turn_here again (suc k) (suc k') = go (value_fault st.got tag v) refl
    where
      go : (n : ℕ) → value_fault st.got tag v ≡ n → Near t u (fields_from here (suc k) (length pre) st) (fields_from here' (suc k') (length pre') st')
      go zero e =
          near_by t u
          (at_field here k (length pre) st (before_end pre tag v rest short) (fault_here pre tag v rest short st h ∙ e)
          ∙ ap (λ (q : ℕ). fields_from here k q (after here (length pre) st)) (next_here pre tag v rest short))
          (at_field here' k' (length pre') st' (before_end pre' tag v' rest' short') (fault_here pre' tag v' rest' short' st' h' ∙ same ∙ e)
          ∙ ap (λ (q : ℕ). fields_from here' k' q (after here' (length pre') st')) (next_here pre' tag v' rest' short'))
          (again e k k' (after here (length pre) st) (after here' (length pre') st') (after_here pre tag v rest short st) (after_here pre' tag v' rest' short' st')
          (got_here pre tag v rest short st) (got_here pre' tag v' rest' short' st') (places_here pre tag v rest short st) (places_here pre' tag v' rest' short' st'))
      go (suc n) e =
          let w = faulty n e in
          near_by t u
          (at_fault here k (length pre) st (suc n) (before_end pre tag v rest short) (fault_here pre tag v rest short st h ∙ e) (λ d. omega arith))
          (at_fault here' k' (length pre') st' (suc n) (before_end pre' tag v' rest' short') (fault_here pre' tag v' rest' short' st' h' ∙ same ∙ e) (λ d. omega arith))
          (near (refused_alike w.1 w.2))

  turn : (s s' : List ℕ) → s ≡ here → s' ≡ here' → (value_fault st.got tag v ≡ 0 → Goes s s') → (k k' : ℕ)
      → Near t u (fields_from s k (length pre) st) (fields_from s' k' (length pre') st')
  turn s s' e e' again k k' =
      subst (λ (a : List ℕ). (value_fault st.got tag v ≡ 0 → Goes a s') → Near t u (fields_from a k (length pre) st) (fields_from s' k' (length pre') st')) (sym e)
      (subst (λ (b : List ℕ). (value_fault st.got tag v ≡ 0 → Goes here b) → Near t u (fields_from here k (length pre) st) (fields_from b k' (length pre') st')) (sym e')
      (λ g. turn_here g k k')) again

-- ---- a list of fields

-- what both readers have read, where so many events stand behind them
record Both (t : Table) (count : ℕ) (places places' : List ℕ) (st st' : State) : Type 0 where
  tags : st'.tag ≡ st.tag
  got : st'.got ≡ second st.got
  head : st.got.head ≡ t.head
  many : length st.got.events ≡ count
  at : st.places ≡ places
  at' : st'.places ≡ places'

-- what one field more does to what was read
record Step (t : Table) (x x' : Execution) (count : ℕ) : Type 0 where
  got : x' ≡ second x
  head : x.head ≡ t.head
  many : length x.events ≡ count

module _ {A : Type 0} (t u : Table) (P : A → Type 0) (s s' base base' rest rest' : List ℕ) (len : length s ≤ max_bytes) (len' : length s' ≤ max_bytes) (tag : ℕ) (value value' : A → List ℕ) (every : List A)
    (places places' : List A → List ℕ) (count : List A → ℕ) (low : 1 ≤ tag) (allows : (n : ℕ) → 1 ≤ n → n ≤ tag → allowed n tag ≡ true)
    (same : (x : Execution) (a : A) → P a → x.head ≡ t.head → value_fault (second x) tag (value' a) ≡ value_fault x tag (value a))
    (faulty : (x : Execution) (a : A) (i n : ℕ) → i < length every → value_fault x tag (value a) ≡ suc n
    → Named t u (suc n) (length (base ++ run tag value (take i every))) (length (base' ++ run tag value' (take i every))))
    (step : (x : Execution) (done : List A) (a : A) → P a → x.head ≡ t.head → length x.events ≡ count done
    → Step t (taken x tag (value a)) (taken (second x) tag (value' a)) (count (done ++ (a ∷ []))))
    (more : (done : List A) (a : A) (l : List ℕ) → take (length done) every ≡ done → l ≡ places done
    → cond (eqb tag 2) (l ++ (length (base ++ run tag value done) ∷ [])) l ≡ places (done ++ (a ∷ [])))
    (more' : (done : List A) (a : A) (l : List ℕ) → take (length done) every ≡ done → l ≡ places' done
    → cond (eqb tag 2) (l ++ (length (base' ++ run tag value' done) ∷ [])) l ≡ places' (done ++ (a ∷ [])))
    (end : (k k' : ℕ) (st st' : State) → 1 ≤ st.tag → st.tag ≤ tag → Both t (count every) (places every) (places' every) st st'
    → Near t u (fields_from s k (length (base ++ run tag value every)) st) (fields_from s' k' (length (base' ++ run tag value' every)) st')) where
  longer : (value : A → List ℕ) (base : List ℕ) (done : List A) (x : A) → (base ++ run tag value done) ++ field tag (value x) ≡ base ++ run tag value (done ++ (x ∷ []))
  longer value base done x = append_assoc base (run tag value done) (field tag (value x)) ∙ ap (λ (l : List ℕ). base ++ l) (sym (run_snoc tag value done x))

  walk : (todo done : List A) → ((a : A) → Memᴰ a todo → P a) → done ++ todo ≡ every → s ≡ (base ++ run tag value done) ++ (run tag value todo ++ rest)
      → s' ≡ (base' ++ run tag value' done) ++ (run tag value' todo ++ rest') → (k k' : ℕ) (st st' : State) → 1 ≤ st.tag → st.tag ≤ tag
      → Both t (count done) (places done) (places' done) st st'
      → Near t u (fields_from s k (length (base ++ run tag value done)) st) (fields_from s' k' (length (base' ++ run tag value' done)) st')
  unfolding run
  walk [] done all d e e' k k' st st' a b g =
      let q : done ≡ every = sym (append-nil done) ∙ d in
      subst (λ (l : List A). Near t u (fields_from s k (length (base ++ run tag value l)) st) (fields_from s' k' (length (base' ++ run tag value' l)) st')) (sym q)
      (end k k' st st' a b (subst (λ (l : List A). Both t (count l) (places l) (places' l) st st') q g))
  walk (x ∷ todo) done all d e e' k k' st st' a b g =
      let here : s ≡ (base ++ run tag value done) ++ (field tag (value x) ++ (run tag value todo ++ rest)) =
      e ∙ ap (λ (l : List ℕ). (base ++ run tag value done) ++ l) (append_assoc (field tag (value x)) (run tag value todo) rest) in
      let here' : s' ≡ (base' ++ run tag value' done) ++ (field tag (value' x) ++ (run tag value' todo ++ rest')) =
      e' ∙ ap (λ (l : List ℕ). (base' ++ run tag value' done) ++ l) (append_assoc (field tag (value' x)) (run tag value' todo) rest') in
      let f = front_of done (x ∷ todo) every d in
      let p : P x = all x (Memᴰ.head refl) in
      let m = longer value base done x in
      let m' = longer value' base' done x in
      let w = step st.got done x p g.head g.many in
      turn t u (base ++ run tag value done) (base' ++ run tag value' done) tag (value x) (value' x) (run tag value todo ++ rest) (run tag value' todo ++ rest')
      (seam_short s (base ++ run tag value done) tag (value x) (run tag value todo ++ rest) here len)
      (seam_short s' (base' ++ run tag value' done) tag (value' x) (run tag value' todo ++ rest') here' len')
      st st' (allows st.tag a b) (allows st'.tag (subst (λ (n : ℕ). 1 ≤ n) (sym g.tags) a) (subst (λ (n : ℕ). n ≤ tag) (sym g.tags) b))
      (ap (λ (y : Execution). value_fault y tag (value' x)) g.got ∙ same st.got x p g.head)
      (λ n z. subst (λ (l : List A). Named t u (suc n) (length (base ++ run tag value l)) (length (base' ++ run tag value' l))) f (faulty st.got x (length done) n (count_of done x todo every d) z))
      s s' here here'
      (λ z k₁ k₁' st₁ st₁' q q' r r' c c'.
      subst (λ (l : List ℕ). Near t u (fields_from s k₁ (length l) st₁) (fields_from s' k₁' (length ((base' ++ run tag value' done) ++ field tag (value' x))) st₁')) (sym m)
      (subst (λ (l : List ℕ). Near t u (fields_from s k₁ (length (base ++ run tag value (done ++ (x ∷ [])))) st₁) (fields_from s' k₁' (length l) st₁')) (sym m')
      (walk todo (done ++ (x ∷ [])) (λ a i. all a (Memᴰ.tail i)) (append_assoc done (x ∷ []) todo ∙ d)
      (here ∙ sym (append_assoc (base ++ run tag value done) (field tag (value x)) (run tag value todo ++ rest)) ∙ ap (λ (l : List ℕ). l ++ (run tag value todo ++ rest)) m)
      (here' ∙ sym (append_assoc (base' ++ run tag value' done) (field tag (value' x)) (run tag value' todo ++ rest')) ∙ ap (λ (l : List ℕ). l ++ (run tag value' todo ++ rest')) m')
      k₁ k₁' st₁ st₁' (omega arith) (omega arith)
      (record {
        tags = q' ∙ sym q;
        got = r' ∙ ap (λ (y : Execution). taken y tag (value' x)) g.got ∙ w.got ∙ ap second (sym r);
        head = ap (λ (y : Execution). y.head) r ∙ w.head;
        many = ap (λ (y : Execution). length y.events) r ∙ w.many;
        at = c ∙ more done x st.places f g.at;
        at' = c' ∙ more' done x st'.places f g.at';
      })))) k k'

  walk_all : ((a : A) → Memᴰ a every → P a) → s ≡ base ++ (run tag value every ++ rest) → s' ≡ base' ++ (run tag value' every ++ rest') → (k k' : ℕ) (st st' : State) → 1 ≤ st.tag → st.tag ≤ tag
      → Both t (count []) (places []) (places' []) st st' → Near t u (fields_from s k (length base) st) (fields_from s' k' (length base') st')
  unfolding run
  walk_all all e e' k k' st st' a b g =
      subst (λ (l : List ℕ). Near t u (fields_from s k (length l) st) (fields_from s' k' (length base') st')) (append-nil base)
      (subst (λ (l : List ℕ). Near t u (fields_from s k (length (base ++ [])) st) (fields_from s' k' (length l) st')) (append-nil base')
      (walk every [] all refl (e ∙ ap (λ (l : List ℕ). l ++ (run tag value every ++ rest)) (sym (append-nil base))) (e' ∙ ap (λ (l : List ℕ). l ++ (run tag value' every ++ rest')) (sym (append-nil base'))) k k' st st' a b g))

-- ---- the whole table

module _ (t : Table) where
  abbrev u : Table
  u = table_at 2 t

  abbrev edition : ℕ
  edition = t.head.edition

  abbrev Kept : Description → Type 0
  Kept d = d.tear ≡ tear_of d.kind d.mode d.start d.width

  -- an event

  same_event : (x : Execution) (d : Description) → Kept d → x.head ≡ t.head → value_fault (second x) 2 (event_value 2 d) ≡ value_fault x 2 (event_value edition d)
  unfolding value_fault_by
  same_event x d k q =
      fault_same d k x.head x.events ∙ ap (λ (h : Head). event_fault x.head x.events (event_value h.edition d)) q

  step_event : (x : Execution) (done : List Description) (d : Description) → Kept d → x.head ≡ t.head → length x.events ≡ length done
      → Step t (taken x 2 (event_value edition d)) (taken (second x) 2 (event_value 2 d)) (length (done ++ (d ∷ [])))
  unfolding taken
  step_event x done d k q m =
      let e : event_of 2 (event_value 2 d) ≡ event_of x.head.edition (event_value edition d) =
      event_plain d k 2 ∙ sym (event_plain d k edition) ∙ ap (λ (h : Head). event_of h.edition (event_value edition d)) (sym q) in
      let a = length-append x.events (event_of x.head.edition (event_value edition d) ∷ []) in
      let b = length-append done (d ∷ []) in
      record {
        got = ap (λ (y : Event). record { head = at_edition 2 x.head; events = x.events ++ (y ∷ []); rows = x.rows; pairs = x.pairs }) e;
        head = q;
        many = omega arith;
      }

  faulty_event : (x : Execution) (d : Description) (i n : ℕ) → i < length t.events → value_fault x 2 (event_value edition d) ≡ suc n
      → Named t u (suc n) (length (before_events t ++ run 2 (event_value edition) (take i t.events))) (length (before_events u ++ run 2 (event_value 2) (take i t.events)))
  unfolding event_place
  faulty_event x d i n h e = let o = event_number x (event_value edition d) n e in (i, at_event i h o, at_event i h o)

  -- a row, a pair: their values are the same at both

  same_row : (x : Execution) (r : Row) → x.head ≡ t.head → value_fault (second x) 3 (row_value 2 r) ≡ value_fault x 3 (row_value edition r)
  unfolding value_fault_by row_fault row_bytes
  same_row x r q = refl

  step_row : (x : Execution) (r : Row) → x.head ≡ t.head → length x.events ≡ length t.events
      → Step t (taken x 3 (row_value edition r)) (taken (second x) 3 (row_value 2 r)) (length t.events)
  unfolding taken
  step_row x r q m = record { got = refl; head = q; many = m }

  faulty_row : (x : Execution) (r : Row) (i n : ℕ) → i < length t.rows → value_fault x 3 (row_value edition r) ≡ suc n
      → Named t u (suc n) (length (before_rows t ++ run 3 (row_value edition) (take i t.rows))) (length (before_rows u ++ run 3 (row_value 2) (take i t.rows)))
  unfolding row_place
  faulty_row x r i n h e =
      let z = sym (row_number edition x r n e) in
      (i, subst (λ (m : ℕ). Names t m (place_of m (row_place t i)) i) z (at_row i h), subst (λ (m : ℕ). Names u m (place_of m (row_place u i)) i) z (at_row i h))

  same_pair : (x : Execution) (p : Pair) → x.head ≡ t.head → value_fault (second x) 4 (pair_value p) ≡ value_fault x 4 (pair_value p)
  unfolding value_fault_by
  same_pair x p q = refl

  step_pair : (x : Execution) (p : Pair) → x.head ≡ t.head → length x.events ≡ length t.events
      → Step t (taken x 4 (pair_value p)) (taken (second x) 4 (pair_value p)) (length t.events)
  unfolding taken
  step_pair x p q m = record { got = refl; head = q; many = m }

  faulty_pair : (x : Execution) (p : Pair) (i n : ℕ) → i < length t.pairs → value_fault x 4 (pair_value p) ≡ suc n
      → Named t u (suc n) (length (before_pairs t ++ run 4 pair_value (take i t.pairs))) (length (before_pairs u ++ run 4 pair_value (take i t.pairs)))
  unfolding pair_place
  faulty_pair x p i n h e = let o = pair_number x p n e in (i, at_pair i h o, at_pair i h o)

  -- ---- after all fields

  abbrev Done : State → State → Type 0
  Done st st' = Both t (length t.events) (up_to t (length t.events)) (up_to u (length t.events)) st st'

  abbrev ends : List ℕ → State → Bool → Bool → Bool → Option ℕ → Parsed
  ends s st a b c o = cond a (refused 3 0) (cond (non b) (refused 10 (length s)) (cond c (refused 14 (length s)) (completed st o)))

  finish_alike : (st st' : State) → 1 ≤ st.tag → Done st st' → Near t u (finish (encode t) st) (finish (encode u) st')
  unfolding finish completed missing lowest_lacking non
  finish_alike st st' low g =
      near_by t u refl
      (ap (λ (n : ℕ). ends (encode u) st' (eqb n 0) (any reads_some st'.got.events) (missing st'.got) (lowest_lacking st'.got)) g.tags
      ∙ ap (λ (y : Execution). ends (encode u) st' (eqb st.tag 0) (any reads_some y.events) (missing y) (lowest_lacking y)) g.got)
      (go (eqb st.tag 0) refl (any reads_some st.got.events) (missing st.got) (lowest_lacking st.got) refl)
    where
      place : (v : Table) (l : List ℕ) (e : ℕ) → v.events ≡ t.events → l ≡ up_to v (length t.events) → e < length t.events → get_or l e 0 ≡ event_place v e
      place v l e z q b =
          ap (λ (k : List ℕ). get_or k e 0) q ∙ each_at (event_place v) (length t.events) 0 e 0 (omega arith) ∙ ap (event_place v) (omega arith)

      go : (a : Bool) → eqb st.tag 0 ≡ a → (b c : Bool) (o : Option ℕ) → lowest_lacking st.got ≡ o → Near t u (ends (encode t) st a b c o) (ends (encode u) st' a b c o)
      go true z b c o l = absurd (let y = eqb-true st.tag 0 z in omega arith)
      go false z false c o l = near (refused_alike none_reads none_reads)
      go false z true true o l = near (refused_alike no_event no_event)
      go false z true false none l = near (subst (λ (y : Execution). Alike t u (whole st.got) (whole y)) (sym g.got) (whole_alike st.got))
      go false z true false (some e) l =
          let b = lacking_there st.got e l in
          let m = g.many in
          let c : e < length t.events = omega arith in
          near (refused_alike
          (subst (λ (j : ℕ). Names t 11 (place_of 11 j) e) (sym (place t st.places e refl g.at c)) (at_event e c (inr (inr (inr refl)))))
          (subst (λ (j : ℕ). Names u 11 (place_of 11 j) e) (sym (place u st'.places e refl g.at' c)) (at_event e c (inr (inr (inr refl))))))

  -- ---- one list after another

  module _ (one : edition ≡ 1) (rule : ByTheRule t) (len : length (encode t) ≤ max_bytes) (len' : length (encode u) ≤ max_bytes) where
    at_last : (k k' : ℕ) (st st' : State) → 1 ≤ st.tag → st.tag ≤ 4 → Done st st'
        → Near t u (fields_from (encode t) k (length (before_pairs t ++ run 4 pair_value t.pairs)) st) (fields_from (encode u) k' (length (before_pairs u ++ run 4 pair_value t.pairs)) st')
    unfolding fields_from
    at_last zero k' st st' a b g = spent_left _
    at_last (suc k) zero st st' a b g = spent_right _
    at_last (suc k) (suc k') st st' a b g =
        near_by t u (at_end (encode t) k (length (before_pairs t ++ run 4 pair_value t.pairs)) st (le_of_eq (ap length (whole_pairs t))))
        (at_end (encode u) k' (length (before_pairs u ++ run 4 pair_value t.pairs)) st' (le_of_eq (ap length (whole_pairs u)))) (finish_alike st st' a g)

    at_pairs : (k k' : ℕ) (st st' : State) → 1 ≤ st.tag → st.tag ≤ 3 → Done st st' → Near t u (fields_from (encode t) k (length (before_pairs t)) st) (fields_from (encode u) k' (length (before_pairs u)) st')
    at_pairs k k' st st' a b g =
        walk_all t u (λ _. Unit {0}) (encode t) (encode u) (before_pairs t) (before_pairs u) [] [] len len' 4 pair_value pair_value t.pairs (λ _. up_to t (length t.events)) (λ _. up_to u (length t.events))
        (λ _. length t.events) (omega arith) (λ n. allows_to 4 n (inr (inr refl))) (λ x p _ q. same_pair x p q) faulty_pair (λ x done p _ q m. step_pair x p q m) (λ done p l f e. e) (λ done p l f e. e) at_last
        (λ _ _. tt) (all_pairs t) (all_pairs u) k k' st st' a (omega arith) g

    at_rows : (k k' : ℕ) (st st' : State) → 1 ≤ st.tag → st.tag ≤ 2 → Done st st' → Near t u (fields_from (encode t) k (length (before_rows t)) st) (fields_from (encode u) k' (length (before_rows u)) st')
    at_rows k k' st st' a b g =
        walk_all t u (λ _. Unit {0}) (encode t) (encode u) (before_rows t) (before_rows u) (run 4 pair_value t.pairs) (run 4 pair_value t.pairs) len len' 3 (row_value edition) (row_value 2) t.rows (λ _. up_to t (length t.events))
        (λ _. up_to u (length t.events)) (λ _. length t.events) (omega arith) (λ n. allows_to 3 n (inr (inl refl))) (λ x r _ q. same_row x r q) faulty_row (λ x done r _ q m. step_row x r q m) (λ done r l f e. e)
        (λ done r l f e. e) at_pairs (λ _ _. tt) (whole_rows t) (whole_rows u) k k' st st' a (omega arith) g

    at_events : (k k' : ℕ) (st st' : State) → 1 ≤ st.tag → st.tag ≤ 2 → Both t 0 [] [] st st' → Near t u (fields_from (encode t) k (length (before_events t)) st) (fields_from (encode u) k' (length (before_events u)) st')
    unfolding each from
    at_events k k' st st' a b g =
        walk_all t u Kept (encode t) (encode u) (before_events t) (before_events u) (run 3 (row_value edition) t.rows ++ run 4 pair_value t.pairs) (run 3 (row_value 2) t.rows ++ run 4 pair_value t.pairs) len len' 2
        (event_value edition) (event_value 2) t.events (λ (l : List Description). up_to t (length l)) (λ (l : List Description). up_to u (length l)) length (omega arith) (λ n. allows_to 2 n (inl refl)) same_event faulty_event step_event
        (more_events t) (more_events u) at_rows rule (sheet_split t) (sheet_split u) k k' st st' a b g

    head_same : value_fault blank.got 1 (head_value u.head) ≡ value_fault blank.got 1 (head_value t.head)
    unfolding value_fault_by head_fault head_bytes head_fits within
    head_same = rw one refl

    head_first : (k k' : ℕ) → Near t u (fields_from (encode t) k 0 blank) (fields_from (encode u) k' 0 blank)
    unfolding allowed taken each
    head_first k k' =
        turn t u [] [] 1 (head_value t.head) (head_value u.head) (run 2 (event_value edition) t.events ++ (run 3 (row_value edition) t.rows ++ run 4 pair_value t.pairs))
        (run 2 (event_value 2) t.events ++ (run 3 (row_value 2) t.rows ++ run 4 pair_value t.pairs)) (omega arith) (omega arith) blank blank refl refl head_same
        (λ n e. let z = sym (head_number blank.got t.head n e) in
        (0, subst (λ (m : ℕ). Names t m (place_of m 0) 0) z at_head, subst (λ (m : ℕ). Names u m (place_of m 0) 0) z at_head))
        (encode t) (encode u) (sheet_split t) (sheet_split u)
        (λ f k₁ k₁' st₁ st₁' q q' r r' c c'. at_events k₁ k₁' st₁ st₁' (omega arith) (omega arith)
        (record { tags = q' ∙ sym q; got = r' ∙ ap second (sym r); head = ap (λ (y : Execution). y.head) r; many = ap (λ (y : Execution). length y.events) r; at = c; at' = c' })) k k'

    both_near : Near t u (parse (encode t)) (parse (encode u))
    unfolding parse
    both_near =
        near_by t u (ap (λ (b : Bool). cond b (refused 1 0) (fields_from (encode t) (suc (length (encode t))) 0 blank)) (le-ltb max_bytes (length (encode t)) len))
        (ap (λ (b : Bool). cond b (refused 1 0) (fields_from (encode u) (suc (length (encode u))) 0 blank)) (le-ltb max_bytes (length (encode u)) len'))
        (head_first (suc (length (encode t))) (suc (length (encode u))))

-- neither reader's walk is cut short
never_zero : (s : List ℕ) (p : ℕ) → parse s ≡ refused 0 p → ⊥
never_zero s p e = go (refusal_number s 0 p e)
  where
    go : ((1 ≤ 0) × (0 ≤ 11)) ⊎ (◌≡◌ {A = ℕ} 0 14) → ⊥
    go (inl b) = let h = b.0 in omega arith
    go (inr q) = omega arith

near_alike : (t u : Table) (p q : Parsed) → Near t u p q → parse (encode t) ≡ p → parse (encode u) ≡ q → Alike t u p q
near_alike t u p q (spent_left q₁) e f = absurd (never_zero (encode t) 0 e)
near_alike t u p q (spent_right p₁) e f = absurd (never_zero (encode u) 0 f)
near_alike t u p q (near a) e f = a

-- ---- the length

-- a byte more in each value
run_more : {A : Type 0} (tag : ℕ) (value value' : A → List ℕ) → ((a : A) → length (value' a) ≡ length (value a) + 1) → (l : List A)
    → length (run tag value' l) ≡ length (run tag value l) + length l
unfolding run
run_more tag value value' h [] = refl
run_more tag value value' h (a ∷ l) =
    let i = run_more tag value value' h l in
    let p = length-append (field tag (value a)) (run tag value l) in
    let q = length-append (field tag (value' a)) (run tag value' l) in
    let m = length_field tag (value a) in
    let n = length_field tag (value' a) in
    let w = h a in
    omega arith

pub copy_long : (t : Table) → t.head.edition ≡ 1 → length (encode (table_at 2 t)) ≡ length (encode t) + length t.events
unfolding event_bytes
copy_long t one =
    let u = table_at 2 t in
    let h : List ℕ = field 1 (head_value t.head) in
    let r : List ℕ = run 3 (row_value 2) t.rows ++ run 4 pair_value t.pairs in
    let a = ap length (sheet_split t) ∙ length-append h (run 2 (event_value t.head.edition) t.events ++ r) in
    let b = ap length (sheet_split u) ∙ length-append (field 1 (head_value u.head)) (run 2 (event_value 2) t.events ++ r) in
    let c = length-append (run 2 (event_value t.head.edition) t.events) r in
    let d = length-append (run 2 (event_value 2) t.events) r in
    let e = length_field 1 (head_value t.head) in
    let f = length_field 1 (head_value u.head) in
    let five : event_bytes t.head.edition ≡ 5 = rw one refl in
    let g = run_more 2 (event_value t.head.edition) (event_value 2) (λ y. (let m = said_long t.head.edition y in let n = said_long 2 y in omega arith)) t.events in
    omega arith

pub copy_alike : CopyAlike
copy_alike t one rule len' =
    near_alike t (table_at 2 t) (parse (encode t)) (parse (encode (table_at 2 t))) (both_near t one rule (let l = copy_long t one in omega arith) len') refl refl

-- What is well formed is written (02 §2): the bytes of a well-formed execution's table are a sheet that the reader accepts as that execution. So the writer
-- writes the tables of the well-formed executions, and by `read_back` and `promise` no others. From the back: each list of fields hands its start to the
-- list before it. Assumes nothing.
--     Reaches                       from a place on, with so much read, the answer is x
--     written_within : WellFormed x → length (encode (table_of x)) ≤ max_bytes → parse (encode (table_of x)) ≡ whole x
use mathlib.Core.Path.{◌≡◌, refl, sym, ap, ◌∙◌, subst}
use mathlib.Core.Logic.{inl, inr}
use mathlib.Core.Bool.{true}
use mathlib.Core.List.{List, [], ◌∷◌, ◌++◌, append_assoc, append-nil}
use Prim.Native.Nat.{ℕ, suc, ◌+◌, ◌-◌, ◌<◌, ◌≤◌}
use native.Mathlib.Omega.{arith}
use native.Mathlib.Nat.{le_of_eq}
use lib.ListN.{length, get_or, length-append}
use lib.Seq.{get_or-append_seam}
use Rattle.format.specs.declared.Head.{Head}
use Rattle.format.specs.declared.Row.{Row}
use Rattle.format.specs.declared.Pair.{Pair}
use Rattle.format.specs.Limits.{max_bytes}
use Rattle.format.specs.Event.{Event, nobody}
use Rattle.format.specs.Execution.{Execution, event_no, event}
use Rattle.format.specs.Layout.{head_bytes, row_bytes, event_of}
use Rattle.parse.specs.Parse.{whole, State, blank, allowed, value_fault, value_fault_by, fault_at, taken, after, fields_from, parse}
use Rattle.parse.specs.Promise.{WellEvent, WellFormed}
use Rattle.parse.proofs.ParseLaws.{at_start, at_end, at_next}
use Rattle.parse.proofs.WellSheetLaws.{allows_to}
use Rattle.parse.proofs.FormedLaws.{Front, head_passes, event_passes, row_passes, pair_passes, ends}
use Rattle.encode.specs.Table.{describe, table_of}
use Rattle.encode.specs.Encode.{field, head_value, event_value, row_value, pair_value, run, encode}
use Rattle.encode.proofs.EncodeLaws.{run_snoc, run_each, length_field, sheet_split}
use Rattle.encode.proofs.ReadBack.{seam_short, next_here, before_end, fault_here, after_here, got_here}
use Rattle.encode.proofs.WellEventLaws.{event_same, event_long}

-- ---- one field

-- from place p on, behind a field with at most this tag and with this much read, the answer is x
abbrev Reaches : List ℕ → Execution → ℕ → ℕ → Execution → Type 0
Reaches s x p tag got = (k : ℕ) (st : State) → length s ≤ k + p → 1 ≤ st.tag → st.tag ≤ tag → st.got ≡ got → fields_from s (suc k) p st ≡ whole x

module _ (x : Execution) (pre : List ℕ) (tag : ℕ) (v rest : List ℕ) (short : length v ≤ max_bytes) (low : 1 ≤ tag) (got : Execution) (clean : value_fault got tag v ≡ 0) where
  abbrev here : List ℕ
  here = pre ++ (field tag v ++ rest)

  longer_here : length pre < length (pre ++ field tag v)
  longer_here = let e = length-append pre (field tag v) in let l = length_field tag v in omega arith

  field_here : Reaches here x (length (pre ++ field tag v)) tag (taken got tag v)
      → (k : ℕ) (st : State) → length here ≤ k + length pre → allowed st.tag tag ≡ true → st.got ≡ got → fields_from here (suc k) (length pre) st ≡ whole x
  field_here next k st b a g =
      let h = before_end pre tag v rest short in
      let f : fault_at here (length pre) st ≡ 0 = fault_here pre tag v rest short st a ∙ ap (λ (y : Execution). value_fault y tag v) g ∙ clean in
      let n = next_here pre tag v rest short in
      let t = after_here pre tag v rest short st in
      let longer = longer_here in
      at_next here k (length pre) st h b f ∙ ap (λ (q : ℕ). fields_from here (suc (k - 1)) q (after here (length pre) st)) n
      ∙ next (k - 1) (after here (length pre) st) (omega arith) (omega arith) (omega arith) (got_here pre tag v rest short st ∙ ap (λ (y : Execution). taken y tag v) g)

  field_next : (s : List ℕ) → s ≡ here → Reaches s x (length (pre ++ field tag v)) tag (taken got tag v)
      → (k : ℕ) (st : State) → length s ≤ k + length pre → allowed st.tag tag ≡ true → st.got ≡ got → fields_from s (suc k) (length pre) st ≡ whole x
  field_next s e =
      subst (λ (u : List ℕ). Reaches u x (length (pre ++ field tag v)) tag (taken got tag v)
      → (k : ℕ) (st : State) → length u ≤ k + length pre → allowed st.tag tag ≡ true → st.got ≡ got → fields_from u (suc k) (length pre) st ≡ whole x) (sym e) field_here

-- ---- a list of fields

module _ {A : Type 0} (x : Execution) (s base rest : List ℕ) (len : length s ≤ max_bytes) (tag : ℕ) (value : A → List ℕ) (every : List A) (part : List A → Execution) (low : 1 ≤ tag)
    (allows : (n : ℕ) → 1 ≤ n → n ≤ tag → allowed n tag ≡ true)
    (clean : (done : List A) (a : A) (todo : List A) → done ++ (a ∷ todo) ≡ every → value_fault (part done) tag (value a) ≡ 0)
    (step : (done : List A) (a : A) (todo : List A) → done ++ (a ∷ todo) ≡ every → taken (part done) tag (value a) ≡ part (done ++ (a ∷ [])))
    (end : Reaches s x (length (base ++ run tag value every)) tag (part every)) where
  walk : (todo done : List A) → done ++ todo ≡ every → s ≡ (base ++ run tag value done) ++ (run tag value todo ++ rest)
      → Reaches s x (length (base ++ run tag value done)) tag (part done)
  unfolding run
  walk [] done d e = subst (λ (l : List A). Reaches s x (length (base ++ run tag value l)) tag (part l)) (sym d ∙ append-nil done) end
  walk (a ∷ todo) done d e =
      let seam : s ≡ (base ++ run tag value done) ++ (field tag (value a) ++ (run tag value todo ++ rest)) =
      e ∙ ap (λ (l : List ℕ). (base ++ run tag value done) ++ l) (append_assoc (field tag (value a)) (run tag value todo) rest) in
      let longer : (base ++ run tag value done) ++ field tag (value a) ≡ base ++ run tag value (done ++ (a ∷ [])) =
      append_assoc base (run tag value done) (field tag (value a)) ∙ ap (λ (l : List ℕ). base ++ l) (sym (run_snoc tag value done a)) in
      let again = walk todo (done ++ (a ∷ [])) (append_assoc done (a ∷ []) todo ∙ d)
      (seam ∙ sym (append_assoc (base ++ run tag value done) (field tag (value a)) (run tag value todo ++ rest)) ∙ ap (λ (l : List ℕ). l ++ (run tag value todo ++ rest)) longer) in
      let next : Reaches s x (length ((base ++ run tag value done) ++ field tag (value a))) tag (taken (part done) tag (value a)) =
      subst (λ (l : List ℕ). Reaches s x (length l) tag (taken (part done) tag (value a))) (sym longer)
      (subst (Reaches s x (length (base ++ run tag value (done ++ (a ∷ [])))) tag) (sym (step done a todo d)) again) in
      λ k st b l u g.
      field_next x (base ++ run tag value done) tag (value a) (run tag value todo ++ rest)
      (seam_short s (base ++ run tag value done) tag (value a) (run tag value todo ++ rest) seam len) low (part done) (clean done a todo d) s seam next k st b (allows st.tag l u) g

  walk_all : s ≡ base ++ (run tag value every ++ rest) → Reaches s x (length base) tag (part [])
  unfolding run
  walk_all e =
      subst (λ (l : List ℕ). Reaches s x (length l) tag (part [])) (append-nil base)
      (walk every [] refl (e ∙ ap (λ (l : List ℕ). l ++ (run tag value every ++ rest)) (sym (append-nil base))))

-- ---- what each entry passes

abbrev so_far : Head → List Event → List Row → List Pair → Execution
so_far h events rows pairs = record { head = h; events = events; rows = rows; pairs = pairs }

-- an entry and what stands before it
here_front : {A : Type 0} (done : List A) (a : A) (todo every : List A) → done ++ (a ∷ todo) ≡ every → Front (done ++ (a ∷ [])) every
here_front done a todo every e = record { more = todo; same = sym e ∙ sym (append_assoc done (a ∷ []) todo) }

module _ (x : Execution) (w : WellFormed x) where
  abbrev edition : ℕ
  edition = x.head.edition

  abbrev value_of : Event → List ℕ
  value_of d = event_value edition (describe d)

  -- events
  module _ (done : List Event) (d : Event) (todo : List Event) (e : done ++ (d ∷ todo) ≡ x.events) where
    count : length done < length x.events
    count = let l = length-append done (d ∷ todo) in let m = ap length e in omega arith

    well : WellEvent x.head d
    unfolding event event_no
    well = subst (WellEvent x.head) (ap (λ (l : List Event). get_or l (length done) nobody) (sym e) ∙ get_or-append_seam done d todo nobody) (w.events (length done) count)

    same : event_of edition (value_of d) ≡ d
    same = event_same x.head d well

    clean_event : value_fault (so_far x.head done [] []) 2 (value_of d) ≡ 0
    unfolding value_fault_by
    clean_event =
        event_passes x w done (value_of d) (subst (λ (y : Event). Front (done ++ (y ∷ [])) x.events) (sym same) (here_front done d todo x.events e)) (event_long x.head d well)

    step_event : taken (so_far x.head done [] []) 2 (value_of d) ≡ so_far x.head (done ++ (d ∷ [])) [] []
    unfolding taken
    step_event = ap (λ (y : Event). so_far x.head (done ++ (y ∷ [])) [] []) same

  -- rows
  module _ (done : List Row) (r : Row) (todo : List Row) (e : done ++ (r ∷ todo) ≡ x.rows) where
    clean_row : value_fault (so_far x.head x.events done []) 3 (row_value edition r) ≡ 0
    unfolding value_fault_by row_bytes
    clean_row = row_passes x w done (row_value edition r) (here_front done r todo x.rows e) refl

    step_row : taken (so_far x.head x.events done []) 3 (row_value edition r) ≡ so_far x.head x.events (done ++ (r ∷ [])) []
    unfolding taken
    step_row = refl

  -- pairs
  module _ (done : List Pair) (p : Pair) (todo : List Pair) (e : done ++ (p ∷ todo) ≡ x.pairs) where
    clean_pair : value_fault (so_far x.head x.events x.rows done) 4 (pair_value p) ≡ 0
    unfolding value_fault_by
    clean_pair = pair_passes x w done (pair_value p) (here_front done p todo x.pairs e) refl

    step_pair : taken (so_far x.head x.events x.rows done) 4 (pair_value p) ≡ so_far x.head x.events x.rows (done ++ (p ∷ []))
    unfolding taken
    step_pair = refl

  -- ---- one list after another

  abbrev s : List ℕ
  s = encode (table_of x)

  abbrev heads : List ℕ
  heads = field 1 (head_value x.head)

  abbrev events : List ℕ
  events = run 2 value_of x.events

  abbrev rows : List ℕ
  rows = run 3 (row_value edition) x.rows

  abbrev pairs : List ℕ
  pairs = run 4 pair_value x.pairs

  by_events : s ≡ heads ++ (events ++ (rows ++ pairs))
  unfolding table_of
  by_events = sheet_split (table_of x) ∙ ap (λ (l : List ℕ). heads ++ (l ++ (rows ++ pairs))) (run_each 2 describe (event_value edition) x.events)

  by_rows : s ≡ (heads ++ events) ++ (rows ++ pairs)
  by_rows = by_events ∙ sym (append_assoc heads events (rows ++ pairs))

  by_pairs : s ≡ ((heads ++ events) ++ rows) ++ pairs
  by_pairs = by_rows ∙ sym (append_assoc (heads ++ events) rows pairs)

  module _ (len : length (encode (table_of x)) ≤ max_bytes) where
    at_last : Reaches s x (length (((heads ++ events) ++ rows) ++ pairs)) 4 x
    at_last k st b l u g = at_end s k (length (((heads ++ events) ++ rows) ++ pairs)) st (le_of_eq (ap length by_pairs)) ∙ ends x w s st l g

    at_pairs : Reaches s x (length ((heads ++ events) ++ rows)) 4 (so_far x.head x.events x.rows [])
    at_pairs =
        walk_all x s ((heads ++ events) ++ rows) [] len 4 pair_value x.pairs (so_far x.head x.events x.rows) (omega arith) (λ n. allows_to 4 n (inr (inr refl)))
        clean_pair step_pair at_last (by_pairs ∙ ap (λ (l : List ℕ). ((heads ++ events) ++ rows) ++ l) (sym (append-nil pairs)))

    at_rows : Reaches s x (length (heads ++ events)) 3 (so_far x.head x.events [] [])
    at_rows =
        walk_all x s (heads ++ events) pairs len 3 (row_value edition) x.rows (λ (l : List Row). so_far x.head x.events l []) (omega arith) (λ n. allows_to 3 n (inr (inl refl)))
        clean_row step_row (λ k st b l u g. at_pairs k st b l (omega arith) g) by_rows

    at_events : Reaches s x (length heads) 2 (so_far x.head [] [] [])
    at_events =
        walk_all x s heads (rows ++ pairs) len 2 value_of x.events (λ (l : List Event). so_far x.head l [] []) (omega arith) (λ n. allows_to 2 n (inl refl))
        clean_event step_event (λ k st b l u g. at_rows k st b l (omega arith) g) by_events

    from_head : fields_from s (suc (length s)) 0 blank ≡ whole x
    unfolding allowed value_fault_by taken head_bytes
    from_head =
        field_next x [] 1 (head_value x.head) (events ++ (rows ++ pairs)) (omega arith) (omega arith) blank.got (head_passes x w (head_value x.head) refl refl) s by_events
        (λ k st b l u g. at_events k st b l (omega arith) g) (length s) blank (omega arith) refl refl

    pub written_within : parse (encode (table_of x)) ≡ whole x
    written_within = at_start s len ∙ from_head

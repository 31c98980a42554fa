-- Writing what was read gives the same bytes (02 §2). The invariant: what stands before the place reached is the bytes of the table read so far.
--     written_back : parse s ≡ whole x → encode (table_of x) ≡ s
-- Of any list: what has no fault is short, so that its length is written in one way (`field_back`). Assumes nothing.
use mathlib.Core.Path.{◌≡◌, refl, sym, ap, ◌∙◌}
use mathlib.Core.Bool.{Bool, true, false, cond}
use mathlib.Core.List.{List, [], ◌++◌}
use Prim.Native.Nat.{ℕ, zero, suc, ◌<◌}
use native.Mathlib.Omega.{arith}
use borrow.Author.Tests.{ltb-true, ltb-false, eqb-true, eqb-false}
use lib.Dec.{eqb, ltb}
use lib.ListN.{length, take}
use lib.Seq.{take_all}
use Rattle.format.specs.Limits.{max_bytes}
use Rattle.format.specs.Execution.{Execution}
use Rattle.format.specs.Field.{tag_at, next_at, value_at}
use Rattle.format.specs.Layout.{edition_of, head_bytes, row_bytes, pair_bytes, head_of, event_of, row_of, pair_of}
use Rattle.parse.specs.Parse.{refused, whole, State, blank, head_fault, fault_at, taken, after, fields_from, parse}
use Rattle.parse.proofs.ParseLaws.{no_fault_non, inside, value_length, was_none, was_2, was_3, was_4, known, head_clean, event_clean, row_length, pair_length, finished_whole, not_whole, at_end, at_fault, at_field}
use Rattle.encode.specs.Table.{describe, table_of}
use Rattle.encode.specs.Encode.{field, head_value, event_value, row_value, pair_value, encode}
use Rattle.encode.proofs.EncodeLaws.{field_back, head_back, event_clean_back, event_short, row_back, pair_back, encode_head, encode_event, encode_row, encode_pair}

-- at place p, behind a field with the tag of the state (0 for none)
record Behind (s : List ℕ) (p : ℕ) (st : State) : Type 0 where
  start : st.tag ≡ 0 → p ≡ 0
  no_events : st.tag < 2 → st.got.events ≡ []
  no_rows : st.tag < 3 → st.got.rows ≡ []
  no_pairs : st.tag < 4 → st.got.pairs ≡ []
  front : 0 < st.tag → take p s ≡ encode (table_of st.got)

behind_blank : (s : List ℕ) → Behind s 0 blank
behind_blank s = record { start = λ _. refl; no_events = λ _. refl; no_rows = λ _. refl; no_pairs = λ _. refl; front = λ h. absurd (omega arith) }

-- ---- one field more

module _ (s : List ℕ) (p : ℕ) (st : State) (f : fault_at s p st ≡ 0) (k : Behind s p st) where
  abbrev v : List ℕ
  v = value_at s p

  more : (t : ℕ) (u : List ℕ) → tag_at s p ≡ t → u ≡ v → length v < 256 → take (next_at s p) s ≡ take p s ++ field t u
  more t u e q h =
      field_back s p (inside s p st f) (let l = value_length s p st f in omega arith)
      ∙ ap (λ (m : ℕ). take p s ++ field m v) e ∙ ap (λ (m : List ℕ). take p s ++ field t m) (sym q)

  after_head : tag_at s p ≡ 1 → Behind s (next_at s p) (after s p st)
  unfolding after taken head_fault head_bytes
  after_head e =
      let w = was_none s p st f e in
      let n = k.no_events (omega arith) in
      let o = k.no_rows (omega arith) in
      let q = k.no_pairs (omega arith) in
      let z = k.start w in
      let l : length v ≡ head_bytes (edition_of v) = eqb-true _ _ (no_fault_non (eqb (length v) (head_bytes (edition_of v))) 3 _ (head_clean s p st f e)).0 in
      let m : take (next_at s p) s ≡ field 1 (head_value (head_of (edition_of v) v)) =
      more 1 (head_value (head_of (edition_of v) v)) e (head_back v l) (omega arith) ∙ ap (λ (i : ℕ). take i s ++ field 1 (head_value (head_of (edition_of v) v))) z in
      simp e
      (record {
        start = λ t. absurd (omega arith);
        no_events = λ _. n;
        no_rows = λ _. o;
        no_pairs = λ _. q;
        front = λ _. m ∙ sym (encode_head (record { head = head_of (edition_of v) v; events = st.got.events; rows = st.got.rows; pairs = st.got.pairs }) n o q);
      })

  after_event : tag_at s p ≡ 2 → Behind s (next_at s p) (after s p st)
  unfolding after taken
  after_event e =
      let w = was_2 s p st f e in
      let o = k.no_rows (omega arith) in
      let q = k.no_pairs (omega arith) in
      let d = event_of st.got.head.edition v in
      let b = event_clean_back st.got.head st.got.events v (event_clean s p st f e) in
      let r = k.front (omega arith) in
      simp e
      (record {
        start = λ t. absurd (omega arith);
        no_events = λ t. absurd (omega arith);
        no_rows = λ _. o;
        no_pairs = λ _. q;
        front = λ _. more 2 (event_value st.got.head.edition (describe d)) e b (event_short st.got.head st.got.events v (event_clean s p st f e))
            ∙ ap (λ (m : List ℕ). m ++ field 2 (event_value st.got.head.edition (describe d))) r
            ∙ sym (encode_event st.got.head st.got.events d st.got.rows st.got.pairs o q);
      })

  after_row : tag_at s p ≡ 3 → Behind s (next_at s p) (after s p st)
  unfolding after taken row_bytes
  after_row e =
      let w = was_3 s p st f e in
      let q = k.no_pairs (omega arith) in
      let l : length v ≡ row_bytes st.got.head.edition = value_length s p st f ∙ row_length s p st f e in
      let r = k.front (omega arith) in
      simp e
      (record {
        start = λ t. absurd (omega arith);
        no_events = λ t. absurd (omega arith);
        no_rows = λ t. absurd (omega arith);
        no_pairs = λ _. q;
        front = λ _. more 3 (row_value st.got.head.edition (row_of st.got.head.edition v)) e (row_back st.got.head.edition v l) (omega arith)
            ∙ ap (λ (m : List ℕ). m ++ field 3 (row_value st.got.head.edition (row_of st.got.head.edition v))) r
            ∙ sym (encode_row st.got.head st.got.events st.got.rows (row_of st.got.head.edition v) st.got.pairs q);
      })

  after_pair : tag_at s p ≡ 4 → Behind s (next_at s p) (after s p st)
  unfolding after taken
  after_pair e =
      let w = was_4 s p st f e in
      let l : length v ≡ pair_bytes = value_length s p st f ∙ pair_length s p st f e in
      let r = k.front (omega arith) in
      simp e
      (record {
        start = λ t. absurd (omega arith);
        no_events = λ t. absurd (omega arith);
        no_rows = λ t. absurd (omega arith);
        no_pairs = λ t. absurd (omega arith);
        front = λ _. more 4 (pair_value (pair_of v)) e (pair_back v l) (omega arith) ∙ ap (λ (m : List ℕ). m ++ field 4 (pair_value (pair_of v))) r
            ∙ sym (encode_pair st.got.head st.got.events st.got.rows st.got.pairs (pair_of v));
      })

  behind_after : Behind s (next_at s p) (after s p st)
  behind_after = go (eqb (tag_at s p) 1) refl (eqb (tag_at s p) 2) refl (eqb (tag_at s p) 3) refl (eqb (tag_at s p) 4) refl
    where
      go : (a : Bool) → eqb (tag_at s p) 1 ≡ a → (b : Bool) → eqb (tag_at s p) 2 ≡ b → (c : Bool) → eqb (tag_at s p) 3 ≡ c → (d : Bool) → eqb (tag_at s p) 4 ≡ d
          → Behind s (next_at s p) (after s p st)
      go true q b r c t d u = after_head (eqb-true _ _ q)
      go false q true r c t d u = after_event (eqb-true _ _ r)
      go false q false r true t d u = after_row (eqb-true _ _ t)
      go false q false r false t true u = after_pair (eqb-true _ _ u)
      go false q false r false t false u = absurd (known s p st f (eqb-false _ _ q) (eqb-false _ _ r) (eqb-false _ _ t) (eqb-false _ _ u))

-- ---- all fields

module _ (s : List ℕ) (x : Execution) where
  ended : (k p : ℕ) (st : State) → Behind s p st → fields_from s k p st ≡ whole x → encode (table_of x) ≡ s
  unfolding fields_from
  ended zero p st b e = not_whole e
  ended (suc n) p st b e = turn (λ st₁ b₁ e₁. ended n (next_at s p) st₁ b₁ e₁) (ltb p (length s)) refl (fault_at s p st) refl
    where
      turn : ((st₁ : State) → Behind s (next_at s p) st₁ → fields_from s n (next_at s p) st₁ ≡ whole x → encode (table_of x) ≡ s)
          → (c : Bool) → ltb p (length s) ≡ c → (f : ℕ) → fault_at s p st ≡ f → encode (table_of x) ≡ s
      turn again false q f r =
          let w = finished_whole s st x (sym (at_end s n p st (ltb-false _ _ q)) ∙ e) in
          ap (λ (y : Execution). encode (table_of y)) (sym w.got) ∙ sym (b.front w.tagged) ∙ take_all p s (ltb-false _ _ q)
      turn again true q zero r = again (after s p st) (behind_after s p st r b) (sym (at_field s n p st (ltb-true _ _ q) r) ∙ e)
      turn again true q (suc f) r = not_whole (sym (at_fault s n p st (suc f) (ltb-true _ _ q) r (λ d. omega arith)) ∙ e)

  pub written_back : parse s ≡ whole x → encode (table_of x) ≡ s
  unfolding parse
  written_back e = go (ltb max_bytes (length s)) e
    where
      go : (b : Bool) → cond b (refused 1 0) (fields_from s (suc (length s)) 0 blank) ≡ whole x → encode (table_of x) ≡ s
      go true q = not_whole q
      go false q = ended (suc (length s)) 0 blank (behind_blank s) q

-- The laws of specs/Framed.antt, and what the fields of a framed sheet describe.
--     NoHead, sits_tag              the tag of an event, a row, a pair, which a field that sits has
--     Grown, grown                  what was read stays, with more behind it, and no event behind a row or a pair
--     accepted_framed               a sheet that is not refused is short and framed
-- Assumes nothing.
use mathlib.Core.Path.{◌≡◌, refl, sym, ap, ◌∙◌, subst}
use mathlib.Core.Logic.{◌⊎◌, inl, inr}
use mathlib.Core.Bool.{Bool, true, false, cond}
use mathlib.Core.List.{List}
use Prim.Native.Nat.{ℕ, zero, suc, ◌+◌, ◌-◌, ◌≤◌}
use native.Mathlib.Omega.{arith}
use borrow.Author.Tests.{eqb-true, eqb-false, ltb-true, ltb-false}
use lib.Dec.{eqb, ltb}
use lib.ListN.{length}
use Rattle.format.specs.declared.Head.{Head}
use Rattle.format.specs.Limits.{max_bytes}
use Rattle.format.specs.Execution.{Execution}
use Rattle.format.specs.Field.{tag_at, next_at, value_at}
use Rattle.format.specs.Layout.{edition_of, head_bytes}
use Rattle.parse.specs.Parse.{refused, whole, State, blank, head_fault, fault_at, taken, after, finish, fields_from, parse}
use Rattle.parse.specs.Described.{fields_taken}
use Rattle.parse.specs.Framed.{Sits, Fields, no_more, one_more, Framed}
use Rattle.parse.proofs.ParseLaws.{not_whole, no_fault_non, event_passed, inside, value_length, was_none, was_2, was_3, was_4, known, head_clean, event_clean, row_length, pair_length, at_end, at_fault, at_field}
use Rattle.parse.proofs.DescribedLaws.{taken_end, taken_next}
use Rattle.parse.proofs.FormedLaws.{one_of_three, Front, front_all, front_less}

abbrev pub NoHead : ℕ → Type 0
NoHead tag = (tag ≡ 2) ⊎ (tag ≡ 3) ⊎ (tag ≡ 4)

pub sits_tag : {s : List ℕ} {edition p last : ℕ} → Sits s edition p last → NoHead (tag_at s p)
sits_tag {s} {edition} {p} i = one_of_three 2 (tag_at s p) i.no_head_lem i.known

head_stays : (y : Execution) (tag : ℕ) (v : List ℕ) → NoHead tag → (taken y tag v).head ≡ y.head
unfolding taken
head_stays y tag v (inl e) = rw e
head_stays y tag v (inr (inl e)) = rw e
head_stays y tag v (inr (inr e)) = rw e

-- ---- what was read stays

-- x is y with what fields behind one with the tag `last` add: no event behind a row or a pair
pub record Grown (last : ℕ) (y x : Execution) : Type 0 where
  pub head : y.head ≡ x.head
  pub events : Front y.events x.events
  pub rows : Front y.rows x.rows
  pub pairs : Front y.pairs x.pairs
  pub all_events : 3 ≤ last → y.events ≡ x.events

grown_none : (last : ℕ) (x : Execution) → Grown last x x
grown_none last x =
    record { head = refl; events = front_all _; rows = front_all _; pairs = front_all _; all_events = λ _. refl }

grown_more : (last tag : ℕ) (y x : Execution) (v : List ℕ) → NoHead tag → last ≤ tag → Grown tag (taken y tag v) x → Grown last y x
unfolding taken
grown_more last tag y x v (inl e) b h =
    let g : Grown 2 (taken y 2 v) x = rw e at h in
    record {
      head = g.head;
      events = front_less y.events _ g.events;
      rows = g.rows;
      pairs = g.pairs;
      all_events = λ l. absurd (omega arith);
    }
grown_more last tag y x v (inr (inl e)) b h =
    let g : Grown 3 (taken y 3 v) x = rw e at h in
    record {
      head = g.head;
      events = g.events;
      rows = front_less y.rows _ g.rows;
      pairs = g.pairs;
      all_events = λ l. g.all_events (omega arith);
    }
grown_more last tag y x v (inr (inr e)) b h =
    let g : Grown 4 (taken y 4 v) x = rw e at h in
    record {
      head = g.head;
      events = g.events;
      rows = g.rows;
      pairs = front_less y.pairs _ g.pairs;
      all_events = λ l. g.all_events (omega arith);
    }

abbrev pub got : State → Execution
got st = st.got

module _ (s : List ℕ) (x : Execution) where
  pub grown : {edition p last : ℕ} → Fields s edition p last → (k : ℕ) (st : State) → length s ≤ k + p → (fields_taken s (suc k) p st).got ≡ x → Grown last st.got x
  unfolding after
  grown (no_more p last e) k st b d = subst (Grown last st.got) (ap got (sym (taken_end s k p st (omega arith))) ∙ d) (grown_none last st.got)
  grown (one_more p last i f) k st b d =
      let j = i.inside in
      grown_more last (tag_at s p) st.got x (value_at s p) (sits_tag i) i.rises (grown f (k - 1) (after s p st) (omega arith) (ap got (taken_next s k p st (omega arith) b) ∙ d))

-- ---- a sheet that is not refused is framed

module _ (s : List ℕ) (p : ℕ) (st : State) (f : fault_at s p st ≡ 0) where
  tags_here : (st.tag ≡ 0 → tag_at s p ≡ 1) × (1 ≤ st.tag → (st.tag ≤ tag_at s p) × (2 ≤ tag_at s p) × (tag_at s p ≤ 4))
  tags_here = go (eqb (tag_at s p) 1) refl (eqb (tag_at s p) 2) refl (eqb (tag_at s p) 3) refl (eqb (tag_at s p) 4) refl
    where
      go : (a : Bool) → eqb (tag_at s p) 1 ≡ a → (b : Bool) → eqb (tag_at s p) 2 ≡ b → (c : Bool) → eqb (tag_at s p) 3 ≡ c → (d : Bool) → eqb (tag_at s p) 4 ≡ d
          → (st.tag ≡ 0 → tag_at s p ≡ 1) × (1 ≤ st.tag → (st.tag ≤ tag_at s p) × (2 ≤ tag_at s p) × (tag_at s p ≤ 4))
      go true q b r c t d u = let e : tag_at s p ≡ 1 = eqb-true _ _ q in let z = was_none s p st f e in ((λ _. e), λ h. absurd (omega arith))
      go false q true r c t d u =
          let e : tag_at s p ≡ 2 = eqb-true _ _ r in let z = was_2 s p st f e in ((λ h. absurd (omega arith)), λ h. (omega arith, omega arith, omega arith))
      go false q false r true t d u =
          let e : tag_at s p ≡ 3 = eqb-true _ _ t in let z = was_3 s p st f e in ((λ h. absurd (omega arith)), λ h. (omega arith, omega arith, omega arith))
      go false q false r false t true u =
          let e : tag_at s p ≡ 4 = eqb-true _ _ u in let z = was_4 s p st f e in ((λ h. absurd (omega arith)), λ h. (omega arith, omega arith, omega arith))
      go false q false r false t false u = absurd (known s p st f (eqb-false _ _ q) (eqb-false _ _ r) (eqb-false _ _ t) (eqb-false _ _ u))

  sits_here : 1 ≤ st.tag → Sits s st.got.head.edition p st.tag
  sits_here h =
      let t = tags_here.1 h in
      record {
        inside = inside s p st f;
        rises = t.0;
        no_head_lem = t.1;
        known = t.2;
        long =
            record {
              head = λ e. absurd (let h = t.1 in omega arith);
              event = λ e. (event_passed st.got.head st.got.events (value_at s p) (event_clean s p st f e)).length;
              row = λ e. value_length s p st f ∙ row_length s p st f e;
              pair = λ e. value_length s p st f ∙ pair_length s p st f e;
            };
      }

module _ (s : List ℕ) (x : Execution) where
  fields_of : (k p : ℕ) (st : State) → p ≤ length s → 1 ≤ st.tag → fields_from s k p st ≡ whole x → Fields s st.got.head.edition p st.tag
  unfolding fields_from after
  fields_of zero p st b t e = not_whole e
  fields_of (suc k) p st b t e = go (fields_of k (next_at s p) (after s p st)) (ltb p (length s)) refl (fault_at s p st) refl
    where
      go : (next_at s p ≤ length s → 1 ≤ tag_at s p → fields_from s k (next_at s p) (after s p st) ≡ whole x → Fields s (after s p st).got.head.edition (next_at s p) (tag_at s p))
          → (c : Bool) → ltb p (length s) ≡ c → (n : ℕ) → fault_at s p st ≡ n → Fields s st.got.head.edition p st.tag
      go again false q n r = let z : length s ≤ p = ltb-false _ _ q in no_more p st.tag (omega arith)
      go again true q zero r =
          let i = sits_here s p st r t in
          one_more p st.tag i
          (subst (λ (h : Head). Fields s h.edition (next_at s p) (tag_at s p)) (head_stays st.got (tag_at s p) (value_at s p) (sits_tag i))
          (again i.inside (omega arith) (sym (at_field s k p st (ltb-true _ _ q) r) ∙ e)))
      go again true q (suc n) r = not_whole (sym (at_fault s k p st (suc n) (ltb-true _ _ q) r (λ d. omega arith)) ∙ e)

  framed_start : (k : ℕ) → fields_from s (suc k) 0 blank ≡ whole x → Framed s
  unfolding after taken head_fault finish
  framed_start k e = go (ltb 0 (length s)) refl (fault_at s 0 blank) refl
    where
      go : (c : Bool) → ltb 0 (length s) ≡ c → (n : ℕ) → fault_at s 0 blank ≡ n → Framed s
      go false q n r = not_whole (sym (at_end s k 0 blank (ltb-false _ _ q)) ∙ e)
      go true q zero r =
          let i = inside s 0 blank r in
          let h = (tags_here s 0 blank r).0 refl in
          let l = (no_fault_non (eqb (length (value_at s 0)) (head_bytes (edition_of (value_at s 0)))) 3 _ (head_clean s 0 blank r h)).0 in
          let g = fields_of k (next_at s 0) (after s 0 blank) i (omega arith) (sym (at_field s k 0 blank (ltb-true _ _ q) r) ∙ e) in
          record {
            inside = i;
            head = h;
            long = record { head = λ _. eqb-true _ _ l; event = λ e. absurd (omega arith); row = λ e. absurd (omega arith); pair = λ e. absurd (omega arith) };
            fields = rw h at g;
          }
      go true q (suc n) r = not_whole (sym (at_fault s k 0 blank (suc n) (ltb-true _ _ q) r (λ d. omega arith)) ∙ e)

  pub accepted_framed : parse s ≡ whole x → (length s ≤ max_bytes) × Framed s
  unfolding parse
  accepted_framed e = go (ltb max_bytes (length s)) refl e
    where
      go : (b : Bool) → ltb max_bytes (length s) ≡ b → cond b (refused 1 0) (fields_from s (suc (length s)) 0 blank) ≡ whole x → (length s ≤ max_bytes) × Framed s
      go true p q = not_whole q
      go false p q = (ltb-false _ _ p, framed_start (length s) q)

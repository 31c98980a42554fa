-- The converse of ContentLaws.antt: what 01's bullets say of a head, an event, a row, a pair makes the tests of its content pass, and those after
-- all fields. An entry of a list is met where it stands, behind those before it.
--     passed, passed_non            a ladder of tests goes on
--     one_of_three                  a number among three
--     Front, front_all, front_less  a list that begins with another
--     head_passes, event_passes, row_passes, pair_passes     a value of a well-formed execution has no fault
--     ends                          behind the last field of a well-formed execution nothing is missing
-- Assumes nothing.
use mathlib.Core.Path.{◌≡◌, refl, sym, ap, ◌∙◌, subst}
use mathlib.Core.Logic.{◌⊎◌, inl, inr, ⊎_elim}
use mathlib.Core.Bool.{Bool, true, false, cond}
use mathlib.Core.List.{List, [], ◌∷◌, ◌++◌, append_assoc, append-nil, Memᴰ}
use mathlib.Core.Option.{none}
use Prim.Native.Nat.{ℕ, ◌+◌, ◌-◌, ◌<◌, ◌≤◌}
use native.Mathlib.Omega.{arith}
use native.Mathlib.Nat.{eq-or-lt_of_le}
use borrow.Author.Tests.{eqb-true, eqb-false, eq-eqb, ne_eqb, le-leb, lt-ltb, le-ltb}
use lib.Dec.{T, eqb, ltb}
use lib.ListN.{length, get_or, length-append, get_or-append}
use lib.Seq.{get_or-append_seam}
use Rattle.basis.specs.Test.{◌or◌, non, any, all, number, from}
use Rattle.basis.proofs.BoolLaws.{true_T, T_true, or_holds, both_hold, or_second, non_holds}
use Rattle.basis.proofs.ListLaws.{from_elim, get_or_mem}
use Rattle.basis.proofs.LoopLaws.{any_at, all_intro, none_intro, number_append, number_snoc}
use Rattle.basis.proofs.FindLaws.{none_find}
use Rattle.format.specs.declared.Head.{Head}
use Rattle.format.specs.declared.Shape.{Shape}
use Rattle.format.specs.declared.Row.{Row}
use Rattle.format.specs.declared.Pair.{Pair}
use Rattle.format.specs.Limits.{max_inits, max_others, max_pairs}
use Rattle.format.specs.Shape.{initial}
use Rattle.format.specs.Event.{Access, Event, nobody, is_init, meets, reads_some}
use Rattle.format.specs.Execution.{Execution, event_no, event, inits, others, row_below, pair_below, blank_row, no_pair}
use Rattle.format.specs.Layout.{edition_of, head_bytes, event_bytes, data_bytes, row_bytes, pair_bytes, head_of, agent_of, shape_of, access_of, event_of, row_of, pair_of}
use Rattle.content.specs.Content.{head_fits, inside, formed, alone, stands_first, event_fits, room_in, room_for, joins, row_rises, row_fits, parts, pair_rises, pair_fits}
use Rattle.content.proofs.ContentLaws.{SizedFacts, KindFacts, a_read, a_write, both, a_marker, InitFacts, OtherFacts, formed_holds, tear_holds, head_holds}
use Rattle.parse.specs.Parse.{whole, State, head_fault, event_fault, event_fault_by, row_fault, pair_fault, lacks, lowest_lacking, missing, completed, finish}
use Rattle.parse.specs.Promise.{WellEvent, WellFormed, row}
use Rattle.parse.proofs.LackLaws.{lacks_rowless}
use Rattle.parse.proofs.AppearLaws.{none_missing}

-- ---- tests

pub passed : (b : Bool) (n m : ℕ) → b ≡ false → m ≡ 0 → cond b n m ≡ 0
passed b n m p q = ap (λ (c : Bool). cond c n m) p ∙ q

pub passed_non : (b : Bool) (n m : ℕ) → b ≡ true → m ≡ 0 → cond (non b) n m ≡ 0
unfolding non
passed_non b n m p q = ap (λ (c : Bool). cond (non c) n m) p ∙ q

pub one_of_three : (lo n : ℕ) → lo ≤ n → n ≤ lo + 2 → (n ≡ lo) ⊎ (n ≡ lo + 1) ⊎ (n ≡ lo + 2)
one_of_three lo n a b =
    ⊎_elim (λ (e : lo ≡ n). inl (sym e)) (λ c. inr (⊎_elim (λ e. inl (omega arith)) (λ d. inr (omega arith)) (eq-or-lt_of_le c))) (eq-or-lt_of_le a)

-- ---- a list, entry by entry

-- the list m begins with l
pub record Front {A : Type 0} (l m : List A) : Type 0 where
  pub more : List A
  pub same : m ≡ l ++ more

pub front_all : {A : Type 0} (l : List A) → Front l l
front_all l = record { more = []; same = sym (append-nil l) }

-- the entry a of l, behind those before it
module _ {A : Type 0} (before : List A) (a : A) {l : List A} (f : Front (before ++ (a ∷ [])) l) where
  seam : l ≡ before ++ (a ∷ f.more)
  seam = f.same ∙ append_assoc before (a ∷ []) f.more

  pub front_less : Front before l
  front_less = record { more = a ∷ f.more; same = seam }

  entry_count : length before < length l
  entry_count = let n = length-append before (a ∷ f.more) in let m = ap length seam in omega arith

  -- where it passes, and at most n do, fewer did before it
  count_holds : (p : A → Bool) (n : ℕ) → number p l ≤ n → p a ≡ true → ltb (number p before) n ≡ true
  count_holds p n h t =
      let m = ap (number p) f.same ∙ number_append p (before ++ (a ∷ [])) f.more in
      let k : number p (before ++ (a ∷ [])) ≡ number p before + 1 = rw t at (number_snoc p before a) in
      lt-ltb (number p before) n (omega arith)

  module _ (d : A) where
    entry_here : get_or l (length before) d ≡ a
    entry_here = ap (λ (k : List A). get_or k (length before) d) seam ∙ get_or-append_seam before a f.more d

    -- what holds of each two
    entry_two : (R : A → A → Type 0) → ((i j : ℕ) → i < j → j < length l → R (get_or l i d) (get_or l j d)) → (i : ℕ) → i < length before → R (get_or before i d) a
    entry_two R h i b =
        subst (λ (c : A). R c a) (ap (λ (k : List A). get_or k i d) seam ∙ get_or-append before (a ∷ f.more) d i b)
        (subst (R (get_or l i d)) entry_here (h i (length before) b entry_count))

    -- in a rising list it is above the last before it
    rises_holds : (below : A → A → Bool) → ((i j : ℕ) → i < j → j < length l → T (below (get_or l i d) (get_or l j d)))
        → (eqb (length before) 0 or below (get_or before (length before - 1) d) a) ≡ true
    rises_holds below h = go (eqb (length before) 0) refl
      where
        go : (b : Bool) → eqb (length before) 0 ≡ b → (eqb (length before) 0 or below (get_or before (length before - 1) d) a) ≡ true
        go true p = or_holds (eqb (length before) 0) _ p
        go false p =
            let n : length before ≡ 0 → ⊥ = eqb-false _ _ p in
            or_second (eqb (length before) 0) _ (T_true _ (entry_two (λ (b c : A). T (below b c)) h (length before - 1) (omega arith)))

-- ---- a shape

module _ (h : Head) (d : Event) (w : WellEvent h d) where
  abbrev a : Shape
  a = w.access.shape

  kind_of_lem : (a.mode ≡ 0 → ⊥) → KindFacts a
  kind_of_lem m = ⊎_elim (λ (e : 1 ≡ a.kind). go (inl (sym e))) (λ b. go (inr (one_of_three 2 a.kind b w.kind.1))) (eq-or-lt_of_le w.kind.0)
    where
      size_of : (a.kind ≡ 4 → ⊥) → SizedFacts a
      size_of n = record { width = w.width m n; aligned = λ q. w.aligned q n }

      go : (a.kind ≡ 1) ⊎ (a.kind ≡ 2) ⊎ (a.kind ≡ 3) ⊎ (a.kind ≡ 4) → KindFacts a
      go (inl e) = a_read e (size_of (λ n. omega arith))
      go (inr (inl e)) = a_write e (size_of (λ n. omega arith))
      go (inr (inr (inl e))) = both e (w.both_sc_lem e) (size_of (λ n. omega arith))
      go (inr (inr (inr e))) = let n = w.marker e in a_marker e (record { mode = n.0; start = n.1; width = n.2 })

  other_of : (a.mode ≡ 1) ⊎ (a.mode ≡ 2) → (a.mode ≡ 0 → ⊥) → OtherFacts h.agents d.agent a
  other_of e m =
      let n : d.agent ≡ 0 → ⊥ = λ z. m (w.init_agent.1 z) in
      record { mode = e; agent = (omega arith, w.agent); kind = kind_of_lem m }

  formed_so : formed h.agents d.agent a ≡ true
  formed_so = formed_holds h.agents d.agent a (go (one_of_three 0 a.mode (omega arith) w.mode))
    where
      go : (a.mode ≡ 0) ⊎ (a.mode ≡ 1) ⊎ (a.mode ≡ 2) → InitFacts d.agent a ⊎ OtherFacts h.agents d.agent a
      go (inl e) = inl (record { mode = e; agent = w.init_agent.0 e; kind = w.init_kind e; width = w.init_width e })
      go (inr (inl e)) = inr (other_of (inl e) (λ n. omega arith))
      go (inr (inr e)) = inr (other_of (inr e) (λ n. omega arith))

  inside_holds : inside h.size a ≡ true
  unfolding inside
  inside_holds = le-leb _ _ w.inside

  alone_holds : alone h d.agent a ≡ true
  unfolding alone
  alone_holds =
      both_hold _ _ inside_holds
      (both_hold _ _ formed_so (tear_holds a (record { byte = w.tear; must = w.tear_sc; none_else = w.tear_else })))

-- ---- the fields of a well-formed execution

module _ (x : Execution) (w : WellFormed x) where
  pub head_passes : (v : List ℕ) → head_of (edition_of v) v ≡ x.head → length v ≡ head_bytes (edition_of v) → head_fault v ≡ 0
  unfolding head_fault
  head_passes v e l = passed_non _ _ _ (eq-eqb _ _ l) (passed_non _ _ _ (ap head_fits e ∙ head_holds x.head (record { edition = w.edition; agents = w.agents; size = w.size })) refl)

  module _ (before : List Event) (v : List ℕ) (f : Front (before ++ (event_of x.head.edition v ∷ [])) x.events) where
    abbrev new : Event
    new = event_of x.head.edition v

    well : WellEvent x.head new
    unfolding event event_no
    well = subst (WellEvent x.head) (entry_here before new f nobody) (w.events (length before) (entry_count before new f))

    -- its one access is the value's
    shape_same : well.access.shape ≡ shape_of x.head.edition v
    shape_same = let o = well.one_access in cc

    stands : (non (initial (shape_of x.head.edition v)) or stands_first before (shape_of x.head.edition v)) ≡ true
    unfolding event event_no initial stands_first is_init
    stands = go (eqb (shape_of x.head.edition v).mode 0) refl
      where
        is_init_lem : (shape_of x.head.edition v).mode ≡ 0 → T (is_init new)
        is_init_lem m = true_T _ (eq-eqb (agent_of v) 0 (well.init_agent.0 (ap (λ (a : Shape). a.mode) shape_same ∙ m)))

        go : (b : Bool) → eqb (shape_of x.head.edition v).mode 0 ≡ b → (non (eqb (shape_of x.head.edition v).mode 0) or stands_first before (shape_of x.head.edition v)) ≡ true
        go false p = or_holds (non (eqb (shape_of x.head.edition v).mode 0)) _ (non_holds _ p)
        go true p =
            let t : T (is_init new) = is_init_lem (eqb-true _ _ p) in
            or_second (non (eqb (shape_of x.head.edition v).mode 0)) _
            (both_hold (all is_init before) (non (any (meets (shape_of x.head.edition v)) before))
            (all_intro is_init nobody before (λ i b. entry_two before new f nobody (λ (c d : Event). T (is_init d) → T (is_init c)) w.inits_first i b t))
            (non_holds _ (none_intro (meets (shape_of x.head.edition v)) nobody before
            (λ i b. entry_two before new f nobody (λ (c d : Event). T (is_init d) → (a : Access) → Memᴰ a d.accesses → T (meets a.shape c) → ⊥) w.inits_apart i b t
            (access_of x.head.edition v) (Memᴰ.head refl)))))

    alone_here : alone x.head (agent_of v) (shape_of x.head.edition v) ≡ true
    alone_here = subst (λ (a : Shape). alone x.head (agent_of v) a ≡ true) shape_same (alone_holds x.head new well)

    room_holds : room_for before (agent_of v) ≡ true
    unfolding room_in inits others is_init
    room_holds = go (eqb (agent_of v) 0) refl
      where
        go : (b : Bool) → eqb (agent_of v) 0 ≡ b → cond (eqb (agent_of v) 0) (ltb (inits before) max_inits) (ltb (others before) max_others) ≡ true
        go true p = rw p (count_holds before new f is_init max_inits w.inits_few p)
        go false p = rw p (count_holds before new f (λ (d : Event). non (is_init d)) max_others w.others_few (non_holds _ p))

    pub event_passes : length v ≡ event_bytes x.head.edition + data_bytes (shape_of x.head.edition v) → event_fault x.head before v ≡ 0
    unfolding event_fault_by event_fits
    event_passes l =
        passed _ _ _ (le-ltb (length v) (event_bytes x.head.edition) (omega arith))
        (passed_non _ _ _ (both_hold _ _ alone_here stands)
        (passed_non _ _ _ (eq-eqb _ _ l)
        (passed_non _ _ _ room_holds refl)))

  pub row_passes : (before : List Row) (v : List ℕ) → Front (before ++ (row_of x.head.edition v ∷ [])) x.rows
      → length v ≡ row_bytes x.head.edition → row_fault x.head x.events before v ≡ 0
  unfolding row_fault row_fits row_rises joins event
  row_passes before v f l =
      passed_non _ _ _ (eq-eqb _ _ l)
      (passed_non _ _ _ (both_hold (joins x.events (row_of x.head.edition v)) _ joins_here (rises_holds before (row_of x.head.edition v) f blank_row row_below w.rows_rise)) refl)
    where
      joins_here : joins x.events (row_of x.head.edition v) ≡ true
      joins_here =
          let j = length before in
          let c = entry_count before (row_of x.head.edition v) f in
          subst (λ (r : Row). joins x.events r ≡ true) (entry_here before (row_of x.head.edition v) f blank_row)
          (both_hold _ _ (T_true _ (w.row_reads j c)) (both_hold _ _ (T_true _ (w.row_writes j c)) (non_holds _ (ne_eqb _ _ (w.row_differs j c)))))

  pub pair_passes : (before : List Pair) (v : List ℕ) → Front (before ++ (pair_of v ∷ [])) x.pairs
      → length v ≡ pair_bytes → pair_fault x.events before v ≡ 0
  unfolding pair_fault pair_fits pair_rises parts event
  pair_passes before v f l =
      let c = entry_count before (pair_of v) f in
      let n = w.pairs_few in
      passed_non _ _ _ (eq-eqb _ _ l)
      (passed_non _ _ _ (both_hold (parts x.events (pair_of v)) _ parts_here (rises_holds before (pair_of v) f no_pair pair_below w.pairs_rise))
      (passed_non _ _ _ (lt-ltb (length before) max_pairs (omega arith)) refl))
    where
      parts_here : parts x.events (pair_of v) ≡ true
      parts_here =
          let j = length before in
          let c = entry_count before (pair_of v) f in
          subst (λ (p : Pair). parts x.events p ≡ true) (entry_here before (pair_of v) f no_pair)
          (both_hold _ _ (T_true _ (w.pair_markers j c).0) (both_hold _ _ (T_true _ (w.pair_markers j c).1) (non_holds _ (ne_eqb _ _ (w.pair_agents j c)))))

-- ---- after all fields

module _ (x : Execution) (w : WellFormed x) where
  lacks_none : (e : ℕ) → e < length x.events → T (lacks x.rows e (event x e)) → ⊥
  lacks_none e b t =
      let v = w.events e b in
      let r = lacks_rowless x e v.access v.one_access t in
      let o = w.row_for_each e r.byte r.reads in
      r.no_row (row x o.number) (get_or_mem blank_row x.rows o.number o.there) o.reader o.address

  no_lack : lowest_lacking x ≡ none
  unfolding lowest_lacking event
  no_lack =
      none_find (λ (e : ℕ). lacks x.rows e (event_no x.events e)) (from 0 (length x.events))
      (λ e m t. let b = from_elim (length x.events) 0 e m in lacks_none e (omega arith) t)

  some_reads : any reads_some x.events ≡ true
  unfolding event event_no
  some_reads = any_at reads_some x.events w.some_read.0 nobody w.some_read.1 (T_true _ w.some_read.2)

  pub ends : (s : List ℕ) (st : State) → 1 ≤ st.tag → st.got ≡ x → finish s st ≡ whole x
  unfolding finish completed non
  ends s st t g =
      let a : eqb st.tag 0 ≡ false = ne_eqb _ _ (λ (z : st.tag ≡ 0). omega arith) in
      let b : any reads_some st.got.events ≡ true = ap (λ (y : Execution). any reads_some y.events) g ∙ some_reads in
      let m : missing st.got ≡ false = ap missing g ∙ none_missing x w.each_appears in
      let c : lowest_lacking st.got ≡ none = ap lowest_lacking g ∙ no_lack in
      rw (a, b, m, c) (ap whole g)

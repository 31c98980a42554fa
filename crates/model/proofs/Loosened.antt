-- Every answer but 25 stays where more may tear (specs/Editions, OnlyTornTurns), so that 02 §4 takes no pass back (StaysConsistent): but for rule 25 no definition looks at a tear byte, so each says the same of an execution and of
-- what is left without its head and its tear bytes; and rule 25 breaks less where more may tear. Assumes nothing.
--     event_bare, shape-bare     events and accesses of what is left
--     only_torn_turns, stays_consistent     the claims
use mathlib.Core.Path.{◌≡◌, refl, sym, ap, subst, ◌∙◌}
use mathlib.Core.Bool.{Bool, true, false, cond}
use mathlib.Core.List.{List, [], ◌∷◌, Memᴰ}
use mathlib.Core.Option.{Option, none, some}
use Prim.Native.Nat.{ℕ, zero, suc, ◌-◌}
use native.Mathlib.Omega.{arith}
use lib.Dec.{T, eqb}
use lib.ListN.{length, get_or}
use Rattle.basis.specs.Test.{◌and◌, ◌or◌, non, any, number, find, ◌else◌, mapped, each, across, from}
use Rattle.basis.proofs.BoolLaws.{and_elim, and_intro}
use Rattle.basis.proofs.ListLaws.{each_length}
use Rattle.basis.proofs.LoopLaws.{any_same, any_each, any_elim, any_intro}
use Rattle.basis.proofs.FindLaws.{find_fewer}
use Rattle.format.specs.declared.Shape.{Shape}
use Rattle.format.specs.declared.Row.{Row}
use Rattle.format.specs.Shape.{writes, tear_free, covers, overlap, equal, sc, both_sc}
use Rattle.format.specs.Event.{Access, Event, nobody, lookup, access_at, shape_at, writes_at, saw, wrote, is_init}
use Rattle.format.specs.Execution.{Execution, no_head, event_no, event, others}
use Rattle.parse.proofs.WellSheetLaws.{exactly}
use Rattle.marks.specs.Table.{bytes_for}
use Rattle.answer.specs.declared.Names.TheVariants.{Torn}
use Rattle.answer.specs.declared.Answer.TheVariants.{Broken, Consistent}
use Rattle.model.specs.Events.{numbers, at_row, of_reader, any_two}
use Rattle.model.specs.Happens.{agent_order, row_syncs, synchronises, init_first, step, Happens, one, more, Tests}
use Rattle.model.specs.Rules.{breaks21, breaks22, breaks23, breaks24, untorn, untorn_from, breaks25, Fault, faulty, fault21, fault22, fault23, fault24, fault25, fault}
use Rattle.model.specs.Bar.{bar_a, bar_b, bar_c, row_bars, bar}
use Rattle.model.specs.Order.{problem}
use Rattle.model.specs.Unsettled.{clash, unsettled, unsettled_pair}
use Rattle.model.specs.Judged.{needed}
use Rattle.model.specs.Editions.{bare_access, bare, Looser, OnlyTornTurns, StaysConsistent}
use Rattle.model.proofs.RulesLaws.{test24, test25, triples, clean, fault_none}
use Rattle.model.proofs.JudgedLaws.{judged_unique}
use Rattle.model.proofs.Carried.{Same, judged_carried}

-- ---- what is left

each_get_or : {A B : Type 0} (f : A → B) (l : List A) (i : ℕ) (d : A) → get_or (each f l) i (f d) ≡ f (get_or l i d)
unfolding each
each_get_or f [] i d = refl
each_get_or f (a ∷ l) zero d = refl
each_get_or f (a ∷ l) (suc i) d = each_get_or f l i d

number_each : {A B : Type 0} (f : B → Bool) (g : A → B) (l : List A) → number f (each g l) ≡ number (λ (a : A). f (g a)) l
unfolding number each
number_each f g [] = refl
number_each f g (a ∷ l) = ap (λ (n : ℕ). cond (f (g a)) (suc n) n) (number_each f g l)

-- without head and tear bytes
abbrev left : Execution → Execution
left x = record { head = no_head; events = each bare x.events; rows = x.rows; pairs = x.pairs }

lookup_bare : (l : List Access) (n : ℕ) → lookup (each bare_access l) n ≡ bare_access (lookup l n)
unfolding lookup each bare_access covers
lookup_bare [] n = refl
lookup_bare (a ∷ l) n = go (covers a.shape n) (lookup_bare l n)
  where
    go : (c : Bool) → lookup (each bare_access l) n ≡ bare_access (lookup l n) → cond c (bare_access a) (lookup (each bare_access l) n) ≡ bare_access (cond c a (lookup l n))
    go true h = refl
    go false h = h

access_bare : (d : Event) (n : ℕ) → access_at (bare d) n ≡ bare_access (access_at d n)
unfolding access_at bare
access_bare d n = lookup_bare d.accesses n

event_bare : (x : Execution) (e : ℕ) → event (left x) e ≡ bare (event x e)
unfolding event event_no bare each
event_bare x e = each_get_or bare x.events e nobody

two_bare : (f : Shape → Shape → Bool) → ((a b : Access) → f (bare_access a).shape (bare_access b).shape ≡ f a.shape b.shape) → (d e : Event)
    → any_two f (bare d) (bare e) ≡ any_two f d e
unfolding any_two bare
two_bare f h d e =
    any_each (λ (p : Access). any (λ (q : Access). f p.shape q.shape) (each bare_access e.accesses)) bare_access d.accesses
    ∙ any_same _ _ d.accesses (λ p _. any_each (λ (q : Access). f (bare_access p).shape q.shape) bare_access e.accesses ∙ any_same _ _ e.accesses (λ q _. h p q))

-- ---- no definition but rule 25 looks at a tear byte

module _ (x : Execution) where
  access_left : (e n : ℕ) → access_at (event (left x) e) n ≡ bare_access (access_at (event x e) n)
  access_left e n = ap (λ (d : Event). access_at d n) (event_bare x e) ∙ access_bare (event x e) n

  agent_left : (e : ℕ) → (event (left x) e).agent ≡ (event x e).agent
  unfolding bare
  agent_left e = ap (λ (d : Event). d.agent) (event_bare x e)

  overlap_left : (e d : ℕ) → any_two overlap (event (left x) e) (event (left x) d) ≡ any_two overlap (event x e) (event x d)
  unfolding overlap bare_access
  overlap_left e d = ap (λ (c : Event). any_two overlap c (event (left x) d)) (event_bare x e) ∙ ap (any_two overlap (bare (event x e))) (event_bare x d) ∙ two_bare overlap (λ a b. refl) (event x e) (event x d)

  clash_left : (e d : ℕ) → any_two clash (event (left x) e) (event (left x) d) ≡ any_two clash (event x e) (event x d)
  unfolding clash overlap both_sc sc equal writes bare_access
  clash_left e d = ap (λ (c : Event). any_two clash c (event (left x) d)) (event_bare x e) ∙ ap (any_two clash (bare (event x e))) (event_bare x d) ∙ two_bare clash (λ a b. refl) (event x e) (event x d)

  at : (r : Row) (e : ℕ) → access_at (event (left x) e) r.address ≡ bare_access (access_at (event x e) r.address)
  at r e = access_left e r.address

  syncs_left : (r : Row) → row_syncs (left x) r ≡ row_syncs x r
  unfolding row_syncs at_row shape_at both_sc sc equal bare_access
  syncs_left r = λ i. both_sc (at r r.writer i).shape (at r r.reader i).shape

  step_left : (a b : ℕ) → step (left x) a b ≡ step x a b
  unfolding step agent_order synchronises init_first is_init ◌or◌ ◌and◌ event event_no
  step_left a b = rw (agent_left a, agent_left b, overlap_left a b, any_same _ _ x.rows (λ r _. ap (λ (c : Bool). eqb r.writer a and eqb r.reader b and c) (syncs_left r))) refl

  length_left : length (left x).events ≡ length x.events
  length_left = each_length bare x.events

  numbers_left : numbers (left x) ≡ numbers x
  unfolding numbers
  numbers_left = ap (from 0) length_left

  others_left : others (left x).events ≡ others x.events
  unfolding others is_init bare
  others_left = number_each (λ (d : Event). non (is_init d)) bare x.events

  row_left : (hb : ℕ → ℕ → Bool) (r : Row) (v : ℕ) → row_bars (left x) hb r v ≡ row_bars x hb r v
  unfolding row_bars bar_a bar_b bar_c row_syncs at_row shape_at writes_at both_sc sc equal covers writes bare_access
  row_left hb r v =
      λ i.
      non (eqb v r.reader) and non (eqb v r.writer) and (covers (at r v i).shape r.address and writes (at r v i).shape) and sc (at r v i).shape
      and ((both_sc (at r r.writer i).shape (at r r.reader i).shape and equal (at r v i).shape (at r r.reader i).shape)
      or (hb r.writer r.reader and hb v r.reader and sc (at r r.writer i).shape and equal (at r r.writer i).shape (at r v i).shape)
      or (hb r.writer r.reader and hb r.writer v and sc (at r r.reader i).shape and equal (at r v i).shape (at r r.reader i).shape))

  bar_left : (hb : ℕ → ℕ → Bool) (r w v : ℕ) → bar (left x) hb r w v ≡ bar x hb r w v
  unfolding bar
  bar_left hb r w v = any_same _ _ x.rows (λ p _. ap (λ (c : Bool). eqb p.reader r and eqb p.writer w and c) (row_left hb p v))

  unsettled_left : (hb : ℕ → ℕ → Bool) (e d : ℕ) → unsettled (left x) hb e d ≡ unsettled x hb e d
  unfolding unsettled
  unsettled_left hb e d = rw (clash_left e d) refl

  seen_left : (r : Row) → breaks21 (left x) r ≡ breaks21 x r
  unfolding breaks21 saw wrote shape_at bare_access
  seen_left r =
      λ i. non (eqb (get_or (at r r.reader i).seen (r.address - (at r r.reader i).shape.start) 0) (get_or (at r r.writer i).written (r.address - (at r r.writer i).shape.start) 0))

  between_left : (hb : ℕ → ℕ → Bool) (r : Row) (v : ℕ) → breaks24 (left x) hb r v ≡ breaks24 x hb r v
  unfolding breaks24 writes_at shape_at covers writes bare_access
  between_left hb r v = λ i. (covers (at r v i).shape r.address and writes (at r v i).shape) and hb r.writer v and hb v r.reader

  -- ---- what is searched

  problem_left : (hb : ℕ → ℕ → Bool) → problem (left x) hb ≡ problem x hb
  problem_left hb = λ i. record { events = length_left i; Before = λ e d. T (hb e d); Bar = λ r w v. T (bar_left hb r w v i) }

  pair_left : (hb : ℕ → ℕ → Bool) → unsettled_pair (left x) hb ≡ unsettled_pair x hb
  unfolding unsettled_pair
  pair_left hb = λ i. find (λ (p : ℕ × ℕ). unsettled_left hb p.0 p.1 i) (across (numbers_left i) (numbers_left i))

  equal_left : (p q : Row) (e d : ℕ) → equal (at_row (left x) p e) (at_row (left x) q d) ≡ equal (at_row x p e) (at_row x q d)
  unfolding at_row shape_at equal bare_access
  equal_left p q e d = λ i. equal (at p e i).shape (at q d i).shape

  left_21 : find (breaks21 (left x)) x.rows ≡ find (breaks21 x) x.rows
  left_21 = λ i. find (λ (r : Row). seen_left r i) x.rows

  left_24 : (hb : ℕ → ℕ → Bool) → find (test24 (left x) hb) (across x.rows (numbers (left x))) ≡ find (test24 x hb) (across x.rows (numbers x))
  left_24 hb = λ i. find (λ (p : Row × ℕ). between_left hb p.0 p.1 i) (across x.rows (numbers_left i))

-- ---- two executions that differ in their tear bytes

module _ (x y : Execution) (l : Looser x y) where
  left_same : left x ≡ left y
  left_same = λ i. record { head = no_head; events = l.events i; rows = l.rows i; pairs = l.pairs i }

  by_left : {A : Type 0} (f : Execution → A) → ((z : Execution) → f (left z) ≡ f z) → f x ≡ f y
  by_left f h = sym (h x) ∙ ap f left_same ∙ h y

  happens_there : {a b : ℕ} → Happens x a b → Happens y a b
  happens_there {a} {b} (one s) = one (subst T (by_left (λ (z : Execution). step z a b) (λ z. step_left z a b)) s)
  happens_there {a} {b} (more {d = c} s k) = more (subst T (by_left (λ (z : Execution). step z a c) (λ z. step_left z a c)) s) (happens_there k)

  happens_back : {a b : ℕ} → Happens y a b → Happens x a b
  happens_back {a} {b} (one s) = one (subst T (sym (by_left (λ (z : Execution). step z a b) (λ z. step_left z a b))) s)
  happens_back {a} {b} (more {d = c} s k) = more (subst T (sym (by_left (λ (z : Execution). step z a c) (λ z. step_left z a c))) s) (happens_back k)

  events_same : length x.events ≡ length y.events
  events_same = by_left (λ (z : Execution). length z.events) length_left

  numbers_same : numbers x ≡ numbers y
  numbers_same = by_left numbers numbers_left

  needed_same : needed x ≡ needed y
  needed_same = ap bytes_for (by_left (λ (z : Execution). others z.events) others_left)

  -- rule 25 breaks no more
  free_there : (p : Row) (e : ℕ) → T (tear_free (at_row y p e)) → T (tear_free (at_row x p e))
  unfolding at_row
  free_there p e = l.fewer e p.address

  equal_there : (p q : Row) (e d : ℕ) → T (equal (at_row y p e) (at_row y q d)) → T (equal (at_row x p e) (at_row x q d))
  equal_there p q e d = subst T (sym (by_left (λ (z : Execution). equal (at_row z p e) (at_row z q d)) (λ z. equal_left z p q e d)))

  untorn_there : (r w : ℕ) (p : Row) → T (untorn_from y r w p) → T (untorn_from x r w p)
  unfolding untorn_from untorn
  untorn_there r w p t =
      let a = and_elim _ _ t in
      let b = and_elim _ _ a.1 in
      let c = and_elim _ _ b.1 in
      let d = and_elim _ _ c.1 in
      and_intro _ _ a.0
      (and_intro _ _ b.0
      (and_intro _ _ (free_there p p.reader c.0) (and_intro _ _ (free_there p p.writer d.0) (equal_there p p p.reader p.writer d.1))))

  torn_there : (r w v : ℕ) → T (breaks25 y r w v) → T (breaks25 x r w v)
  unfolding breaks25
  torn_there r w v t =
      let a = and_elim _ _ t in
      let p = any_elim _ y.rows a.1 in
      let b = and_elim _ _ p.2 in
      let q = any_elim _ y.rows b.1 in
      let c = and_elim _ _ q.2 in
      and_intro _ _ a.0
      (any_intro (λ (i : Row). untorn_from x r w i and any (λ (j : Row). untorn_from x r v j and equal (of_reader x i) (of_reader x j)) x.rows) x.rows p.0 (subst (Memᴰ p.0) (sym l.rows) p.1)
      (and_intro _ _ (untorn_there r w p.0 b.0)
      (any_intro (λ (j : Row). untorn_from x r v j and equal (of_reader x p.0) (of_reader x j)) x.rows q.0 (subst (Memᴰ q.0) (sym l.rows) q.1)
      (and_intro _ _ (untorn_there r v q.0 c.0) (equal_there p.0 q.0 p.0.reader q.0.reader c.1)))))

  module _ (hb : ℕ → ℕ → Bool) where
    tests_there : Tests x hb → Tests y hb
    tests_there t a b = ((λ k. happens_there ((t a b).0 k)), (λ k. (t a b).1 (happens_back k)))

    problem_same : problem x hb ≡ problem y hb
    problem_same = sym (problem_left x hb) ∙ ap (λ (z : Execution). problem z hb) left_same ∙ problem_left y hb

    unbroken_there : fault x hb ≡ none → fault y hb ≡ none
    unbroken_there e =
        let c = clean x hb e in
        fault_none y hb (record {
          c21 = sym (by_left (λ (z : Execution). find (breaks21 z) z.rows) left_21) ∙ c.c21;
          c22 = ap (find (breaks22 hb)) (sym numbers_same) ∙ c.c22;
          c23 = ap (find (breaks23 hb)) (sym l.rows) ∙ c.c23;
          c24 = sym (by_left (λ (z : Execution). find (test24 z hb) (across z.rows (numbers z))) (λ z. left_24 z hb)) ∙ c.c24;
          c25 = ap (λ (n : List ℕ). find (test25 y) (across n (across n n))) (sym numbers_same)
              ∙ find_fewer (test25 x) (test25 y) (triples x) (λ t. torn_there t.0 t.1.0 t.1.1) c.c25;
        })

    -- every rule before 25 says the same
    same_21 : fault21 x ≡ fault21 y
    unfolding fault21
    same_21 = ap (mapped _) (by_left (λ (z : Execution). find (breaks21 z) z.rows) left_21)

    same_22 : fault22 x hb ≡ fault22 y hb
    unfolding fault22
    same_22 = ap (mapped _) (ap (find (breaks22 hb)) numbers_same)

    same_23 : fault23 x hb ≡ fault23 y hb
    unfolding fault23
    same_23 = ap (mapped _) (ap (find (breaks23 hb)) l.rows)

    same_24 : fault24 x hb ≡ fault24 y hb
    unfolding fault24
    same_24 = ap (mapped _) (by_left (λ (z : Execution). find (test24 z hb) (across z.rows (numbers z))) (λ z. left_24 z hb))

    torn_number : (f : Fault) → fault25 x ≡ some f → f.number ≡ 25
    unfolding fault25 mapped
    torn_number f e = go (find (test25 x) (triples x)) e
      where
        go : (o : Option (ℕ × (ℕ × ℕ))) → mapped (λ (t : ℕ × (ℕ × ℕ)). faulty 25 (Torn t.0 t.1.0 t.1.1)) o ≡ some f → f.number ≡ 25
        go none k = let z : ◌≡◌ {A = ℕ} 0 1 = cc in absurd (omega arith)
        go (some t) k = cc

    first_there : (f : Fault) → (f.number ≡ 25 → ⊥) → fault x hb ≡ some f → fault y hb ≡ some f
    unfolding fault ◌else◌
    first_there f n e =
        rw (← same_21, ← same_22, ← same_23, ← same_24) (go (fault21 x) (fault22 x hb) (fault23 x hb) (fault24 x hb) e)
      where
        go : (a b c d : Option Fault) → (a else b else c else d else fault25 x) ≡ some f → (a else b else c else d else fault25 y) ≡ some f
        go (some a) b c d k = k
        go none (some b) c d k = k
        go none none (some c) d k = k
        go none none none (some d) k = k
        go none none none none k = absurd (n (torn_number f k))

  same : Same x y
  same =
      record {
        scratch = needed_same;
        events = events_same;
        tests = tests_there;
        orders = problem_same;
        pair = λ hb. by_left (λ (z : Execution). unsettled_pair z hb) (λ z. pair_left z hb);
        unbroken = unbroken_there;
      }

-- ---- of two sheets

pub only_torn_turns : OnlyTornTurns
only_torn_turns s t x y v w l scratch order a b p q p' q' h j k =
    judged_unique t scratch order a b p q p' q'
    (judged_carried s t x y ((exactly s x).1 v) ((exactly t y).1 w) (same x y l) scratch order a p q
    (λ n names hb z. first_there x y l hb (faulty n names) (λ i. h names (z ∙ ap (λ (m : ℕ). Broken m names) i))) j) k

pub stays_consistent : StaysConsistent
stays_consistent s t x y v w l scratch order settled b p q p' q' j k =
    only_torn_turns s t x y v w l scratch order (Consistent settled) b p q p' q' (λ names e. let z : ◌≡◌ {A = ℕ} 0 1 = cc in omega arith) j k

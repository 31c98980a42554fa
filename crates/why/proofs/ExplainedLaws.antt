-- The laws of specs/Explained.antt. Assumes nothing.
--     refused_sheet, short_scratch                           refusals
--     explained_broken, explained_found                      how the code's answers are made: what the tables say is what the sheet's execution says
--     scratched_whole, whole_scratched                       what is judged: the sheet describes it and the scratch is long enough, and back
--     kept_of_lem                                                the kept list by any such test is the walk's
--     explained_unique                                       two conforming answers are equal, buffers too
use mathlib.Core.Path.{◌≡◌, refl, sym, ap, ap₂, ◌∙◌, subst}
use mathlib.Core.Bool.{Bool, true, false, cond}
use mathlib.Core.List.{List, ◌++◌, Memᴰ}
use mathlib.Core.Option.{none, some}
use Prim.Native.Nat.{ℕ, ◌-◌, ◌*◌, ◌<◌, ◌≤◌, min}
use native.Mathlib.Omega.{arith}
use borrow.Author.Tests.{lt-ltb, le-ltb, ltb-false}
use lib.Dec.{T, ltb}
use lib.ListN.{length, drop, replicate}
use Rattle.basis.proofs.ThoseLaws.{those_elim, those_intro}
use Rattle.format.specs.Execution.{Execution, inits, others}
use Rattle.entries.specs.declared.Counts.{Counts}
use Rattle.entries.specs.Entries.{execution}
use Rattle.parse.specs.Parse.{Parsed, refused, whole, parse}
use Rattle.parse.specs.Promise.{WellFormed}
use Rattle.parse.proofs.PromiseLaws.{promise}
use Rattle.sheet.specs.Handed.{HandedWhole}
use Rattle.sets.specs.Mask.{slots, Has}
use Rattle.marks.specs.Table.{bytes_for, cleared}
use Rattle.gather.specs.Writers.{bar_at}
use Rattle.orders.specs.Posed.{Triple, triples, posed}
use Rattle.orders.specs.Order.{Meets}
use Rattle.orders.specs.Step.{Below, Runs}
use Rattle.orders.specs.Answer.{Fits}
use Rattle.orders.proofs.StepLaws.{runs_fewer}
use Rattle.orders.proofs.InitsLaws.{runs_whole}
use Rattle.orders.proofs.SearchLaws.{meets_from}
use Rattle.answer.specs.declared.Names.{Names}
use Rattle.answer.specs.declared.Settled.{Settled}
use Rattle.answer.specs.Rules.{Rule, unbreached, breach}
use Rattle.tables.specs.Tables.{columns, row_room, row_cells, pair_cells}
use Rattle.lay.specs.Lay.{events_put, rows_put, Layered}
use Rattle.settle.specs.Settle.{settled_in}
use Rattle.prepare.specs.Prepared.{Ruled}
use Rattle.arrange.specs.Arranged.{bars_of}
use Rattle.model.specs.Rules.{Fault, faulty, fault}
use Rattle.model.specs.Happens.{Tests}
use Rattle.model.specs.Order.{problem}
use Rattle.model.specs.Unsettled.{unsettled_pair}
use Rattle.model.specs.Judged.{needed, settled_of}
use Rattle.model.proofs.Sound.{Sound, sound}
use Rattle.model.proofs.HappensLaws.{happens_inside}
use Rattle.model.proofs.OrderLaws.{inits_others}
use Rattle.model.proofs.JudgedLaws.{moved, same_whole, never_both}
use Rattle.front.specs.Tabled.{hb_of, found_of, Held}
use Rattle.front.proofs.LaidLaws.{laid_count, laid_need}
use Rattle.front.proofs.SheetLaws.{sheet_held, sheet_rules, held_settled}
use Rattle.front.proofs.ProblemLaws.{held_before, held_problem}
use Rattle.kept.specs.declared.Finding.{Finding}
use Rattle.kept.specs.declared.Finding.TheVariants.{Order, Bars, Small as FoundSmall, Unfit}
use Rattle.kept.specs.Bars.{has_bar, table_bars, bytes_of, before_in, Placeable}
use Rattle.kept.specs.Kept.{KeptOf, TellsNone}
use Rattle.kept.specs.Keeps.{Finds, Keeps}
use Rattle.kept.proofs.KeptLaws.{kept_is, kept_walk, kept_same}
use Rattle.kept.proofs.BarsLaws.{before_is, has_facts, has_of, triples_mem, triples_same, bars_sorted}
use Rattle.why.specs.declared.Explanation.{Explanation}
use Rattle.why.specs.declared.Explanation.TheVariants.{Refused, Broken, Consistent, Kept, Small}
use Rattle.why.specs.steps.Told.{told_of}
use Rattle.why.specs.Bars.{all_bars, OrderedBy}
use Rattle.why.specs.Explained.{scratched, NoOrder, kept_bars, ExplainedRefused, ExplainedBroken, ExplainedConsistent, ExplainedKept, ExplainedSmall, Explained}
use Rattle.why.proofs.BarsLaws.{lacks_order, bars_is, three, bars_rise, all_bars_lem, part_begins, tells_none, some_order}

-- ---- what is judged

pub record Scratched (s : List ℕ) (room : ℕ) (x : Execution) : Type 0 where
  pub describes : parse s ≡ whole x
  pub scratch : needed x ≤ room

of_parsed : (room : ℕ) (p : Parsed) (x : Execution) → scratched room p ≡ whole x → (p ≡ whole x) × (needed x ≤ room)
unfolding scratched
of_parsed room (refused n p) x h = let z : ◌≡◌ {A = ℕ} 0 1 = cc in absurd (omega arith)
of_parsed room (whole y) x h = go (ltb room (needed y)) refl h
  where
    go : (a : Bool) → ltb room (needed y) ≡ a → cond a (refused 12 0) (whole y) ≡ whole x → (whole y ≡ whole x) × (needed x ≤ room)
    go true p k = let z : ◌≡◌ {A = ℕ} 0 1 = cc in absurd (omega arith)
    go false p k = let e : y ≡ x = cc in (k, subst (λ (z : Execution). needed z ≤ room) e (ltb-false room (needed y) p))

pub scratched_whole : (s : List ℕ) (room : ℕ) (x : Execution) → scratched room (parse s) ≡ whole x → Scratched s room x
scratched_whole s room x h = let w = of_parsed room (parse s) x h in record { describes = w.0; scratch = w.1 }

pub whole_scratched : (s : List ℕ) (room : ℕ) (x : Execution) → parse s ≡ whole x → needed x ≤ room → scratched room (parse s) ≡ whole x
unfolding scratched
whole_scratched s room x e l = rw (e, le-ltb room (needed x) l) refl

-- ---- refusals

pub refused_sheet : {s scratch bars : List ℕ} {n p : ℕ} → parse s ≡ refused n p → ExplainedRefused s scratch bars n p scratch bars
unfolding scratched
refused_sheet e = record { says = rw e refl; scratch_kept = refl; bars_kept = refl }

pub short_scratch : {s : List ℕ} {x : Counts} {at : List ℕ} → HandedWhole s x at → {need : ℕ} → need ≡ bytes_for (min (x.events - x.inits) slots)
    → {scratch bars : List ℕ} → length scratch < need → ExplainedRefused s scratch bars 12 0 scratch bars
unfolding scratched
short_scratch {s} {x} {at} h k {scratch} l =
    record {
      says = rw (h.says, lt-ltb (length scratch) (needed (execution s x at)) (rw (laid_need h.laid k) at l)) refl;
      scratch_kept = refl;
      bars_kept = refl;
    }

-- what is kept, by equal tables of bars
pub keeps_by : {k n : ℕ} {pred bars bars' scratch out : List ℕ} {r : Finding} {scratch' out' : List ℕ} → bars ≡ bars' → Keeps k n pred bars scratch out r scratch' out'
    → Keeps k n pred bars' scratch out r scratch' out'
keeps_by {k} {n} {pred} {bars} {bars'} {scratch} {out} {r} {scratch'} {out'} e a = subst (λ (b : List ℕ). Keeps k n pred b scratch out r scratch' out') e a

-- ---- the kept list by a test

module _ (x : Execution) (hb : ℕ → ℕ → Bool) (so : Sound x) (tests : Tests x hb) where
  -- by whichever test it is told
  pub kept_of_lem : (test : List Triple → Bool) → TellsNone test (OrderedBy x hb) (all_bars x hb) → ((o : List ℕ) → Meets (problem x hb) o → ⊥)
      → KeptOf (OrderedBy x hb) (all_bars x hb) (kept_bars test x hb)
  kept_of_lem test tells n =
      let k = kept_walk (lacks_order x hb) (tells_none x hb so tests) (some_order x hb so tests) (λ w. n w.0 ((all_bars_lem x hb so tests w.0).0 w.1)) in
      subst (KeptOf (OrderedBy x hb) (all_bars x hb)) (kept_is test tells k) k

-- ---- from the tables

module _ {x : Execution} {n m : ℕ} {t q succ pred : List ℕ} (h : Held x n m t q succ pred) (so : Sound x) where
  abbrev hb : ℕ → ℕ → Bool
  hb = hb_of succ

  abbrev table : List ℕ
  table = bars_of t n succ pred q m

  count : length x.events ≡ n
  count = h.tabled.count

  -- the same bars
  bar_facts : (b : Triple) → Memᴰ b (table_bars n table) → (b.1.1 < n) × (b.1.0 < n) × Has (bar_at table b.1.1 b.1.0) b.0
  bar_facts b i = let f = has_facts n table b (those_elim (has_bar n table) (triples slots) b i).1 in (f.1, f.0, f.2)

  bars_same : table_bars n table ≡ all_bars x hb
  bars_same =
      triples_same _ _ (bars_sorted n table) (bars_rise x hb)
      (λ b i. (bars_is x hb so h.tests b).1 ((held_problem h so b.0 b.1.0 b.1.1).0 (bar_facts b i)))
      (λ b i.
      let c = (bars_is x hb so h.tests b).0 i in
      let f = (held_problem h so b.0 b.1.0 b.1.1).1 c in
      let z = three x hb so h.tests b c in
      let few = h.tabled.few in
      let e = count in
      let u = z.reader in
      let v = z.writer in
      let w = z.between in
      those_intro (has_bar n table) (triples slots) b (triples_mem slots b.0 b.1.0 b.1.1 (omega arith) (omega arith) (omega arith))
      (has_of n table b f.1 f.0 f.2))

  -- what has to come before what
  before_to : (a b : ℕ) → T (hb a b) → T (before_in n pred a b)
  before_to a b i = (before_is n pred a b).1 ((held_before h so a b).1 i)

  before_from : (a b : ℕ) → T (before_in n pred a b) → T (hb a b)
  before_from a b i = (held_before h so a b).0 ((before_is n pred a b).0 i)

  -- an order of all events, and a way on from the inits
  module _ {k : ℕ} (starts : k ≡ inits x.events) (l : List Triple) (part : (b : Triple) → Memᴰ b l → Memᴰ b (all_bars x hb)) where
    ordered_placed : OrderedBy x hb l → Placeable n pred k l
    ordered_placed (o, i) =
        let w = meets_from (inits x.events) (others x.events) (length x.events) (inits_others x) hb l (λ a b y. (happens_inside x so ((h.tests a b).0 y)).0)
        (part_begins x hb so h.tests l part) o i in (
          w.0,
          runs_fewer (posed (length x.events) hb l) (posed n (before_in n pred) l) (sym count) before_from (λ r y v z. z) w.0 (Below k)
              (subst (λ (j : ℕ). Runs (posed (length x.events) hb l) (Below j) w.0) (sym starts) w.1),
        )

    placed_ordered : Placeable n pred k l → OrderedBy x hb l
    placed_ordered (o, r) =
        let w = runs_fewer (posed n (before_in n pred) l) (posed (length x.events) hb l) count before_to (λ i y v z. z) o (Below k) r in
        (_, runs_whole (posed (length x.events) hb l) (inits x.events) (part_begins x hb so h.tests l part) o (subst (λ (j : ℕ). Runs (posed (length x.events) hb l) (Below j) o) starts w))

  pub found_kept : {k : ℕ} → k ≡ inits x.events → {list : List Triple} → KeptOf (Placeable n pred k) (table_bars n table) list
      → KeptOf (OrderedBy x hb) (all_bars x hb) list
  found_kept {k} starts {list} w =
      kept_same (λ l p. (placed_ordered starts l p, ordered_placed starts l p)) (subst (λ (b : List Triple). KeptOf (Placeable n pred k) b list) bars_same w)

  pub found_order : {k : ℕ} → k ≡ inits x.events → Placeable n pred k (table_bars n table) → (o : List ℕ) × Meets (problem x hb) o
  found_order {k} starts p =
      let w = placed_ordered starts (all_bars x hb) (λ b i. i) (subst (Placeable n pred k) bars_same p) in
      (w.0, (all_bars_lem x hb so h.tests w.0).0 w.1)

-- ---- how the code's answers are made

module _ {s : List ℕ} {x : Counts} {at : List ℕ} (h : HandedWhole s x at) {t q succ pred : List ℕ} {rule : Rule}
    (accesses : t ≡ events_put s x.head.edition at (min x.events slots) (replicate columns 0))
    (rows : q ≡ rows_put s x at t (min x.rows row_room) (replicate row_cells 0)) (w : Ruled s x t q (replicate slots 0) succ (replicate slots 0) pred rule) where
  abbrev X : Execution
  X = execution s x at

  well : WellFormed X
  well = promise s X h.says

  laid : Layered s x at (replicate columns 0) t (replicate row_cells 0) q (replicate pair_cells 0) w.p
  laid = record { events = accesses; rows = rows; pairs = w.pairs }

  held : Held X x.events x.rows t q w.after w.before
  held = sheet_held h.laid well laid w.ordered

  ruled : found_of rule ≡ fault X (hb_of w.after)
  ruled = ap found_of w.says ∙ sheet_rules h.laid well laid w.ordered

  counted : length X.events ≡ x.events
  counted = laid_count h.laid

  room : x.events - x.inits ≡ others X.events
  room = let e = inits_others X in let i = h.laid.inits in let l = counted in omega arith

  module _ {need : ℕ} (needs : need ≡ bytes_for (min (x.events - x.inits) slots)) where
    describes : (scratch : List ℕ) → need ≤ length scratch → scratched (length scratch) (parse s) ≡ whole X
    describes scratch enough = whole_scratched s (length scratch) X h.says (rw (laid_need h.laid needs) at enough)

    fits : (scratch : List ℕ) → need ≤ length scratch → Fits x.inits x.events (length scratch)
    fits scratch enough =
        record {
          inits = let e = inits_others X in let i = h.laid.inits in let l = counted in omega arith;
          events = h.laid.few;
          scratch = rw room (rw (laid_need h.laid needs) at enough);
        }

    pub explained_broken : {scratch bars : List ℕ} → need ≤ length scratch → {n : ℕ} {names : Names} → rule ≡ breach n names → {scratch' : List ℕ} → scratch' ≡ cleared need scratch
        → ExplainedBroken s scratch bars (faulty n names) scratch' bars
    explained_broken {scratch} enough k e =
        record {
          execution = X;
          describes = describes scratch enough;
          hb = hb_of w.after;
          tests = held.tests;
          breaks = sym ruled ∙ ap found_of k;
          scratch_cleared = e ∙ ap (λ (i : ℕ). cleared i scratch) (laid_need h.laid needs);
          bars_kept = refl;
        }

    module _ (scratch bars : List ℕ) (enough : need ≤ length scratch) (k : rule ≡ unbreached) where
      abbrev before : ℕ → ℕ → Bool
      before = hb_of w.after

      unbroken : fault X before ≡ none
      unbroken = sym ruled ∙ ap found_of k

      so : Sound X
      so = sound X well

      cleaned : {scratch' : List ℕ} → scratch' ≡ cleared (bytes_for (x.events - x.inits)) scratch → scratch' ≡ cleared (needed X) scratch
      cleaned e = e ∙ ap (λ (i : ℕ). cleared (bytes_for i) scratch) room

      abbrev list_of : List Triple
      list_of = kept_bars (lacks_order X before) X before

      -- the list that was found is the one of the definition
      same_list : {list : List Triple} → KeptOf (Placeable x.events w.before x.inits) (table_bars x.events (bars_of t x.events w.after w.before q x.rows)) list
          → NoOrder X before × (list ≡ list_of)
      same_list y =
          let z = found_kept held so h.laid.inits y in
          (record { unbroken = unbroken; no_order = λ o i. z.broken (o, (all_bars_lem X before so held.tests o).1 i) }, kept_is (lacks_order X before) (tells_none X before so held.tests) z)

      by_finding : (f : Finding) {scratch' : List ℕ} (bars' : List ℕ) → scratch' ≡ cleared (needed X) scratch
          → Finds (Placeable x.events w.before x.inits) (table_bars x.events (bars_of t x.events w.after w.before q x.rows)) bars f bars'
          → Explained s scratch bars (told_of f (settled_in t w.after (min x.events slots))) scratch' bars'
      by_finding Order bars' c y =
          record {
            execution = X;
            describes = describes scratch enough;
            hb = before;
            tests = held.tests;
            unbroken = unbroken;
            order = found_order held so h.laid.inits y.0;
            pair = held_settled held;
            scratch_cleared = c;
            bars_kept = y.1;
          }
      by_finding (Bars n) bars' c y =
          let z = same_list y.kept in
          record {
            execution = X;
            describes = describes scratch enough;
            hb = before;
            tests = held.tests;
            broken = z.0;
            test = lacks_order X before;
            tells = tells_none X before so held.tests;
            count = ap length (sym z.1) ∙ y.count;
            room = y.room;
            written = y.written ∙ ap (λ (l : List Triple). bytes_of l ++ drop (n * 3) bars) z.1;
            scratch_cleared = c;
          }
      by_finding FoundSmall bars' c y =
          let z = same_list y.kept in
          record {
            execution = X;
            describes = describes scratch enough;
            hb = before;
            tests = held.tests;
            broken = z.0;
            test = lacks_order X before;
            tells = tells_none X before so held.tests;
            over = subst (λ (l : List Triple). length bars < length l * 3) z.1 y.over;
            scratch_cleared = c;
            bars_kept = y.same;
          }
      by_finding Unfit bars' c y = absurd y

    pub explained_found : {scratch bars : List ℕ} → need ≤ length scratch → rule ≡ unbreached → {f : Finding} {scratch' bars' : List ℕ}
        → Keeps x.inits x.events pred (bars_of t x.events succ pred q x.rows) scratch bars f scratch' bars'
        → {r : Explanation} → r ≡ told_of f (settled_in t succ (min x.events slots)) → Explained s scratch bars r scratch' bars'
    explained_found {scratch} {bars} enough k {f} {scratch'} {bars'} y {r} e =
        let l = w.left k in
        let z = (rw (l.0, l.1) at y).fit (fits scratch enough) in
        subst (λ (a : Explanation). Explained s scratch bars a scratch' bars') (sym (e ∙ ap (λ (a : List ℕ). told_of f (settled_in t a (min x.events slots))) l.0))
        (by_finding scratch bars enough k f bars' (cleaned scratch bars enough k z.1) z.0)

-- ---- agreement

module _ (s scratch bars : List ℕ) where
  -- the same of another result's execution and test of happens-before
  carry : {x y : Execution} {f g : ℕ → ℕ → Bool} → scratched (length scratch) (parse s) ≡ whole x → scratched (length scratch) (parse s) ≡ whole y → Tests x f → Tests y g
      → (P : Execution → (ℕ → ℕ → Bool) → Type 0) → P x f → P y g
  carry {x} {y} {f} {g} d e i j P p = moved (same_whole d e) f g i j P p

  clear_same : {x y : Execution} {p q : List ℕ} → scratched (length scratch) (parse s) ≡ whole x → scratched (length scratch) (parse s) ≡ whole y
      → p ≡ cleared (needed x) scratch → q ≡ cleared (needed y) scratch → p ≡ q
  clear_same {x} {y} d e a b = a ∙ ap (λ (z : Execution). cleared (needed z) scratch) (same_whole d e) ∙ sym b

  sound_of : {x : Execution} → scratched (length scratch) (parse s) ≡ whole x → Sound x
  sound_of {x} d = sound x (promise s x (scratched_whole s (length scratch) x d).describes)

  -- two lists by two tests
  list_same : {x y : Execution} (f g : ℕ → ℕ → Bool) (a b : List Triple → Bool) (d : scratched (length scratch) (parse s) ≡ whole x)
      (e : scratched (length scratch) (parse s) ≡ whole y) (i : Tests x f) (j : Tests y g) → NoOrder x f → TellsNone a (OrderedBy x f) (all_bars x f)
      → TellsNone b (OrderedBy y g) (all_bars y g) → kept_bars a x f ≡ kept_bars b y g
  list_same {x} {y} f g a b d e i j n t u =
      kept_is b u (carry d e i j (λ z h. KeptOf (OrderedBy z h) (all_bars z h) (kept_bars a x f)) (kept_of_lem x f (sound_of d) i a t n.no_order))

  module _ {p q p' q' : List ℕ} where
    broken_broken : (n : ℕ) (a : Names) (m : ℕ) (b : Names) → ExplainedBroken s scratch bars (faulty n a) p q → ExplainedBroken s scratch bars (faulty m b) p' q'
        → (Broken n a ≡ Broken m b) × (p ≡ p') × (q ≡ q')
    broken_broken n a m b j k =
        let e = carry j.describes k.describes j.tests k.tests (λ y f. fault y f ≡ some (faulty n a)) j.breaks in
        let z : some (faulty n a) ≡ some (faulty m b) = sym e ∙ k.breaks in
        let w : faulty n a ≡ faulty m b = cc in
        (ap₂ Broken (ap (λ f. f.number) w) (ap (λ f. f.names) w), clear_same j.describes k.describes j.scratch_cleared k.scratch_cleared, j.bars_kept ∙ sym k.bars_kept)

    consistent_consistent : (a b : Settled) → ExplainedConsistent s scratch bars a p q → ExplainedConsistent s scratch bars b p' q' → (Consistent a ≡ Consistent b) × (p ≡ p') × (q ≡ q')
    consistent_consistent a b j k = (
      ap Consistent (carry j.describes k.describes j.tests k.tests (λ y f. a ≡ settled_of (unsettled_pair y f)) j.pair ∙ sym k.pair),
      clear_same j.describes k.describes j.scratch_cleared k.scratch_cleared,
      j.bars_kept ∙ sym k.bars_kept,
    )

    kept_kept : (n m : ℕ) → ExplainedKept s scratch bars n p q → ExplainedKept s scratch bars m p' q' → (Kept n ≡ Kept m) × (p ≡ p') × (q ≡ q')
    kept_kept n m j k =
        let l = list_same j.hb k.hb j.test k.test j.describes k.describes j.tests k.tests j.broken j.tells k.tells in
        let c : n ≡ m = sym j.count ∙ ap length l ∙ k.count in (
          ap Kept c,
          clear_same j.describes k.describes j.scratch_cleared k.scratch_cleared,
          j.written ∙ ap₂ (λ (b : List Triple) (i : ℕ). bytes_of b ++ drop (i * 3) bars) l c ∙ sym k.written,
        )

    small_small : ExplainedSmall s scratch bars p q → ExplainedSmall s scratch bars p' q' → (Small ≡ Small) × (p ≡ p') × (q ≡ q')
    small_small j k = (refl, clear_same j.describes k.describes j.scratch_cleared k.scratch_cleared, j.bars_kept ∙ sym k.bars_kept)

    kept_small : {n : ℕ} → ExplainedKept s scratch bars n p q → ExplainedSmall s scratch bars p' q' → ⊥
    kept_small j k =
        let l = ap length (list_same j.hb k.hb j.test k.test j.describes k.describes j.tests k.tests j.broken j.tells k.tells) in
        let a = j.count in
        let b = j.room in
        let c = k.over in
        omega arith

    refused_refused : (n r m t : ℕ) → ExplainedRefused s scratch bars n r p q → ExplainedRefused s scratch bars m t p' q' → (Refused n r ≡ Refused m t) × (p ≡ p') × (q ≡ q')
    refused_refused n r m t j k =
        let e : refused n r ≡ refused m t = sym j.says ∙ k.says in
        let a : n ≡ m = cc in
        let b : r ≡ t = cc in
        (ap₂ Refused a b, j.scratch_kept ∙ sym k.scratch_kept, j.bars_kept ∙ sym k.bars_kept)

  -- a rule of 21 to 25, and none
  broken_none : {x y : Execution} (f g : ℕ → ℕ → Bool) {b : Fault} → scratched (length scratch) (parse s) ≡ whole x → scratched (length scratch) (parse s) ≡ whole y
      → Tests x f → Tests y g → fault x f ≡ some b → fault y g ≡ none → ⊥
  broken_none {x} {y} f g {b} d e i j u v =
      let w : fault y g ≡ some b = carry d e i j (λ y h. fault y h ≡ some b) u in
      let z : ◌≡◌ {A = ℕ} 0 1 = cc in
      omega arith

  -- an order, and none
  order_none : {x y : Execution} (f g : ℕ → ℕ → Bool) → scratched (length scratch) (parse s) ≡ whole x → scratched (length scratch) (parse s) ≡ whole y
      → Tests x f → Tests y g → (o : List ℕ) × Meets (problem x f) o → NoOrder y g → ⊥
  order_none f g d e i j o n = let w = carry d e i j (λ y h. (o : List ℕ) × Meets (problem y h) o) o in n.no_order w.0 w.1

  pub explained_unique : (a b : Explanation) (p q p' q' : List ℕ) → Explained s scratch bars a p q → Explained s scratch bars b p' q' → (a ≡ b) × (p ≡ p') × (q ≡ q')
  explained_unique (Refused n r) (Refused m t) p q p' q' j k = refused_refused n r m t j k
  explained_unique (Refused n r) (Broken m b) p q p' q' j k = absurd (never_both k.describes j.says)
  explained_unique (Refused n r) (Consistent b) p q p' q' j k = absurd (never_both k.describes j.says)
  explained_unique (Refused n r) (Kept m) p q p' q' j k = absurd (never_both k.describes j.says)
  explained_unique (Refused n r) Small p q p' q' j k = absurd (never_both k.describes j.says)
  explained_unique (Broken n a) (Refused m t) p q p' q' j k = absurd (never_both j.describes k.says)
  explained_unique (Broken n a) (Broken m b) p q p' q' j k = broken_broken n a m b j k
  explained_unique (Broken n a) (Consistent b) p q p' q' j k = absurd (broken_none j.hb k.hb j.describes k.describes j.tests k.tests j.breaks k.unbroken)
  explained_unique (Broken n a) (Kept m) p q p' q' j k = absurd (broken_none j.hb k.hb j.describes k.describes j.tests k.tests j.breaks k.broken.unbroken)
  explained_unique (Broken n a) Small p q p' q' j k = absurd (broken_none j.hb k.hb j.describes k.describes j.tests k.tests j.breaks k.broken.unbroken)
  explained_unique (Consistent a) (Refused m t) p q p' q' j k = absurd (never_both j.describes k.says)
  explained_unique (Consistent a) (Broken m b) p q p' q' j k = absurd (broken_none k.hb j.hb k.describes j.describes k.tests j.tests k.breaks j.unbroken)
  explained_unique (Consistent a) (Consistent b) p q p' q' j k = consistent_consistent a b j k
  explained_unique (Consistent a) (Kept m) p q p' q' j k = absurd (order_none j.hb k.hb j.describes k.describes j.tests k.tests j.order k.broken)
  explained_unique (Consistent a) Small p q p' q' j k = absurd (order_none j.hb k.hb j.describes k.describes j.tests k.tests j.order k.broken)
  explained_unique (Kept n) (Refused m t) p q p' q' j k = absurd (never_both j.describes k.says)
  explained_unique (Kept n) (Broken m b) p q p' q' j k = absurd (broken_none k.hb j.hb k.describes j.describes k.tests j.tests k.breaks j.broken.unbroken)
  explained_unique (Kept n) (Consistent b) p q p' q' j k = absurd (order_none k.hb j.hb k.describes j.describes k.tests j.tests k.order j.broken)
  explained_unique (Kept n) (Kept m) p q p' q' j k = kept_kept n m j k
  explained_unique (Kept n) Small p q p' q' j k = absurd (kept_small j k)
  explained_unique Small (Refused m t) p q p' q' j k = absurd (never_both j.describes k.says)
  explained_unique Small (Broken m b) p q p' q' j k = absurd (broken_none k.hb j.hb k.describes j.describes k.tests j.tests k.breaks j.broken.unbroken)
  explained_unique Small (Consistent b) p q p' q' j k = absurd (order_none k.hb j.hb k.describes j.describes k.tests j.tests k.order j.broken)
  explained_unique Small (Kept m) p q p' q' j k = absurd (kept_small k j)
  explained_unique Small Small p q p' q' j k = small_small j k

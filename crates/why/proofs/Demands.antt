-- Each claim of specs/Demands.antt. Assumes nothing.
use mathlib.Core.Path.{◌≡◌, refl, sym, ap, ◌∙◌, subst}
use mathlib.Core.Logic.{◌⊎◌, ◌↔◌, inl, inr, ⊎_elim}
use mathlib.Core.Bool.{Bool, true, false, cond}
use mathlib.Core.List.{List, [], ◌∷◌, ◌++◌}
use mathlib.Core.Option.{Option, none, some}
use Prim.Native.Nat.{ℕ, ◌*◌, ◌<◌, ◌≤◌}
use native.Mathlib.Nat.{mul-le-mul_right}
use native.Mathlib.Decide.{dec_lt}
use native.Mathlib.Omega.{arith}
use borrow.Author.Tests.{lt-ltb}
use lib.Dec.{ltb}
use lib.ListN.{length, drop}
use Rattle.format.specs.Execution.{Execution}
use Rattle.parse.specs.Parse.{Parsed, refused, whole, parse}
use Rattle.parse.specs.WellSheet.{WellSheet}
use Rattle.parse.proofs.PromiseLaws.{promise}
use Rattle.parse.proofs.WellSheetLaws.{exactly}
use Rattle.parse.proofs.RefusalLaws.{refusal_low}
use Rattle.marks.specs.Table.{cleared}
use Rattle.orders.specs.Posed.{Triple}
use Rattle.orders.specs.Order.{Meets}
use Rattle.answer.specs.declared.Names.TheVariants.{Nobody}
use Rattle.answer.specs.declared.Settled.{Settled}
use Rattle.answer.specs.declared.Answer.{Answer}
use Rattle.answer.specs.declared.Answer.TheVariants.{Refused as JudgeRefused, Broken as JudgeBroken, Consistent as JudgeConsistent}
use Rattle.answer.specs.NameOf.{pair_of}
use Rattle.answer.specs.Fit.{FourBelow}
use Rattle.model.specs.Happens.{Tests}
use Rattle.model.specs.Rules.{Fault, faulty, fault}
use Rattle.model.specs.Order.{problem}
use Rattle.model.specs.Unsettled.{unsettled_pair}
use Rattle.model.specs.Judged.{needed, settled_of, Judged}
use Rattle.model.proofs.Sound.{Sound, sound}
use Rattle.model.proofs.RulesLaws.{fault_low}
use Rattle.model.proofs.Outcome.{first_order}
use Rattle.model.proofs.SearchLaws.{Found, first_order_lem}
use Rattle.model.proofs.JudgedLaws.{admitted_whole, whole_admitted, Short, scratch_short, order_short, refused_cases, moved, same_whole, never_both}
use Rattle.model.proofs.VerdictLaws.{few_events}
use Rattle.model.proofs.FitLaws.{breaks_fits, pair_fits_lem}
use Rattle.model.proofs.Demands.{testable}
use Rattle.kept.specs.Bars.{bytes_of}
use Rattle.kept.specs.Kept.{KeptOf, TellsNone}
use Rattle.kept.proofs.KeptLaws.{sub_sorted, sub_length, walk_none, walk_needs, walk_sub, kept_nothing}
use Rattle.kept.proofs.NumbersLaws.{Below3}
use Rattle.why.specs.declared.Explanation.{Explanation}
use Rattle.why.specs.declared.Explanation.TheVariants.{Refused, Broken, Consistent, Kept, Small}
use Rattle.why.specs.Bars.{all_bars, OrderedBy}
use Rattle.why.specs.Explained.{scratched, NoOrder, kept_bars, Explained}
use Rattle.why.specs.Word.{FitsWhy}
use Rattle.why.specs.Demands.{Result, EveryWhy, Agreement, Core, KeptMeans, KeptNever, ThreeEvents, IsKept, Alike, AsTheJudge, KeptExactly, Untouched, RoomEnough, FitsWord}
use Rattle.why.proofs.BarsLaws.{lacks_order, bars_is, three, bars_rise, bars_few, ordered_fewer, tells_none, before_alone}
use Rattle.why.proofs.ExplainedLaws.{scratched_whole, whole_scratched, refused_sheet, kept_of_lem, explained_unique}
use Rattle.why.proofs.WordLaws.{explanation_in_lem}

-- ---- every sheet gets an explanation

module _ (s scratch bars : List ℕ) where
  module _ (x : Execution) (d : scratched (length scratch) (parse s) ≡ whole x) (hb : ℕ → ℕ → Bool) (tests : Tests x hb) where
    so : Sound x
    so = sound x (promise s x (scratched_whole s (length scratch) x d).describes)

    abbrev list : List Triple
    list = kept_bars (lacks_order x hb) x hb

    -- 26: the kept list, or 16
    told_kept : NoOrder x hb → (r : Result s scratch bars) × IsKept r.answer
    told_kept n = go (dec_lt (length bars) (length list * 3))
      where
        go : Dec (length bars < length list * 3) → (r : Result s scratch bars) × IsKept r.answer
        go (yes l) = (
          record {
            answer = Small;
            scratch' = cleared (needed x) scratch;
            bars' = bars;
            explained = record {
              execution = x;
              describes = d;
              hb = hb;
              tests = tests;
              broken = n;
              test = lacks_order x hb;
              tells = tells_none x hb so tests;
              over = l;
              scratch_cleared = refl;
              bars_kept = refl;
            };
          },
          inr refl,
        )
        go (no l) = (
          record {
            answer = Kept (length list);
            scratch' = cleared (needed x) scratch;
            bars' = bytes_of list ++ drop (length list * 3) bars;
            explained = record {
              execution = x;
              describes = d;
              hb = hb;
              tests = tests;
              broken = n;
              test = lacks_order x hb;
              tells = tells_none x hb so tests;
              count = refl;
              room = omega arith;
              written = refl;
              scratch_cleared = refl;
            };
          },
          inl (length list, refl),
        )

    by_order : fault x hb ≡ none → (o : Option (List ℕ)) → Found x hb so tests o → Result s scratch bars
    by_order u none f = (told_kept (record { unbroken = u; no_order = f })).0
    by_order u (some o) f =
        record {
          answer = Consistent (settled_of (unsettled_pair x hb));
          scratch' = cleared (needed x) scratch;
          bars' = bars;
          explained = record {
            execution = x;
            describes = d;
            hb = hb;
            tests = tests;
            unbroken = u;
            order = (o, f.is);
            pair = refl;
            scratch_cleared = refl;
            bars_kept = refl;
          };
        }

    by_fault : (f : Option Fault) → fault x hb ≡ f → Result s scratch bars
    by_fault none u = by_order u (first_order x hb) (first_order_lem x hb so tests)
    by_fault (some f) u =
        record {
          answer = Broken f.number f.names;
          scratch' = cleared (needed x) scratch;
          bars' = bars;
          explained = record { execution = x; describes = d; hb = hb; tests = tests; breaks = u; scratch_cleared = refl; bars_kept = refl };
        }

  result : (p : Parsed) → scratched (length scratch) (parse s) ≡ p → Result s scratch bars
  result (refused n p) e =
      record { answer = Refused n p; scratch' = scratch; bars' = bars; explained = record { says = e; scratch_kept = refl; bars_kept = refl } }
  result (whole x) e =
      let w = testable s x ((exactly s x).0 (scratched_whole s (length scratch) x e).describes) in
      by_fault x e w.0 w.1 (fault x w.0) refl

pub every_why : EveryWhy
every_why s scratch bars = result s scratch bars (scratched (length scratch) (parse s)) refl

pub agreement : Agreement
agreement s scratch bars a b p q p' q' = explained_unique s scratch bars a b p q p' q'

-- ---- the kept list

whole_of : (s : List ℕ) (x : Execution) → WellSheet s x → parse s ≡ whole x
whole_of s x w = (exactly s x).1 w

length_none : {A : Type 0} (l : List A) → (length l ≡ 0) ↔ (l ≡ [])
length_none [] = ((λ e. refl), (λ e. refl))
length_none (a ∷ l) = ((λ e. absurd (omega arith)), (λ e. ap length e))

module _ (x : Execution) (hb : ℕ → ℕ → Bool) {l : List Triple} (k : KeptOf (OrderedBy x hb) (all_bars x hb) l) where
  core_of : Core x hb l
  core_of =
      record {
        part = walk_sub k.walk;
        rises = sub_sorted Below3 (walk_sub k.walk) (bars_rise x hb);
        none = walk_none k.broken k.walk;
        each = walk_needs (ordered_fewer x hb) k.walk;
      }

pub kept_means : KeptMeans
kept_means s scratch bars n scratch' bars' x hb w tests k =
    let d = (scratched_whole s (length scratch) k.execution k.describes).describes in
    let e = same_whole d (whole_of s x w) in
    let l = kept_bars k.test k.execution k.hb in
    let so = sound k.execution (promise s k.execution d) in
    let y : KeptOf (OrderedBy x hb) (all_bars x hb) l =
    moved e k.hb hb k.tests tests (λ z h. KeptOf (OrderedBy z h) (all_bars z h) l) (kept_of_lem k.execution k.hb so k.tests k.test k.tells k.broken.no_order) in
    let z = kept_nothing (ordered_fewer x hb) l y in
    let c = k.count in (
      moved e k.hb hb k.tests tests (λ z h. NoOrder z h) k.broken,
      record {
        list = l;
        core = core_of x hb y;
        count = c;
        front = k.written;
        nothing = ((λ q. z.0 ((length_none l).0 (c ∙ q))), (λ q. sym c ∙ (length_none l).1 (z.1 q)));
      },
    )

pub kept_never : KeptNever
kept_never s scratch bars scratch' bars' k =
    let d = (scratched_whole s (length scratch) k.execution k.describes).describes in
    let w = (exactly s k.execution).0 d in
    let m = kept_means s scratch bars 0 scratch' bars' k.execution k.hb w k.tests k in
    m.1.nothing.0 refl (before_alone k.execution k.hb (sound k.execution (promise s k.execution d)) k.tests k.broken.unbroken)

pub three_events : ThreeEvents
three_events s x hb w tests b i =
    let so = sound x (promise s x (whole_of s x w)) in three x hb so tests b ((bars_is x hb so tests b).0 i)

-- ---- beside the judge

module _ (s scratch bars : List ℕ) (r : Explanation) (p' q' : List ℕ) (k : Explained s scratch bars r p' q') where
  -- what else is Explained is the same
  is : (a : Explanation) (p q : List ℕ) → Explained s scratch bars a p q → r ≡ a
  is a p q e = (explained_unique s scratch bars r a p' q' p q k e).0

  is_kept : (x : Execution) → scratched (length scratch) (parse s) ≡ whole x → (hb : ℕ → ℕ → Bool) → Tests x hb → NoOrder x hb → IsKept r
  is_kept x d hb tests n =
      let w = told_kept s scratch bars x d hb tests n in
      subst IsKept (sym (is w.0.answer w.0.scratch' w.0.bars' w.0.explained)) w.1

  short : (x : Execution) → parse s ≡ whole x → length scratch < needed x → r ≡ Refused 12 0
  unfolding scratched
  short x d l = is (Refused 12 0) scratch bars (record { says = rw (d, lt-ltb (length scratch) (needed x) l) refl; scratch_kept = refl; bars_kept = refl })

  short_case : {places n p : ℕ} → Short s (length scratch) places n p → (r ≡ Refused n p) ⊎ (n ≡ 13)
  short_case (scratch_short x d l) = inl (short x d l)
  short_case (order_short x d l h) = inr refl

  module _ (order p q : List ℕ) where
    alike : (a : Answer) → Judged s scratch order a p q → Alike a r
    alike (JudgeRefused n t) j =
        ⊎_elim (λ e. inl (is (Refused n t) scratch bars (refused_sheet e))) short_case (refused_cases s (length scratch) (length order) n t j.says)
    alike (JudgeBroken n names) j =
        let d = admitted_whole s (length scratch) (length order) j.execution j.describes in
        let e = whole_scratched s (length scratch) j.execution d.describes d.scratch in
        ⊎_elim
        (λ u. inl (is (Broken n names) (cleared (needed j.execution) scratch) bars
        (record { execution = j.execution; describes = e; hb = j.hb; tests = j.tests; breaks = u; scratch_cleared = refl; bars_kept = refl })))
        (λ u. inr (ap (λ (f : Fault). f.number) u.names, is_kept j.execution e j.hb j.tests (record { unbroken = u.unbroken; no_order = u.no_order })))
        j.breaks
    alike (JudgeConsistent t) j =
        let d = admitted_whole s (length scratch) (length order) j.execution j.describes in
        let e = whole_scratched s (length scratch) j.execution d.describes d.scratch in
        is (Consistent t) (cleared (needed j.execution) scratch) bars
        (record {
          execution = j.execution;
          describes = e;
          hb = j.hb;
          tests = j.tests;
          unbroken = j.unbroken;
          order = (_, j.first.is);
          pair = j.pair;
          scratch_cleared = refl;
          bars_kept = refl;
        })

pub as_the_judge : AsTheJudge
as_the_judge s scratch order bars a p q r p' q' j k = alike s scratch bars r p' q' k order p q a j

-- an explanation of 26 says that no order exists
record Unordered (s : List ℕ) (room : ℕ) : Type 0 where
  execution : Execution
  describes : parse s ≡ whole execution
  scratch : needed execution ≤ room
  hb : ℕ → ℕ → Bool
  tests : Tests execution hb
  broken : NoOrder execution hb

unordered : (s scratch bars : List ℕ) (r : Explanation) (p q : List ℕ) → IsKept r → Explained s scratch bars r p q → Unordered s (length scratch)
unordered s scratch bars r p q (inl (n, e)) k =
    let j = subst (λ (a : Explanation). Explained s scratch bars a p q) e k in
    let d = scratched_whole s (length scratch) j.execution j.describes in
    record { execution = j.execution; describes = d.describes; scratch = d.scratch; hb = j.hb; tests = j.tests; broken = j.broken }
unordered s scratch bars r p q (inr e) k =
    let j = subst (λ (a : Explanation). Explained s scratch bars a p q) e k in
    let d = scratched_whole s (length scratch) j.execution j.describes in
    record { execution = j.execution; describes = d.describes; scratch = d.scratch; hb = j.hb; tests = j.tests; broken = j.broken }

module _ (s scratch order : List ℕ) (u : Unordered s (length scratch)) (long : length u.execution.events ≤ length order) where
  -- so the judge says 26
  said_26 : (a : Answer) (p q : List ℕ) → Judged s scratch order a p q → a ≡ JudgeBroken 26 Nobody
  said_26 (JudgeRefused n t) p q j =
      absurd (never_both (whole_admitted s (length scratch) (length order) u.execution u.describes u.scratch long) j.says)
  said_26 (JudgeBroken n names) p q j =
      let e = same_whole u.describes (admitted_whole s (length scratch) (length order) j.execution j.describes).describes in
      ⊎_elim
      (λ f.
      let w : fault j.execution j.hb ≡ none = moved e u.hb j.hb u.tests j.tests (λ y h. fault y h ≡ none) u.broken.unbroken in
      let z : ◌≡◌ {A = ℕ} 0 1 = cc in
      absurd (omega arith))
      (λ v. ap (λ (f : Fault). JudgeBroken f.number f.names) v.names) j.breaks
  said_26 (JudgeConsistent t) p q j =
      let e = same_whole u.describes (admitted_whole s (length scratch) (length order) j.execution j.describes).describes in
      absurd (moved e u.hb j.hb u.tests j.tests (λ y h. (o : List ℕ) → Meets (problem y h) o → ⊥) u.broken.no_order _ j.first.is)

pub kept_exactly : KeptExactly
kept_exactly s scratch order bars a p q r p' q' x w long j k = (
  (λ e. forth (subst (λ (b : Answer). Judged s scratch order b p q) e j)),
  (λ i.
      let u = unordered s scratch bars r p' q' i k in
      said_26 s scratch order u (subst (λ (y : Execution). length y.events ≤ length order) (same_whole (whole_of s x w) u.describes) long) a p q j),
)
  where
    forth : Judged s scratch order (JudgeBroken 26 Nobody) p q → IsKept r
    forth j =
        let d = admitted_whole s (length scratch) (length order) j.execution j.describes in
        let e = whole_scratched s (length scratch) j.execution d.describes d.scratch in
        ⊎_elim (λ f. let z = fault_low j.execution j.hb (faulty 26 Nobody) f in absurd (omega arith))
        (λ u. is_kept s scratch bars r p' q' k j.execution e j.hb j.tests (record { unbroken = u.unbroken; no_order = u.no_order })) j.breaks

-- ---- buffers

pub untouched : Untouched
untouched =
    record {
      refused = λ s scratch bars n p scratch' bars' k. (k.scratch_kept, k.bars_kept);
      small = λ s scratch bars scratch' bars' x w k.
          let e = same_whole (scratched_whole s (length scratch) k.execution k.describes).describes (whole_of s x w) in
          (subst (λ (y : Execution). scratch' ≡ cleared (needed y) scratch) e k.scratch_cleared, k.bars_kept);
    }

cube : (n : ℕ) → n ≤ 22 → n * (n * n) ≤ 10648
cube n h = let a = mul-le-mul_right n h in let b = mul-le-mul_right (n * n) h in omega arith

-- no more bars are kept than there are triples
kept_few : (s scratch : List ℕ) (x : Execution) (d : scratched (length scratch) (parse s) ≡ whole x) (hb : ℕ → ℕ → Bool) → Tests x hb → NoOrder x hb → (test : List Triple → Bool)
    → TellsNone test (OrderedBy x hb) (all_bars x hb) → length (kept_bars test x hb) ≤ 10648
kept_few s scratch x d hb tests n test tells =
    let wf = promise s x (scratched_whole s (length scratch) x d).describes in
    let y = kept_of_lem x hb (sound x wf) tests test tells n.no_order in
    let a = sub_length (walk_sub y.walk) in
    let b = bars_few x hb in
    let c = cube (length x.events) (few_events x wf) in
    omega (arith, a, b, c)

pub room_enough : RoomEnough
room_enough s scratch bars scratch' bars' l k =
    let a = kept_few s scratch k.execution k.describes k.hb k.tests k.broken k.test k.tells in let o = k.over in omega (arith, a, o, l)

-- ---- the word

refused_of : (room : ℕ) (p : Parsed) {n m : ℕ} → scratched room p ≡ refused n m → (p ≡ refused n m) ⊎ ((n ≡ 12) × (m ≡ 0))
unfolding scratched
refused_of room (refused n m) e = inl e
refused_of room (whole x) {n} {m} e = go (ltb room (needed x)) e
  where
    go : (b : Bool) → cond b (refused 12 0) (whole x) ≡ refused n m → (whole x ≡ refused n m) ⊎ ((n ≡ 12) × (m ≡ 0))
    go true q = let a : n ≡ 12 = cc in let b : m ≡ 0 = cc in inr (a, b)
    go false q = inl q

explained_fits : (s scratch bars : List ℕ) (r : Explanation) (p q : List ℕ) → Explained s scratch bars r p q → FitsWhy r
explained_fits s scratch bars (Refused n t) p q k =
    ⊎_elim (λ e. let l = refusal_low s n t e in let a = l.0 in let b = l.1 in ((omega arith, omega arith), omega arith)) (λ e. let a = e.0 in let b = e.1 in ((omega arith, omega arith), omega arith))
    (refused_of (length scratch) (parse s) k.says)
explained_fits s scratch bars (Broken n names) p q k =
    breaks_fits k.execution (promise s k.execution (scratched_whole s (length scratch) k.execution k.describes).describes) k.hb k.tests n names (inl k.breaks)
explained_fits s scratch bars (Consistent t) p q k =
    subst (λ (u : Settled). FourBelow 255 (pair_of u)) (sym k.pair)
    (pair_fits_lem k.execution (promise s k.execution (scratched_whole s (length scratch) k.execution k.describes).describes) k.hb (unsettled_pair k.execution k.hb) refl)
explained_fits s scratch bars (Kept n) p q k =
    let a = kept_few s scratch k.execution k.describes k.hb k.tests k.broken k.test k.tells in let c = k.count in omega (arith, a, c)
explained_fits s scratch bars Small p q k = tt

pub fits_word : FitsWord
fits_word s scratch bars r p q k = explanation_in_lem r (explained_fits s scratch bars r p q k)

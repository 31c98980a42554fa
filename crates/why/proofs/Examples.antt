-- The explanations of specs/Examples.antt, computed from the definitions by one statement, and the law that makes each an `Explained`. Assumes nothing.
--     Said, say_of s room places     the explanation and the kept list as they compute, happens-before by a table of truth values (model/proofs/Outcome.antt)
--     said                          it is the one that is Explained
--     right                         the examples
use mathlib.Core.Path.{◌≡◌, refl, sym, ap, subst}
use mathlib.Core.Bool.{Bool, true, false, cond}
use mathlib.Core.List.{List, [], ◌++◌, Memᴰ, head-eq_of_cons-eq, tail-eq_of_cons-eq}
use mathlib.Core.Option.{Option, none, some}
use Prim.Native.Nat.{ℕ, ◌*◌}
use borrow.Author.Tests.{ltb-true, ltb-false}
use lib.Dec.{ltb}
use lib.ListN.{length, drop}
use Rattle.basis.specs.Test.{◌and◌, ◌or◌, non, any, all, number, those, keep, find, ◌else◌, mapped, each, across, from}
use Rattle.format.specs.Shape.{reads, writes, marks, initial, unordered, sc, tear_free, covers, overlap, equal, both_sc, divides, unbroken, tear_of}
use Rattle.format.specs.Event.{lookup, access_at, shape_at, reads_at, writes_at, saw, wrote, is_init, reads_some, is_marker, meets}
use Rattle.format.specs.Execution.{event_no, event, inits, others, row_below, pair_below}
use Rattle.format.specs.Field.{value_at}
use Rattle.format.specs.Layout.{head_bytes, event_bytes, tear_by, data_bytes, seen_of, written_of, row_bytes}
use Rattle.content.specs.Content.{within, head_fits, inside, init_formed, sized, kind_fits, other_formed, formed, tear_fits, alone, stands_first, event_fits, room_in, joins, row_rises, row_fits, parts, pair_rises, pair_fits}
use Rattle.parse.specs.Parse.{place_of, allowed, head_fault, event_fault_by, row_fault, pair_fault, value_fault_by, fault_by, taken, after, is_row, lacks, lowest_lacking, appears, missing, completed, finish, fields_from, parse}
use Rattle.orders.proofs.Search.{member, without, first_of, gated, unless_done, free, search, order_in}
use Rattle.model.specs.Events.{numbers, at_row, any_two}
use Rattle.model.specs.Happens.{agent_order, row_syncs, synchronises, init_first, step}
use Rattle.model.specs.Rules.{breaks21, breaks22, breaks23, breaks24, untorn, untorn_from, breaks25, fault21, fault22, fault23, fault24, fault25, fault}
use Rattle.model.specs.Bar.{bar_a, bar_b, bar_c, row_bars}
use Rattle.model.specs.Unsettled.{clash, unsettled, unsettled_pair}
use Rattle.model.specs.Judged.{needed, settled_of}
use Rattle.model.proofs.Outcome.{table, look, through, warshall, hb_table}
use Rattle.model.specs.Bar.{bar}
use Rattle.basis.proofs.BoolLaws.{true_T}
use Rattle.format.specs.Execution.{Execution}
use Rattle.parse.specs.Parse.{Parsed, refused, whole}
use Rattle.parse.proofs.PromiseLaws.{promise}
use Rattle.marks.specs.Table.{cleared}
use Rattle.orders.specs.Posed.{Triple}
use Rattle.model.specs.Happens.{Tests}
use Rattle.model.specs.Rules.{Fault}
use Rattle.model.proofs.Sound.{Sound, sound}
use Rattle.model.proofs.ClosureLaws.{table_tests}
use Rattle.kept.specs.Kept.{kept_of}
use Rattle.kept.specs.Bars.{bytes_of}
use Rattle.kept.proofs.NumbersLaws.{bytes_length}
use Rattle.why.specs.declared.Explanation.{Explanation}
use Rattle.why.specs.declared.Explanation.TheVariants.{Refused, Broken, Consistent, Kept, Small}
use Rattle.why.specs.Bars.{all_bars}
use Rattle.why.specs.Explained.{scratched, NoOrder, kept_bars, Explained}
use Rattle.why.specs.Examples.{Example, examples, Right}
use Rattle.why.proofs.BarsLaws.{lacks as lacksOrder, lacks_order, all_bars_lem, tells_none, some_order}
use Rattle.why.proofs.ExplainedLaws.{scratched_whole}

-- ---- the explanation, computed

pub record Said : Type 0 where
  pub answer : Explanation
  pub kept : List ℕ

abbrev pub saying : Explanation → List ℕ → Said
saying a k = record { answer = a; kept = k }

-- of a kept list and the room for it
unfoldable pub listed : ℕ → List Triple → Said
listed places l = cond (ltb places (length l * 3)) (saying Small []) (saying (Kept (length l)) (bytes_of l))

-- by whether all bars leave an order
unfoldable pub ordered : ℕ → Execution → (ℕ → ℕ → Bool) → Bool → Said
ordered places x hb false = saying (Consistent (settled_of (unsettled_pair x hb))) []
ordered places x hb true = listed places (kept_bars (lacks_order x hb) x hb)

unfoldable pub judged : ℕ → Execution → (ℕ → ℕ → Bool) → Option Fault → Said
judged places x hb (some f) = saying (Broken f.number f.names) []
judged places x hb none = ordered places x hb (lacks_order x hb (all_bars x hb))

unfoldable pub say_of : ℕ → Parsed → Said
say_of places (refused n p) = saying (Refused n p) []
say_of places (whole x) = let t = hb_table x in judged places x (look t) (fault x (look t))

abbrev pub say : List ℕ → ℕ → ℕ → Said
say s room places = say_of places (scratched room (parse s))

-- ---- it is the one

module _ (s scratch bars : List ℕ) where
  abbrev Says : Said → Type 0
  Says o = (scratch' : List ℕ) × Explained s scratch bars o.answer scratch' (o.kept ++ drop (length o.kept) bars)

  module _ (x : Execution) (d : scratched (length scratch) (parse s) ≡ whole x) (hb : ℕ → ℕ → Bool) (tests : Tests x hb) where
    so : Sound x
    so = sound x (promise s x (scratched_whole s (length scratch) x d).describes)

    of_list : NoOrder x hb → Says (listed (length bars) (kept_bars (lacks_order x hb) x hb))
    unfolding listed
    of_list n = go (ltb (length bars) (length (kept_bars (lacks_order x hb) x hb) * 3)) refl
      where
        go : (b : Bool) → ltb (length bars) (length (kept_bars (lacks_order x hb) x hb) * 3) ≡ b
            → Says (cond b (saying Small []) (saying (Kept (length (kept_bars (lacks_order x hb) x hb))) (bytes_of (kept_bars (lacks_order x hb) x hb))))
        go true e = (
          cleared (needed x) scratch,
          record {
            execution = x;
            describes = d;
            hb = hb;
            tests = tests;
            broken = n;
            test = lacks_order x hb;
            tells = tells_none x hb so tests;
            over = ltb-true _ _ e;
            scratch_cleared = refl;
            bars_kept = refl;
          },
        )
        go false e = (
          cleared (needed x) scratch,
          record {
            execution = x;
            describes = d;
            hb = hb;
            tests = tests;
            broken = n;
            test = lacks_order x hb;
            tells = tells_none x hb so tests;
            count = refl;
            room = ltb-false _ _ e;
            written = ap (λ (i : ℕ). bytes_of (kept_bars (lacks_order x hb) x hb) ++ drop i bars) (bytes_length (kept_bars (lacks_order x hb) x hb));
            scratch_cleared = refl;
          },
        )

    of_order : fault x hb ≡ none → (b : Bool) → lacks_order x hb (all_bars x hb) ≡ b → Says (ordered (length bars) x hb b)
    unfolding ordered
    of_order u false e =
        let w = some_order x hb so tests (all_bars x hb) (λ c i. i) e in (
          cleared (needed x) scratch,
          record {
            execution = x;
            describes = d;
            hb = hb;
            tests = tests;
            unbroken = u;
            order = (w.0, (all_bars_lem x hb so tests w.0).0 w.1);
            pair = refl;
            scratch_cleared = refl;
            bars_kept = refl;
          },
        )
    of_order u true e =
        of_list (record { unbroken = u; no_order = λ o i. (tells_none x hb so tests (all_bars x hb) (λ c m. m)).0 (true_T _ e) (o, (all_bars_lem x hb so tests o).1 i) })

    of_fault : (f : Option Fault) → fault x hb ≡ f → Says (judged (length bars) x hb f)
    unfolding judged
    of_fault (some f) u =
        (cleared (needed x) scratch, record { execution = x; describes = d; hb = hb; tests = tests; breaks = u; scratch_cleared = refl; bars_kept = refl })
    of_fault none u = of_order u (lacks_order x hb (all_bars x hb)) refl

  of_parsed : (p : Parsed) → scratched (length scratch) (parse s) ≡ p → Says (say_of (length bars) p)
  unfolding say_of
  of_parsed (refused n p) e = (scratch, record { says = e; scratch_kept = refl; bars_kept = refl })
  of_parsed (whole x) e =
      of_fault x e (look (hb_table x)) (table_tests x (sound x (promise s x (scratched_whole s (length scratch) x e).describes))) (fault x (look (hb_table x))) refl

  pub said : Says (say s (length scratch) (length bars))
  said = of_parsed (scratched (length scratch) (parse s)) refl

-- ---- the examples

-- with all that they compute with open: a new definition on the way joins this list, or `refl` fails in `computed`
unfoldable pub told : Example → Explanation × List ℕ
unfolding ◌and◌ ◌or◌ non any all number those keep find ◌else◌ mapped each across from reads writes marks initial unordered sc tear_free covers overlap equal both_sc divides unbroken tear_of lookup access_at shape_at reads_at writes_at saw wrote is_init reads_some is_marker meets event_no event inits others row_below pair_below value_at head_bytes event_bytes tear_by data_bytes seen_of written_of row_bytes within head_fits inside init_formed sized kind_fits other_formed formed tear_fits alone stands_first event_fits room_in joins row_rises row_fits parts pair_rises pair_fits place_of allowed head_fault event_fault_by row_fault pair_fault value_fault_by fault_by taken after is_row lacks lowest_lacking appears missing completed finish fields_from parse numbers at_row any_two agent_order row_syncs synchronises init_first step breaks21 breaks22 breaks23 breaks24 untorn untorn_from breaks25 fault21 fault22 fault23 fault24 fault25 fault bar_a bar_b bar_c row_bars clash unsettled unsettled_pair settled_of table look through warshall hb_table member without first_of gated unless_done free search order_in bar kept_of bytes_of scratched lacksOrder lacks_order listed ordered judged say_of
told e = let o = say e.sheet e.scratch e.bars in (o.answer, o.kept)

abbrev pub stated : Example → Explanation × List ℕ
stated e = (e.answer, e.kept)

pub computed : each told examples ≡ each stated examples
unfolding each examples told
computed = refl

one_right : (e : Example) → told e ≡ stated e → (scratch bars : List ℕ) → length scratch ≡ e.scratch → length bars ≡ e.bars
    → (scratch' : List ℕ) × Explained e.sheet scratch bars e.answer scratch' (e.kept ++ drop (length e.kept) bars)
unfolding told
one_right e t scratch bars r p =
    subst (λ (o : Explanation × List ℕ). (scratch' : List ℕ) × Explained e.sheet scratch bars o.0 scratch' (o.1 ++ drop (length o.1) bars)) t
    (subst (λ (j : ℕ). Says e.sheet scratch bars (say e.sheet e.scratch j)) p (subst (λ (i : ℕ). Says e.sheet scratch bars (say e.sheet i (length bars))) r (said e.sheet scratch bars)))

each_right : (e : Example) (l : List Example) → each told l ≡ each stated l → Memᴰ e l → told e ≡ stated e
unfolding each
each_right e l t (Memᴰ.head {x = f} q) = subst (λ (d : Example). told d ≡ stated d) (sym q) (head-eq_of_cons-eq t)
each_right e l t (Memᴰ.tail {xs = k} m) = each_right e k (tail-eq_of_cons-eq t) m

pub right : Right
right e m = one_right e (each_right e examples computed m)

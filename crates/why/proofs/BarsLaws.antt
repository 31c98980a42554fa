-- The laws of specs/Bars.antt: the bars of an execution as a list, and a test of whether some of them leave an order. Assumes nothing.
--     bars_is               what stands in the list: the model's bars
--     three                 three different events
--     bars_rise bars_few    it rises; how many there can be
--     all_bars_lem              with all of them it is the judge's own problem
--     part_begins           with a part of them the inits may stand first
--     lacks_order, tells_none, some_order      the test, and that it is one
--     ordered_fewer         fewer bars keep an order
--     before_alone          where 22 is not broken, happens-before alone leaves an order
use mathlib.Core.Path.{◌≡◌, refl, sym, ◌∙◌, subst}
use mathlib.Core.Logic.{◌↔◌}
use mathlib.Core.Bool.{Bool, true, false}
use mathlib.Core.List.{List, [], Memᴰ}
use mathlib.Core.Option.{Option, none, some}
use Prim.Native.Nat.{ℕ, ◌*◌, ◌<◌, ◌≤◌}
use native.Mathlib.Omega.{arith}
use lib.Dec.{T}
use lib.ListN.{length}
use Rattle.basis.specs.Test.{across, from}
use Rattle.basis.proofs.FindLaws.{Sorted, find_none}
use Rattle.basis.proofs.ListLaws.{across_length, from_length}
use Rattle.basis.proofs.ThoseLaws.{those_elim, those_intro, those_length, those_sorted}
use Rattle.format.specs.Execution.{Execution, inits, others}
use Rattle.format.proofs.ExecutionLaws.{writes_covers, covering_inside}
use Rattle.orders.specs.Posed.{Triple, triples, posed}
use Rattle.orders.specs.Order.{Meets}
use Rattle.orders.specs.Inits.{Begins}
use Rattle.orders.proofs.OrderLaws.{meets_fewer, meets_same}
use Rattle.orders.proofs.InitsLaws.{begins_fewer}
use Rattle.orders.proofs.Search.{order_in}
use Rattle.orders.proofs.SearchLaws.{FoundIn, order_found}
use Rattle.orders.proofs.BeforeLaws.{before_leaves}
use Rattle.model.specs.Happens.{Tests}
use Rattle.model.specs.Rules.{breaks22, fault}
use Rattle.model.specs.Bar.{bar}
use Rattle.model.specs.Order.{problem}
use Rattle.model.proofs.Sound.{Sound}
use Rattle.model.proofs.EventsLaws.{number_mem}
use Rattle.model.proofs.HappensLaws.{happens_inside, happens_trans, reader_inside, writer_inside}
use Rattle.model.proofs.RulesLaws.{clean}
use Rattle.model.proofs.BarLaws.{bar_elim, row_bars_lem}
use Rattle.model.proofs.OrderLaws.{inits_others, begins}
use Rattle.kept.specs.Kept.{TellsNone, Fewer}
use Rattle.kept.proofs.KeptLaws.{sub_in}
use Rattle.kept.proofs.NumbersLaws.{Below3}
use Rattle.kept.proofs.BarsLaws.{triples_sorted, triples_mem}
use Rattle.why.specs.Bars.{all_bars, OrderedBy}
use Rattle.why.specs.Demands.{Three}

pub bars_rise : (x : Execution) (hb : ℕ → ℕ → Bool) → Sorted Below3 (all_bars x hb)
bars_rise x hb = those_sorted (λ (b : Triple). bar x hb b.0 b.1.0 b.1.1) Below3 (triples (length x.events)) (triples_sorted (length x.events))

pub bars_few : (x : Execution) (hb : ℕ → ℕ → Bool) → length (all_bars x hb) ≤ length x.events * (length x.events * length x.events)
bars_few x hb =
    let n = length x.events in
    let l = those_length (λ (b : Triple). bar x hb b.0 b.1.0 b.1.1) (triples n) in
    let f = from_length 0 n in
    let e : length (triples n) ≡ n * (n * n) = across_length (from 0 n) (across (from 0 n) (from 0 n)) ∙ rw (across_length (from 0 n) (from 0 n), f) refl in
    rw e at l

pub ordered_fewer : (x : Execution) (hb : ℕ → ℕ → Bool) → Fewer (OrderedBy x hb)
ordered_fewer x hb a b s (o, m) =
    (o, meets_fewer (posed (length x.events) hb b) (posed (length x.events) hb a) refl (λ c d h. h) (λ r w v h. sub_in s (r, (w, v)) h) o m)

-- the answer of a search as a truth value
unfoldable pub lacks : Option (List ℕ) → Bool
lacks none = true
lacks (some o) = false

unfoldable pub lacks_order : Execution → (ℕ → ℕ → Bool) → List Triple → Bool
lacks_order x hb l = lacks (order_in (inits x.events) (others x.events) hb l)

module _ (x : Execution) (hb : ℕ → ℕ → Bool) (so : Sound x) (tests : Tests x hb) where
  abbrev n : ℕ
  n = length x.events

  pub three : (b : Triple) → T (bar x hb b.0 b.1.0 b.1.1) → Three n b
  three b t =
      let k = bar_elim x hb b.0 b.1.0 b.1.1 t in
      let c = row_bars_lem x hb k.0 b.1.1 k.4 in
      record {
        reader = subst (λ (i : ℕ). i < n) k.2 (reader_inside x so k.0 k.1);
        writer = subst (λ (i : ℕ). i < n) k.3 (writer_inside x so k.0 k.1);
        between = covering_inside x b.1.1 k.0.address (writes_covers _ _ c.writes);
        reader_writer = λ e. so.row_differs k.0 k.1 (k.2 ∙ e ∙ sym k.3);
        reader_between = λ e. c.not_reader (sym e ∙ sym k.2);
        writer_between = λ e. c.not_writer (sym e ∙ sym k.3);
      }

  pub bars_is : (b : Triple) → Memᴰ b (all_bars x hb) ↔ T (bar x hb b.0 b.1.0 b.1.1)
  bars_is b = (
    (λ m. (those_elim (λ (b : Triple). bar x hb b.0 b.1.0 b.1.1) (triples n) b m).1),
    (λ t.
        let z = three b t in
        those_intro (λ (b : Triple). bar x hb b.0 b.1.0 b.1.1) (triples n) b (triples_mem n b.0 b.1.0 b.1.1 z.reader z.writer z.between) t),
  )

  before : (a b : ℕ) → T (hb a b) ↔ T (hb a b)
  before a b = ((λ t. t), (λ t. t))

  pub all_bars_lem : (o : List ℕ) → Meets (posed n hb (all_bars x hb)) o ↔ Meets (problem x hb) o
  all_bars_lem o = meets_same (posed n hb (all_bars x hb)) (problem x hb) refl before (λ r w v. bars_is (r, (w, v))) o

  module _ (l : List Triple) (part : (b : Triple) → Memᴰ b l → Memᴰ b (all_bars x hb)) where
    pub part_begins : Begins (posed n hb l) (inits x.events)
    part_begins =
        begins_fewer (posed n hb l) (problem x hb) (inits x.events) refl before (λ r w v h. (bars_is (r, (w, v))).0 (part (r, (w, v)) h)) (begins x hb so tests)

    found : FoundIn (posed n hb l) (order_in (inits x.events) (others x.events) hb l)
    found = order_found (inits x.events) (others x.events) n (inits_others x) hb l (λ a b t. (happens_inside x so ((tests a b).0 t)).0) part_begins

    tells : (o : Option (List ℕ)) → FoundIn (posed n hb l) o → T (lacks o) ↔ (OrderedBy x hb l → ⊥)
    unfolding lacks
    tells none f = ((λ t w. f w.0 w.1), (λ h. tt))
    tells (some o) f = ((λ t. absurd t), (λ h. h (o, f.is)))

    some_of : (o : Option (List ℕ)) → FoundIn (posed n hb l) o → lacks o ≡ false → OrderedBy x hb l
    unfolding lacks
    some_of none f e = let z : ◌≡◌ {A = ℕ} 0 1 = cc in absurd (omega arith)
    some_of (some o) f e = (o, f.is)

  pub tells_none : TellsNone (lacks_order x hb) (OrderedBy x hb) (all_bars x hb)
  unfolding lacks_order
  tells_none l p = tells l p (order_in (inits x.events) (others x.events) hb l) (found l p)

  pub some_order : (l : List Triple) → ((b : Triple) → Memᴰ b l → Memᴰ b (all_bars x hb)) → lacks_order x hb l ≡ false → OrderedBy x hb l
  unfolding lacks_order
  some_order l p e = some_of l p (order_in (inits x.events) (others x.events) hb l) (found l p) e

  pub before_alone : fault x hb ≡ none → OrderedBy x hb []
  unfolding breaks22
  before_alone u =
      before_leaves n hb (λ a b t. happens_inside x so ((tests a b).0 t))
      (λ a t. find_none (breaks22 hb) _ (clean x hb u).c22 a (number_mem x a (happens_inside x so ((tests a a).0 t)).0) t)
      (λ a b c s t. (tests a c).1 (happens_trans ((tests a b).0 s) ((tests b c).0 t)))

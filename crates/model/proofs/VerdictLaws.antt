-- The laws of specs/Verdict.antt: lent enough, the judge says of a sheet what is to be said of it. Assumes nothing.
--     few_events, few_scratch     what a well-formed sheet needs is at most what is enough for every sheet
--     judged_verdict              the answer and the order of a Judged result, where both buffers are enough
--     verdict_few                 the order that is told has at most as many entries as a sheet can have events
--     verdict_unique              of a sheet one thing is to be said
use mathlib.Core.Path.{◌≡◌, refl, sym, ap, ◌∙◌}
use mathlib.Core.List.{List, [], ◌++◌}
use Prim.Native.Nat.{ℕ, ◌≤◌}
use native.Mathlib.Omega.{arith}
use lib.ListN.{length, take, drop, take-append-drop}
use Rattle.format.specs.Limits.{max_others, max_events}
use Rattle.format.specs.Execution.{Execution}
use Rattle.parse.specs.Parse.{Parsed, refused, whole, parse}
use Rattle.parse.specs.Promise.{WellFormed}
use Rattle.parse.specs.WellSheet.{WellSheet}
use Rattle.parse.proofs.PromiseLaws.{promise}
use Rattle.parse.proofs.WellSheetLaws.{exactly}
use Rattle.marks.proofs.TableLaws.{bytes_mono}
use Rattle.orders.specs.Order.{Meets}
use Rattle.orders.specs.First.{FirstOf}
use Rattle.orders.proofs.FirstLaws.{first_unique}
use Rattle.answer.specs.declared.Settled.{Settled}
use Rattle.answer.specs.declared.Answer.{Answer}
use Rattle.answer.specs.declared.Answer.TheVariants.{Refused, Broken, Consistent}
use Rattle.model.specs.Rules.{Fault, faulty}
use Rattle.model.specs.Order.{problem}
use Rattle.model.specs.Unsettled.{unsettled_pair}
use Rattle.model.specs.Judged.{needed, lent, admitted, Breaks, settled_of, Judged}
use Rattle.model.specs.Verdict.{max_scratch, SaidBroken, SaidConsistent, Verdict, Reported}
use Rattle.model.proofs.OrderLaws.{inits_others, meets_length}
use Rattle.model.proofs.Sound.{sound}
use Rattle.model.proofs.JudgedLaws.{admitted_whole, whole_admitted, moved, never_both, breaks_unique, breaks_not}

module _ (x : Execution) (w : WellFormed x) where
  pub few_events : length x.events ≤ max_events
  few_events = let i = w.inits_few in let o = w.others_few in omega (arith, inits_others x)

  pub few_scratch : needed x ≤ max_scratch
  few_scratch = bytes_mono _ max_others w.others_few

-- ---- what the judge says

-- lent enough, 12 and 13 do not come
by_sheet : (s : List ℕ) (room places : ℕ) → max_scratch ≤ room → max_events ≤ places → (n p : ℕ) → admitted s room places ≡ refused n p → parse s ≡ refused n p
unfolding admitted lent
by_sheet s room places enough fit n p e = go (parse s) refl e
  where
    go : (q : Parsed) → parse s ≡ q → lent room places q ≡ refused n p → q ≡ refused n p
    go (refused m o) h k = k
    go (whole x) h k =
        let w = promise s x h in
        let a = few_scratch x w in let b = few_events x w in
        absurd (never_both (whole_admitted s room places x h (omega arith) (omega arith)) e)

module _ (s scratch order : List ℕ) (enough : max_scratch ≤ length scratch) (fit : max_events ≤ length order) (scratch' order' : List ℕ) where
  pub judged_verdict : (a : Answer) → Judged s scratch order a scratch' order' → Reported s order a order'
  judged_verdict (Refused n p) j =
      record {
        told = [];
        verdict = record { says = by_sheet s (length scratch) (length order) enough fit n p j.says; no_order = refl };
        front = j.order_kept;
        events = λ e h. absurd h;
      }
  judged_verdict (Broken n names) j =
      record {
        told = [];
        verdict = record { execution = j.execution; sheet = sheet_of j.describes; hb = j.hb; tests = j.tests; breaks = j.breaks; no_order = refl };
        front = j.order_kept;
        events = λ e h. absurd h;
      }
    where
      sheet_of : {x : Execution} → admitted s (length scratch) (length order) ≡ whole x → WellSheet s x
      sheet_of {x} h = (exactly s x).0 (admitted_whole s (length scratch) (length order) x h).describes
  judged_verdict (Consistent t) j =
      let x = j.execution in
      let d = (admitted_whole s (length scratch) (length order) x j.describes).describes in
      let w = promise s x d in
      let o = take (length x.events) order' in
      let m = j.first.is in
      let f = few_events x w in
      let l : length x.events ≡ length o = sym (meets_length x j.hb (sound x w) j.tests o m) in
      record {
        told = o;
        verdict = record { execution = x; sheet = (exactly s x).0 d; hb = j.hb; tests = j.tests; unbroken = j.unbroken; first = j.first; pair = j.pair };
        front =
            sym (take-append-drop (length x.events) order') ∙ ap (λ (k : List ℕ). o ++ k) j.order_rest ∙ ap (λ (k : ℕ). o ++ drop k order) l;
        events = λ e h. let b = m.events e h in omega arith;
      }

-- the order that is told has as many entries as a sheet can have events, at most
pub verdict_few : (s : List ℕ) (a : Answer) (o : List ℕ) → Verdict s a o → length o ≤ max_events
verdict_few s (Refused n p) o v = omega (arith, ap length v.no_order)
verdict_few s (Broken n names) o v = omega (arith, ap length v.no_order)
verdict_few s (Consistent t) o v =
    let x = v.execution in
    let w = v.sheet.well_formed in
    omega (arith, few_events x w, meets_length x v.hb (sound x w) v.tests o v.first.is)

-- ---- of a sheet one thing is said

module _ (s : List ℕ) where
  same_sheet : {x y : Execution} → WellSheet s x → WellSheet s y → x ≡ y
  same_sheet a b = sym a.describes ∙ b.describes

  whole_of : {x : Execution} → WellSheet s x → parse s ≡ whole x
  whole_of {x} a = (exactly s x).1 a

  broken_said : (f g : Fault) (o q : List ℕ) → SaidBroken s f o → SaidBroken s g q → (f ≡ g) × (o ≡ q)
  broken_said f g o q a b = (
    breaks_unique b.execution b.hb f g
        (moved (same_sheet a.sheet b.sheet) a.hb b.hb a.tests b.tests (λ x hb. Breaks x hb f) a.breaks) b.breaks,
    a.no_order ∙ sym b.no_order,
  )

  broken_not : (f : Fault) (t : Settled) (o q : List ℕ) → SaidBroken s f o → SaidConsistent s t q → ⊥
  broken_not f t o q a b =
      breaks_not b.execution b.hb f q
      (moved (same_sheet a.sheet b.sheet) a.hb b.hb a.tests b.tests (λ x hb. Breaks x hb f) a.breaks) b.unbroken b.first.is

  pub verdict_unique : (a b : Answer) (o q : List ℕ) → Verdict s a o → Verdict s b q → (a ≡ b) × (o ≡ q)
  verdict_unique (Refused n m) (Refused n' m') o q j k = (
    (let e : refused n m ≡ refused n' m' = sym j.says ∙ k.says in let d : n ≡ n' = cc in let c : m ≡ m' = cc in cc),
    j.no_order ∙ sym k.no_order,
  )
  verdict_unique (Refused n m) (Broken n' w) o q j k = absurd (never_both (whole_of k.sheet) j.says)
  verdict_unique (Refused n m) (Consistent t) o q j k = absurd (never_both (whole_of k.sheet) j.says)
  verdict_unique (Broken n w) (Refused n' m') o q j k = absurd (never_both (whole_of j.sheet) k.says)
  verdict_unique (Broken n w) (Broken n' w') o q j k =
      let h = broken_said (faulty n w) (faulty n' w') o q j k in (ap (λ (f : Fault). Broken f.number f.names) h.0, h.1)
  verdict_unique (Broken n w) (Consistent t) o q j k = absurd (broken_not (faulty n w) t o q j k)
  verdict_unique (Consistent t) (Refused n' m') o q j k = absurd (never_both (whole_of j.sheet) k.says)
  verdict_unique (Consistent t) (Broken n' w') o q j k = absurd (broken_not (faulty n' w') t q o k j)
  verdict_unique (Consistent t) (Consistent u) o q j k = (
    ap Consistent (moved (same_sheet j.sheet k.sheet) j.hb k.hb j.tests k.tests (λ x hb. t ≡ settled_of (unsettled_pair x hb)) j.pair ∙ sym k.pair),
    first_unique (Meets (problem k.execution k.hb)) o q
        (moved (same_sheet j.sheet k.sheet) j.hb k.hb j.tests k.tests (λ x hb. FirstOf (Meets (problem x hb)) o) j.first) k.first,
  )

-- The laws of specs/Lowest.antt: the rule that is named is the first that is broken, where it is first broken. Assumes nothing.
--     event_22, event_24, events_25     what breaks the rule is an event
--     breaks_first                      of every fault that `Breaks` allows
use mathlib.Core.Path.{◌≡◌, refl, sym, ap, subst, ◌∙◌}
use mathlib.Core.Logic.{◌⊎◌, inl, inr}
use mathlib.Core.Bool.{Bool}
use mathlib.Core.List.{[], ◌∷◌, Memᴰ}
use mathlib.Core.Option.{Option, none, some}
use Prim.Native.Nat.{ℕ, ◌≤◌, ◌<◌}
use native.Mathlib.Omega.{arith}
use native.Mathlib.Decide.{dec_lt}
use lib.Dec.{T, eqb, ltb, eqb→eq, ltb→lt}
use lib.ListN.{length}
use Rattle.basis.specs.Test.{◌and◌, find, across}
use Rattle.basis.proofs.BoolLaws.{and_elim, or_cases}
use Rattle.basis.proofs.ListLaws.{across_left, across_mem, mem_get_or, get_or_mem}
use Rattle.basis.proofs.LoopLaws.{any_elim}
use Rattle.basis.proofs.FindLaws.{find_none, sorted_by, Then, find_first}
use Rattle.format.specs.declared.Row.{Row}
use Rattle.format.specs.Execution.{Execution, row_below, blank_row}
use Rattle.format.proofs.ExecutionLaws.{writes_covers, covering_inside}
use Rattle.parse.specs.Promise.{WellFormed, row}
use Rattle.orders.specs.First.{Lex}
use Rattle.orders.proofs.FirstLaws.{Tri, below, same, above, tri}
use Rattle.answer.specs.declared.Names.{Names}
use Rattle.answer.specs.declared.Names.TheVariants.{Row as OfRow, Event as OfEvent, Between, Torn, Nobody}
use Rattle.model.specs.Events.{numbers}
use Rattle.model.specs.Happens.{Tests}
use Rattle.model.specs.Rules.{breaks21, breaks22, breaks23, breaks24, breaks25, untorn_from, Fault, faulty, fault}
use Rattle.model.specs.Judged.{Breaks}
use Rattle.model.specs.Lowest.{LowestNames, at_21, at_22, at_23, at_24, at_25, at_26, Somewhere, by_21, by_22, by_23, by_24, by_25, by_26, FirstBroken}
use Rattle.model.proofs.EventsLaws.{number_mem}
use Rattle.model.proofs.Sound.{Sound}
use Rattle.model.proofs.HappensLaws.{reader_inside, writer_inside, happens_inside}
use Rattle.model.proofs.RulesLaws.{test24, test25, triples, clean, fault_none, fault_21, fault_22, fault_23, fault_24, fault_25}
use Rattle.model.proofs.FirstLaws.{itself_lowest, between_lowest, torn_lowest}

-- ---- rows, by their numbers

row_cases : (q r : Row) → T (row_below q r) → (q.reader < r.reader) ⊎ ((q.reader ≡ r.reader) × (q.address < r.address))
unfolding row_below
row_cases q r t = go (or_cases _ _ t)
  where
    go : T (ltb q.reader r.reader) ⊎ T (eqb q.reader r.reader and ltb q.address r.address) → (q.reader < r.reader) ⊎ ((q.reader ≡ r.reader) × (q.address < r.address))
    go (inl h) = inl (ltb→lt _ _ h)
    go (inr h) = let w = and_elim _ _ h in inr (eqb→eq _ _ w.0, ltb→lt _ _ w.1)

-- not each below the other
row_loop : (q r : Row) → T (row_below q r) → T (row_below r q) → ⊥
row_loop q r s t = go (row_cases q r s) (row_cases r q t)
  where
    go : (q.reader < r.reader) ⊎ ((q.reader ≡ r.reader) × (q.address < r.address)) → (r.reader < q.reader) ⊎ ((r.reader ≡ q.reader) × (r.address < q.address)) → ⊥
    go (inl a) (inl b) = omega arith
    go (inl a) (inr b) = omega arith
    go (inr a) (inl b) = omega arith
    go (inr a) (inr b) = omega arith

module _ (x : Execution) (wf : WellFormed x) where
  below_row : (i j : ℕ) → i < length x.rows → j < length x.rows → T (row_below (row x j) (row x i)) → j < i
  below_row i j p q t = go (tri i j)
    where
      go : Tri i j → j < i
      go (below h) = absurd (row_loop (row x i) (row x j) (wf.rows_rise i j h q) t)
      go (same h) = let u = subst (λ (k : ℕ). T (row_below (row x k) (row x i))) (sym h) t in absurd (row_loop (row x i) (row x i) u u)
      go (above h) = h

  same_row : (i j : ℕ) → i < length x.rows → j < length x.rows → row x i ≡ row x j → i ≡ j
  same_row i j p q e = go (tri i j)
    where
      loop : (k l : ℕ) → row x k ≡ row x l → T (row_below (row x k) (row x l)) → ⊥
      loop k l d t = let u = subst (λ (r : Row). T (row_below r (row x l))) d t in row_loop (row x l) (row x l) u u

      go : Tri i j → i ≡ j
      go (below h) = absurd (loop i j e (wf.rows_rise i j h q))
      go (same h) = h
      go (above h) = absurd (loop j i (sym e) (wf.rows_rise j i h p))

-- ---- each rule

module _ (x : Execution) (hb : ℕ → ℕ → Bool) (wf : WellFormed x) (so : Sound x) (tests : Tests x hb) where
  -- what breaks a rule is an event
  pub event_22 : (e : ℕ) → T (breaks22 hb e) → e < length x.events
  unfolding breaks22
  event_22 e t = (happens_inside x so ((tests e e).0 t)).0

  pub event_24 : (q : Row) (u : ℕ) → T (breaks24 x hb q u) → u < length x.events
  unfolding breaks24
  event_24 q u t = covering_inside x u q.address (writes_covers _ _ (and_elim _ _ t).0)

  pub events_25 : (p q u : ℕ) → T (breaks25 x p q u) → (p < length x.events) × (q < length x.events) × (u < length x.events)
  unfolding breaks25 untorn_from
  events_25 p q u t =
      let a = any_elim _ x.rows (and_elim _ _ t).1 in
      let b = and_elim _ _ a.2 in
      let c = any_elim _ x.rows b.1 in
      let d = and_elim _ _ b.0 in
      let e = and_elim _ _ (and_elim _ _ c.2).0 in
      let f : T (eqb c.0.writer u) = (and_elim _ _ e.1).0 in
      let g : T (eqb a.0.writer q) = (and_elim _ _ d.1).0 in (
        subst (λ (k : ℕ). k < length x.events) (eqb→eq _ _ d.0) (reader_inside x so a.0 a.1),
        subst (λ (k : ℕ). k < length x.events) (eqb→eq _ _ g) (writer_inside x so a.0 a.1),
        subst (λ (k : ℕ). k < length x.events) (eqb→eq _ _ f) (writer_inside x so c.0 c.1),
      )

  -- a rule that is tested row by row
  module _ (f : Row → Bool) (n : ℕ) (at : (j : ℕ) → j < length x.rows → T (f (row x j)) → ((i : ℕ) → i < length x.rows → T (f (row x i)) → j ≤ i)
      → LowestNames x hb n (OfRow (row x j).reader (row x j).writer (row x j).address)) where
    by_row : (r : Row) → find f x.rows ≡ some r → LowestNames x hb n (OfRow r.reader r.writer r.address)
    by_row r e =
        let w = find_first blank_row f x.rows r e in
        subst (λ (q : Row). LowestNames x hb n (OfRow q.reader q.writer q.address)) w.is
        (at w.number w.there (subst (λ (q : Row). T (f q)) (sym w.is) w.passes) (λ i b t. least i t (dec_lt i w.number)))
      where
        least : (i : ℕ) → T (f (row x i)) → Dec (i < (find_first blank_row f x.rows r e).number) → (find_first blank_row f x.rows r e).number ≤ i
        least i t (yes h) = absurd ((find_first blank_row f x.rows r e).none_before i h t)
        least i t (no h) = omega arith

  lowest_22 : (e : ℕ) → find (breaks22 hb) (numbers x) ≡ some e → LowestNames x hb 22 (OfEvent e)
  lowest_22 e h =
      let w = itself_lowest x hb e h in
      at_22 e w.0 (λ d t. go d (w.1 d (event_22 d t) t))
    where
      go : (d : ℕ) → (d ≡ e) ⊎ (e < d) → e ≤ d
      go d (inl p) = omega arith
      go d (inr p) = omega arith

  lowest_24 : (r : Row) (v : ℕ) → find (test24 x hb) (across x.rows (numbers x)) ≡ some (r, v) → LowestNames x hb 24 (Between r.reader r.writer v r.address)
  lowest_24 r v h =
      let w = between_lowest x hb (λ p q. T (row_below p q)) (sorted_by (λ p q. T (row_below p q)) blank_row x.rows wf.rows_rise) r v h in
      let k = find_first (blank_row, 0) (test24 x hb) (across x.rows (numbers x)) (r, v) h in
      let m : Memᴰ {A = Row × ℕ} (r, v) (across x.rows (numbers x)) =
      subst (λ (p : Row × ℕ). Memᴰ p (across x.rows (numbers x))) k.is (get_or_mem (blank_row, 0) (across x.rows (numbers x)) k.number k.there) in
      let j = mem_get_or blank_row (across_left x.rows (numbers x) (r, v) m) in
      subst (λ (q : Row). LowestNames x hb 24 (Between q.reader q.writer v q.address)) j.2
      (at_24 j.0 v j.1 (subst (λ (q : Row). T (breaks24 x hb q v)) (sym j.2) w.0)
      (λ i u b t. go j.0 j.1 j.2 i u b (w.1 (row x i, u) (across_mem x.rows (numbers x) (row x i) u (get_or_mem blank_row x.rows i b) (number_mem x u (event_24 (row x i) u t))) t)))
    where
      go : (j : ℕ) → j < length x.rows → row x j ≡ r → (i u : ℕ) → i < length x.rows
          → (◌≡◌ {A = Row × ℕ} (row x i, u) (r, v)) ⊎ Then (λ p q. T (row_below p q)) (λ a b. a < b) (r, v) (row x i, u) → Lex (j ∷ v ∷ []) (i ∷ u ∷ [])
      go j p e i u q (inl d) =
          let a : row x i ≡ r = ap (λ (k : Row × ℕ). k.0) d in let b : u ≡ v = ap (λ (k : Row × ℕ). k.1) d in
          inr (same_row x wf j i p q (e ∙ sym a), inr (sym b, tt))
      go j p e i u q (inr (inl d)) = inl (below_row x wf i j q p (subst (λ (k : Row). T (row_below k (row x i))) (sym e) d))
      go j p e i u q (inr (inr d)) = inr (same_row x wf j i p q (e ∙ sym d.0), inl d.1)

  lowest_25 : (r w v : ℕ) → find (test25 x) (triples x) ≡ some (r, (w, v)) → LowestNames x hb 25 (Torn r w v)
  lowest_25 r w v h =
      let l = torn_lowest x hb r w v h in
      at_25 r w v l.0 (λ p q u t. let i = events_25 p q u t in
      go p q u (l.1 (p, (q, u)) (across_mem (numbers x) (across (numbers x) (numbers x)) p (q, u) (number_mem x p i.0)
      (across_mem (numbers x) (numbers x) q u (number_mem x q i.1) (number_mem x u i.2))) t))
    where
      go : (p q u : ℕ) → (◌≡◌ {A = ℕ × (ℕ × ℕ)} (p, (q, u)) (r, (w, v))) ⊎ Then (λ a b. a < b) (Then (λ a b. a < b) (λ a b. a < b)) (r, (w, v)) (p, (q, u))
          → Lex (r ∷ w ∷ v ∷ []) (p ∷ q ∷ u ∷ [])
      go p q u (inl e) =
          inr (sym (ap (λ (k : ℕ × (ℕ × ℕ)). k.0) e), inr (sym (ap (λ (k : ℕ × (ℕ × ℕ)). k.1.0) e), inr (sym (ap (λ (k : ℕ × (ℕ × ℕ)). k.1.1) e), tt)))
      go p q u (inr (inl a)) = inl a
      go p q u (inr (inr (a, inl b))) = inr (sym a, inl b)
      go p q u (inr (inr (a, inr (b, c)))) = inr (sym a, inr (sym b, inl c))

  -- ---- no rule with a lower number

  -- rules below n have been tested, and hold
  record Past (n : ℕ) : Type 0 where
    p21 : 21 < n → find (breaks21 x) x.rows ≡ none
    p22 : 22 < n → find (breaks22 hb) (numbers x) ≡ none
    p23 : 23 < n → find (breaks23 hb) x.rows ≡ none
    p24 : 24 < n → find (test24 x hb) (across x.rows (numbers x)) ≡ none
    p25 : 25 < n → find (test25 x) (triples x) ≡ none
    p26 : n ≤ 26

  past : (n : ℕ) → Past n → (m : ℕ) → Somewhere x hb m → n ≤ m
  past n p m l = holds m l (dec_lt m n)
    where
      holds : (k : ℕ) → Somewhere x hb k → Dec (k < n) → n ≤ k
      holds k w (no h) = omega arith
      holds k (by_21 j b t) (yes h) = absurd (find_none (breaks21 x) x.rows (p.p21 h) (row x j) (get_or_mem blank_row x.rows j b) t)
      holds k (by_22 e t) (yes h) = absurd (find_none (breaks22 hb) (numbers x) (p.p22 h) e (number_mem x e (event_22 e t)) t)
      holds k (by_23 j b t) (yes h) = absurd (find_none (breaks23 hb) x.rows (p.p23 h) (row x j) (get_or_mem blank_row x.rows j b) t)
      holds k (by_24 j v b t) (yes h) =
          absurd (find_none (test24 x hb) (across x.rows (numbers x)) (p.p24 h) (row x j, v)
          (across_mem x.rows (numbers x) (row x j) v (get_or_mem blank_row x.rows j b) (number_mem x v (event_24 (row x j) v t))) t)
      holds k (by_25 r w v t) (yes h) = let i = events_25 r w v t in
          absurd (find_none (test25 x) (triples x) (p.p25 h) (r, (w, v)) (across_mem (numbers x) (across (numbers x) (numbers x)) r (w, v) (number_mem x r i.0)
          (across_mem (numbers x) (numbers x) w v (number_mem x w i.1) (number_mem x v i.2))) t)
      holds k (by_26 b) (yes h) = let q = p.p26 in absurd (omega arith)

  -- ---- the fault that is answered

  named : (n : ℕ) (names : Names) (f : Fault) → LowestNames x hb n names → Past n → faulty n names ≡ f → FirstBroken x hb f.number f.names
  named n names f l p e = subst (λ (g : Fault). FirstBroken x hb g.number g.names) e (record { lowest = l; none_before = past n p })

  same_fault : (f g : Fault) → fault x hb ≡ some f → fault x hb ≡ some g → f ≡ g
  same_fault f g p q = let e : some f ≡ some g = sym p ∙ q in cc

  pub fault_first : (f : Fault) → fault x hb ≡ some f → FirstBroken x hb f.number f.names
  fault_first f e = go21 (find (breaks21 x) x.rows) refl
    where
      go25 : find (breaks21 x) x.rows ≡ none → find (breaks22 hb) (numbers x) ≡ none → find (breaks23 hb) x.rows ≡ none
          → find (test24 x hb) (across x.rows (numbers x)) ≡ none → (o : Option (ℕ × (ℕ × ℕ))) → find (test25 x) (triples x) ≡ o → FirstBroken x hb f.number f.names
      go25 a b c d (some t) q =
          named 25 (Torn t.0 t.1.0 t.1.1) f (lowest_25 t.0 t.1.0 t.1.1 q)
          (record { p21 = λ h. a; p22 = λ h. b; p23 = λ h. c; p24 = λ h. d; p25 = λ h. absurd (omega arith); p26 = omega arith })
          (same_fault _ f (fault_25 x hb t.0 t.1.0 t.1.1 a b c d q) e)
      go25 a b c d none q =
          let n : fault x hb ≡ none = fault_none x hb (record { c21 = a; c22 = b; c23 = c; c24 = d; c25 = q }) in
          let z : some f ≡ none = sym e ∙ n in absurd (let y : ◌≡◌ {A = ℕ} 0 1 = cc in omega arith)

      go24 : find (breaks21 x) x.rows ≡ none → find (breaks22 hb) (numbers x) ≡ none → find (breaks23 hb) x.rows ≡ none
          → (o : Option (Row × ℕ)) → find (test24 x hb) (across x.rows (numbers x)) ≡ o → FirstBroken x hb f.number f.names
      go24 a b c (some p) q =
          named 24 (Between p.0.reader p.0.writer p.1 p.0.address) f (lowest_24 p.0 p.1 q)
          (record { p21 = λ h. a; p22 = λ h. b; p23 = λ h. c; p24 = λ h. absurd (omega arith); p25 = λ h. absurd (omega arith); p26 = omega arith })
          (same_fault _ f (fault_24 x hb p.0 p.1 a b c q) e)
      go24 a b c none q = go25 a b c q (find (test25 x) (triples x)) refl

      go23 : find (breaks21 x) x.rows ≡ none → find (breaks22 hb) (numbers x) ≡ none → (o : Option Row) → find (breaks23 hb) x.rows ≡ o → FirstBroken x hb f.number f.names
      go23 a b (some r) q =
          named 23 (OfRow r.reader r.writer r.address) f (by_row (breaks23 hb) 23 at_23 r q)
          (record { p21 = λ h. a; p22 = λ h. b; p23 = λ h. absurd (omega arith); p24 = λ h. absurd (omega arith); p25 = λ h. absurd (omega arith); p26 = omega arith })
          (same_fault _ f (fault_23 x hb r a b q) e)
      go23 a b none q = go24 a b q (find (test24 x hb) (across x.rows (numbers x))) refl

      go22 : find (breaks21 x) x.rows ≡ none → (o : Option ℕ) → find (breaks22 hb) (numbers x) ≡ o → FirstBroken x hb f.number f.names
      go22 a (some d) q =
          named 22 (OfEvent d) f (lowest_22 d q)
          (record { p21 = λ h. a; p22 = λ h. absurd (omega arith); p23 = λ h. absurd (omega arith); p24 = λ h. absurd (omega arith); p25 = λ h. absurd (omega arith); p26 = omega arith })
          (same_fault _ f (fault_22 x hb d a q) e)
      go22 a none q = go23 a q (find (breaks23 hb) x.rows) refl

      go21 : (o : Option Row) → find (breaks21 x) x.rows ≡ o → FirstBroken x hb f.number f.names
      go21 (some r) q =
          named 21 (OfRow r.reader r.writer r.address) f (by_row (breaks21 x) 21 at_21 r q)
          (record { p21 = λ h. absurd (omega arith); p22 = λ h. absurd (omega arith); p23 = λ h. absurd (omega arith); p24 = λ h. absurd (omega arith); p25 = λ h. absurd (omega arith); p26 = omega arith })
          (same_fault _ f (fault_21 x hb r q) e)
      go21 none q = go22 q (find (breaks22 hb) (numbers x)) refl

  pub breaks_first : (f : Fault) → Breaks x hb f → FirstBroken x hb f.number f.names
  breaks_first f (inl e) = fault_first f e
  breaks_first f (inr u) =
      let c = clean x hb u.unbroken in
      named 26 Nobody f (at_26 u.no_order) (record { p21 = λ h. c.c21; p22 = λ h. c.c22; p23 = λ h. c.c23; p24 = λ h. c.c24; p25 = λ h. c.c25; p26 = omega arith }) (sym u.names)

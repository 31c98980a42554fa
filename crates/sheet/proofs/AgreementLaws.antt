-- Two outcomes that the reader's contract allows for the same bytes are equal, struct and places too. Assumes nothing.
--     handed_unique : Handed s o → Handed s o' → o ≡ o'
--     filled_unique, filled_same     what is read where the tables are filled as well; of a whole sheet the places and the tables
use mathlib.Core.Path.{◌≡◌, refl, sym, ap, ◌∙◌}
use mathlib.Core.Bool.{Bool, true, false}
use mathlib.Core.List.{List}
use Prim.Native.Nat.{ℕ, suc, ◌+◌, ◌-◌, ◌<◌, ◌≤◌, min}
use native.Mathlib.Omega.{arith}
use borrow.Author.Tests.{ltb-true, ltb-false}
use lib.Dec.{ltb}
use lib.ListN.{length, get_or, get_or-replicate}
use lib.Seq.{ext_get_or, get_or-drop}
use Rattle.format.specs.declared.Head.{Head}
use Rattle.sets.specs.Mask.{slots}
use Rattle.format.specs.Execution.{Execution, inits}
use Rattle.format.specs.Field.{field_place}
use Rattle.std.specs.Prelude.{Result, Ok, Err}
use Rattle.faults.specs.declared.Fault.{Fault}
use Rattle.faults.specs.Number.{number_of}
use Rattle.faults.proofs.NumberLaws.{number_same}
use Rattle.sheet.specs.declared.Refusal.{Refusal}
use Rattle.sheet.specs.declared.Whole.{Whole}
use Rattle.parse.specs.Parse.{refused, whole, parse}
use Rattle.entries.specs.declared.Counts.{Counts}
use Rattle.entries.specs.Entries.{execution}
use Rattle.entries.proofs.EntriesLaws.{events_count, rows_count, pairs_count}
use Rattle.tables.specs.Tables.{row_room}
use Rattle.lay.specs.Lay.{events_put, rows_put}
use Rattle.sheet.specs.Handed.{Laid, HandedWhole, Handed}
use Rattle.sheet.specs.Filled.{FilledWhole, Filled}

-- the same fields, the same struct
counts_path : {h h' : Head} {i i' e e' ra ra' r r' pa pa' p p' : ℕ} → h ≡ h' → i ≡ i' → e ≡ e' → ra ≡ ra' → r ≡ r' → pa ≡ pa' → p ≡ p'
    → ◌≡◌ {A = Counts}
    (record { head = h; inits = i; events = e; rows_at = ra; rows = r; pairs_at = pa; pairs = p })
    (record { head = h'; inits = i'; events = e'; rows_at = ra'; rows = r'; pairs_at = pa'; pairs = p' })
counts_path a b c d e f g = λ i. record { head = a i; inits = b i; events = c i; rows_at = d i; rows = e i; pairs_at = f i; pairs = g i }

whole_path : {x x' : Counts} {at at' : List ℕ} → x ≡ x' → at ≡ at' → ◌≡◌ {A = Whole} (record { counts = x; at = at }) (record { counts = x'; at = at' })
whole_path a b = λ i. record { counts = a i; at = b i }

refusal_path : {f f' : Fault} {p p' : ℕ} → f ≡ f' → p ≡ p' → ◌≡◌ {A = Refusal} (record { fault = f; place = p }) (record { fault = f'; place = p' })
refusal_path a b = λ i. record { fault = a i; place = b i }

module _ (s : List ℕ) (x y : Counts) (at bt : List ℕ) (l : Laid s x at) (m : Laid s y bt) (e : execution s x at ≡ execution s y bt) where
  events_same : x.events ≡ y.events
  events_same =
      let f = l.few in let g = m.few in let c = l.size in let d = m.size in
      sym (events_count s x.head.edition x.events at (omega arith))
      ∙ ap {B = ℕ} (λ (z : Execution). length z.events) e ∙ events_count s y.head.edition y.events bt (omega arith)

  rows_same : x.rows ≡ y.rows
  rows_same =
      sym (rows_count s x.head.edition x.rows_at x.rows) ∙ ap {B = ℕ} (λ (z : Execution). length z.rows) e
      ∙ rows_count s y.head.edition y.rows_at y.rows

  pairs_same : x.pairs ≡ y.pairs
  pairs_same = sym (pairs_count s x.pairs_at x.pairs) ∙ ap {B = ℕ} (λ (z : Execution). length z.pairs) e ∙ pairs_count s y.pairs_at y.pairs

  counts_same : x ≡ y
  counts_same =
      let n = events_same in
      let r = rows_same in
      counts_path (ap {B = Head} (λ (z : Execution). z.head) e) (l.inits ∙ ap {B = ℕ} (λ (z : Execution). inits z.events) e ∙ sym m.inits) n
      (l.rows_at ∙ ap (λ (k : ℕ). field_place s (suc k)) n ∙ sym m.rows_at) r
      (l.pairs_at_lem ∙ (let q : x.events + x.rows ≡ y.events + y.rows = omega arith in ap (λ (k : ℕ). field_place s (suc k)) q) ∙ sym m.pairs_at_lem) pairs_same

  -- a place that no event uses
  unused_at : (z : Counts) (ct : List ℕ) → Laid s z ct → (i : ℕ) → z.events ≤ i → i < slots → get_or ct i 0 ≡ 0
  unused_at z ct k i b c =
      let q : z.events + (i - z.events) ≡ i = omega arith in
      ap (λ (j : ℕ). get_or ct j 0) (sym q) ∙ sym (get_or-drop z.events ct (i - z.events) 0) ∙ ap (λ (j : List ℕ). get_or j (i - z.events) 0) k.unused
      ∙ get_or-replicate (slots - z.events) (i - z.events) 0 0 (omega arith)

  places_same : at ≡ bt
  places_same = ext_get_or 0 at bt (l.size ∙ sym m.size) each
    where
      each : (i : ℕ) → i < length at → get_or at i 0 ≡ get_or bt i 0
      each i b = go (ltb i x.events) refl
        where
          go : (c : Bool) → ltb i x.events ≡ c → get_or at i 0 ≡ get_or bt i 0
          go true p = let q = ltb-true i x.events p in let n = events_same in l.places i q ∙ sym (m.places i (omega arith))
          go false p =
              let q = ltb-false i x.events p in let n = events_same in let z = l.size in
              unused_at x at l i q (omega arith) ∙ sym (unused_at y bt m i (omega arith) (omega arith))

-- two refusals of a sheet are one; a sheet that is whole is not refused; two readings of a whole sheet are one
refusal_same : (s : List ℕ) (r g : Refusal) → parse s ≡ refused (number_of r.fault) r.place → parse s ≡ refused (number_of g.fault) g.place → r ≡ g
refusal_same s r g a b =
    let e : refused (number_of r.fault) r.place ≡ refused (number_of g.fault) g.place = sym a ∙ b in
    let f : number_of r.fault ≡ number_of g.fault = cc in
    let p : r.place ≡ g.place = cc in
    refusal_path (number_same f) p

not_both : {A : Type 0} (s : List ℕ) (n p : ℕ) (x : Execution) → parse s ≡ refused n p → parse s ≡ whole x → A
not_both s n p x a b = let e : refused n p ≡ whole x = sym a ∙ b in absurd (let z : ◌≡◌ {A = ℕ} 0 1 = cc e in omega arith)

execution_same : (s : List ℕ) (x y : Counts) (at bt : List ℕ) → HandedWhole s x at → HandedWhole s y bt → execution s x at ≡ execution s y bt
execution_same s x y at bt a b = let e : whole (execution s x at) ≡ whole (execution s y bt) = sym a.says ∙ b.says in cc e

pub handed_unique : (s : List ℕ) (o q : Result Whole Refusal) → Handed s o → Handed s q → o ≡ q
handed_unique s (Err r) (Err g) a b = ap (λ (z : Refusal). Err z) (refusal_same s r g a.says b.says)
handed_unique s (Err r) (Ok w) a b = not_both s _ _ _ a.says b.says
handed_unique s (Ok w) (Err r) a b = not_both s _ _ _ b.says a.says
handed_unique s (Ok v) (Ok w) a b =
    let f = execution_same s v.counts w.counts v.at w.at a b in
    ap (λ (z : Whole). Ok z) (whole_path (counts_same s v.counts w.counts v.at w.at a.laid b.laid f) (places_same s v.counts w.counts v.at w.at a.laid b.laid f))

-- ---- where the tables are filled as well

pub filled_unique : (s : List ℕ) (r g : Result Counts Refusal) (at bt t t' t'' q q' q'' : List ℕ) → Filled s r at t t' q q' → Filled s g bt t t'' q q'' → r ≡ g
filled_unique s (Err r) (Err g) at bt t t' t'' q q' q'' a b = ap (λ (z : Refusal). Err z) (refusal_same s r g a.says b.says)
filled_unique s (Err r) (Ok y) at bt t t' t'' q q' q'' a b = not_both s _ _ _ a.says b.handed.says
filled_unique s (Ok x) (Err g) at bt t t' t'' q q' q'' a b = not_both s _ _ _ b.says a.handed.says
filled_unique s (Ok x) (Ok y) at bt t t' t'' q q' q'' a b =
    ap (λ (z : Counts). Ok z) (counts_same s x y at bt a.handed.laid b.handed.laid (execution_same s x y at bt a.handed b.handed))

pub filled_same : (s : List ℕ) (x y : Counts) (at bt t t' t'' q q' q'' : List ℕ) → FilledWhole s x at t t' q q' → FilledWhole s y bt t t'' q q''
    → (at ≡ bt) × (t' ≡ t'') × (q' ≡ q'')
filled_same s x y at bt t t' t'' q q' q'' a b =
    let f = execution_same s x y at bt a.handed b.handed in
    let c = counts_same s x y at bt a.handed.laid b.handed.laid f in
    let p = places_same s x y at bt a.handed.laid b.handed.laid f in
    let u : t' ≡ t'' =
    a.events ∙ ap (λ (z : Counts). events_put s z.head.edition at (min z.events slots) t) c ∙ ap (λ (l : List ℕ). events_put s y.head.edition l (min y.events slots) t) p ∙ sym b.events in (
      p,
      u,
      a.rows ∙ ap (λ (z : Counts). rows_put s z at t' (min z.rows row_room) q) c ∙ ap (λ (l : List ℕ). rows_put s y l t' (min y.rows row_room) q) p
          ∙ ap (λ (l : List ℕ). rows_put s y bt l (min y.rows row_room) q) u ∙ sym b.rows,
    )

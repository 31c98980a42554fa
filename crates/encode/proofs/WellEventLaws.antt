-- The value of a well-formed event's description: what it says is the event. Assumes nothing.
--     well_data                     its data is as long as its kind asks
--     value_plain                   its bytes: its edition says its tear byte
--     event_same, event_long        it describes the event again, and is as long as it should be
use mathlib.Core.Path.{◌≡◌, refl, sym, ap, ◌∙◌}
use mathlib.Core.Bool.{Bool, true, false, cond}
use mathlib.Core.List.{List, [], ◌∷◌, ◌++◌}
use Prim.Native.Nat.{ℕ, zero, suc, ◌+◌, ◌≤◌}
use native.Mathlib.Omega.{arith}
use borrow.Author.Tests.{eqb-false, eq-eqb}
use lib.Dec.{eqb}
use lib.ListN.{length, get_or, take, drop, length-append}
use lib.Seq.{take_all, take-append_seam, drop-append_seam}
use Rattle.basis.specs.Test.{◌or◌}
use Rattle.format.specs.declared.Head.{Head}
use Rattle.format.specs.declared.Shape.{Shape}
use Rattle.format.specs.Shape.{reads, writes, tear_of}
use Rattle.format.specs.Event.{Access, Event, nothing}
use Rattle.format.specs.Layout.{event_bytes, tear_by, data_bytes, agent_of, shape_of, event_of}
use Rattle.parse.specs.Promise.{WellEvent}
use Rattle.encode.specs.Table.{describe_by, describe}
use Rattle.encode.specs.Encode.{kind_byte, event_value}
use Rattle.encode.proofs.EncodeLaws.{event_spread, laid, laid_long, laid_agent, laid_shape_lem, laid_data}

-- ---- by the kind

no_bytes : (d : List ℕ) → length d ≡ 0 → ◌≡◌ {A = List ℕ} [] d
no_bytes [] h = refl
no_bytes (a ∷ d) h = absurd (omega arith)

seen_by : (k n : ℕ) (s t : List ℕ) → 1 ≤ k → k ≤ 4 → length s ≡ cond (eqb k 1 or eqb k 3) n 0 → cond (eqb k 1 or eqb k 3) (take n (s ++ t)) [] ≡ s
unfolding ◌or◌
seen_by zero n s t a b p = absurd (omega arith)
seen_by (suc zero) n s t a b p = ap (λ (i : ℕ). take i (s ++ t)) (sym p) ∙ take-append_seam s t
seen_by (suc (suc zero)) n s t a b p = no_bytes s p
seen_by (suc (suc (suc zero))) n s t a b p = ap (λ (i : ℕ). take i (s ++ t)) (sym p) ∙ take-append_seam s t
seen_by (suc (suc (suc (suc zero)))) n s t a b p = no_bytes s p
seen_by (suc (suc (suc (suc (suc k))))) n s t a b p = absurd (omega arith)

written_by : (k n : ℕ) (s t : List ℕ) → 1 ≤ k → k ≤ 4 → length s ≡ cond (eqb k 1 or eqb k 3) n 0 → length t ≡ cond (eqb k 2 or eqb k 3) n 0
    → cond (eqb k 2) (take n (s ++ t)) (cond (eqb k 3) (take n (drop n (s ++ t))) []) ≡ t
unfolding ◌or◌
written_by zero n s t a b p q = absurd (omega arith)
written_by (suc zero) n s t a b p q = no_bytes t q
written_by (suc (suc zero)) n s t a b p q = ap (λ (l : List ℕ). take n (l ++ t)) (sym (no_bytes s p)) ∙ take_all n t (omega arith)
written_by (suc (suc (suc zero))) n s t a b p q =
    ap (take n) (ap (λ (i : ℕ). drop i (s ++ t)) (sym p) ∙ drop-append_seam s t) ∙ take_all n t (omega arith)
written_by (suc (suc (suc (suc zero)))) n s t a b p q = no_bytes t q
written_by (suc (suc (suc (suc (suc k))))) n s t a b p q = absurd (omega arith)

data_by : (k n : ℕ) (s t : List ℕ) → 1 ≤ k → k ≤ 4 → (k ≡ 4 → n ≡ 0) → length s ≡ cond (eqb k 1 or eqb k 3) n 0 → length t ≡ cond (eqb k 2 or eqb k 3) n 0
    → length (s ++ t) ≡ cond (eqb k 3) (n + n) n
unfolding ◌or◌
data_by zero n s t a b m p q = absurd (omega arith)
data_by (suc zero) n s t a b m p q = let l = length-append s t in omega arith
data_by (suc (suc zero)) n s t a b m p q = let l = length-append s t in omega arith
data_by (suc (suc (suc zero))) n s t a b m p q = let l = length-append s t in omega arith
data_by (suc (suc (suc (suc zero)))) n s t a b m p q = let z = m refl in let l = length-append s t in omega arith
data_by (suc (suc (suc (suc (suc k))))) n s t a b m p q = absurd (omega arith)

-- ---- an event

module _ (h : Head) (d : Event) (w : WellEvent h d) where
  abbrev a : Shape
  a = w.access.shape

  abbrev bytes : List ℕ
  bytes = w.access.seen ++ w.access.written

  -- its bytes, spelled out
  abbrev v : List ℕ
  v = laid h.edition d.agent a.kind a.mode a.start a.width a.tear bytes

  pub well_data : length bytes ≡ data_bytes a
  unfolding data_bytes reads writes
  well_data = data_by a.kind a.width w.access.seen w.access.written w.kind.0 w.kind.1 (λ k. (w.marker k).2) w.seen w.written

  -- a sheet of its edition says its tear byte
  tear_kept : tear_by h.edition a.kind a.mode a.start a.width a.tear ≡ a.tear
  unfolding tear_by
  tear_kept = go (eqb h.edition 2) refl
    where
      go : (c : Bool) → eqb h.edition 2 ≡ c → cond c a.tear (tear_of a.kind a.mode a.start a.width) ≡ a.tear
      go true p = refl
      go false p = sym (w.tear_rule (eqb-false _ _ p))

  pub value_plain : event_value h.edition (describe d) ≡ v
  unfolding describe kind_byte
  value_plain =
      ap (λ (l : List Access). event_value h.edition (describe_by d.agent (get_or l 0 nothing))) w.one_access
      ∙ ap (λ (c : Bool). laid h.edition d.agent (cond c a.kind 0) a.mode a.start a.width a.tear bytes) (eq-eqb _ _ (sym tear_kept))

  shape_same : shape_of h.edition v ≡ a
  shape_same =
      laid_shape_lem h.edition d.agent a.kind a.mode a.start a.width a.tear bytes
      ∙ ap (λ (t : ℕ). record { kind = a.kind; mode = a.mode; start = a.start; width = a.width; tear = t }) tear_kept

  data_same : drop (event_bytes h.edition) v ≡ bytes
  data_same = laid_data h.edition d.agent a.kind a.mode a.start a.width a.tear bytes

  seen_same : cond (reads a) (take a.width bytes) [] ≡ w.access.seen
  unfolding reads
  seen_same = seen_by a.kind a.width w.access.seen w.access.written w.kind.0 w.kind.1 w.seen

  written_same : cond (eqb a.kind 2) (take a.width bytes) (cond (eqb a.kind 3) (take a.width (drop a.width bytes)) []) ≡ w.access.written
  unfolding reads writes
  written_same = written_by a.kind a.width w.access.seen w.access.written w.kind.0 w.kind.1 w.seen w.written

  agent_same : agent_of v ≡ d.agent
  agent_same = laid_agent h.edition d.agent a.kind a.mode a.start a.width a.tear bytes

  pub event_same : event_of h.edition (event_value h.edition (describe d)) ≡ d
  event_same =
      ap (event_of h.edition) value_plain ∙ event_spread h.edition d.agent a bytes v agent_same shape_same data_same
      ∙ (λ i. record { agent = d.agent; accesses = record { shape = a; seen = seen_same i; written = written_same i } ∷ [] })
      ∙ ap (λ (l : List Access). record { agent = d.agent; accesses = l }) (sym w.one_access)

  pub plain_long : length (event_value h.edition (describe d)) ≡ event_bytes h.edition + data_bytes a
  plain_long =
      ap length value_plain ∙ laid_long h.edition d.agent a.kind a.mode a.start a.width a.tear bytes
      ∙ ap (λ (n : ℕ). event_bytes h.edition + n) well_data

  pub event_long : length (event_value h.edition (describe d)) ≡ event_bytes h.edition + data_bytes (shape_of h.edition (event_value h.edition (describe d)))
  event_long = plain_long ∙ ap (λ (b : Shape). event_bytes h.edition + data_bytes b) (sym (ap (shape_of h.edition) value_plain ∙ shape_same))

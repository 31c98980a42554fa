-- The laws of specs/Encode.antt and specs/Table.antt. Assumes nothing.
--     run_snoc, run_each            one entry more; of a mapped list
--     length_field                  the bytes of a field
--     field_back                    a short field of a sheet is the field of its tag and value
--     spread, event_spread          an event by its agent, its shape and its data: what a value says
--     laid_long, laid_agent, laid_shape_lem, laid_data     the bytes before an event's data and the data, as a value: its length, its shape, its data
--     tear_again                    a tear byte that a sheet says is said again
--     said_long, said_shape         the value of a description: its length, its shape
--     event_clean_back, event_short     an event's value without a fault is the value of its description, and is short
--     event_forth                   a description whose value has no fault is what its value describes
--     row_back, pair_back, head_back
--     sheet_split                   the parts of a sheet
--     encode_head, encode_event, encode_row, encode_pair     the bytes of a table with one field more at its end
use mathlib.Core.Path.{◌≡◌, refl, sym, ap, ◌∙◌, subst}
use mathlib.Core.Logic.{◌⊎◌, inl, inr}
use mathlib.Core.Bool.{Bool, true, false, cond}
use mathlib.Core.List.{List, [], ◌∷◌, ◌++◌, append_assoc, append-nil}
use Prim.Native.Nat.{ℕ, suc, ◌+◌, ◌/◌, ◌%◌, ◌<◌, ◌≤◌}
use native.Mathlib.Omega.{arith}
use native.Mathlib.Nat.{div-eq_of_lt, mod-eq_of_lt}
use borrow.Author.Tests.{eqb-true, eqb-false, eq-eqb}
use lib.Dec.{eqb}
use lib.ListN.{length, get_or, take, drop, length-take, length-drop}
use lib.Seq.{take_all, take-add, drop-drop, get_or-drop}
use Rattle.basis.specs.Test.{each}
use Rattle.basis.proofs.ListLaws.{each_more}
use Rattle.format.specs.declared.Head.{Head}
use Rattle.format.specs.declared.Row.{Row}
use Rattle.format.specs.declared.Pair.{Pair}
use Rattle.format.specs.declared.Shape.{Shape}
use Rattle.format.specs.Limits.{max_memory}
use Rattle.format.specs.Shape.{reads, tear_of}
use Rattle.format.specs.Event.{Access, Event}
use Rattle.format.specs.Execution.{Execution}
use Rattle.format.specs.Field.{tag_at, length_at, next_at, value_at}
use Rattle.format.specs.Layout.{edition_of, head_bytes, event_bytes, tear_by, data_bytes, row_bytes, pair_bytes, head_of, agent_of, shape_of, seen_of, written_of, access_of, event_of, row_of, pair_of}
use Rattle.format.proofs.LayoutLaws.{event_high, data_whole}
use Rattle.parse.specs.Parse.{event_fault}
use Rattle.parse.specs.Promise.{WellEvent}
use Rattle.parse.proofs.ParseLaws.{event_passed}
use Rattle.parse.proofs.EventLaws.{well_event}
use Rattle.encode.specs.Table.{Description, Table, describe, table_of}
use Rattle.encode.specs.Encode.{field, kind_byte, head_value, event_value, row_value, pair_value, run, encode}

-- ---- one entry more

module _ {A : Type 0} (tag : ℕ) (value : A → List ℕ) where
  pub run_snoc : (l : List A) (a : A) → run tag value (l ++ (a ∷ [])) ≡ run tag value l ++ field tag (value a)
  unfolding run
  run_snoc [] a = append-nil (field tag (value a))
  run_snoc (b ∷ l) a = ap (λ (m : List ℕ). field tag (value b) ++ m) (run_snoc l a) ∙ sym (append_assoc (field tag (value b)) (run tag value l) (field tag (value a)))

pub run_each : {A B : Type 0} (tag : ℕ) (f : A → B) (value : B → List ℕ) (l : List A) → run tag value (each f l) ≡ run tag (λ (a : A). value (f a)) l
unfolding run each
run_each tag f value [] = refl
run_each tag f value (a ∷ l) = ap (λ (m : List ℕ). field tag (value (f a)) ++ m) (run_each tag f value l)

-- ---- a field

pub length_field : (tag : ℕ) (v : List ℕ) → length (field tag v) ≡ 3 + length v
unfolding field
length_field tag v = omega arith

front : (l : List ℕ) (n : ℕ) → 3 ≤ length l → take (suc (suc (suc n))) l ≡ get_or l 0 0 ∷ get_or l 1 0 ∷ get_or l 2 0 ∷ take n (drop 3 l)
front [] n h = absurd (omega arith)
front (a ∷ []) n h = absurd (omega arith)
front (a ∷ b ∷ []) n h = absurd (omega arith)
front (a ∷ b ∷ c ∷ l) n h = refl

cells : {a b c d e f : ℕ} {v w : List ℕ} → a ≡ d → b ≡ e → c ≡ f → v ≡ w → ◌≡◌ {A = List ℕ} (a ∷ b ∷ c ∷ v) (d ∷ e ∷ f ∷ w)
cells p q r u = cc

-- what stands before the field at p, and the field; its length is below 256, so that the first byte of it is 0 and the second is the length, whatever
-- numbers the list has
pub field_back : (s : List ℕ) (p : ℕ) → next_at s p ≤ length s → length_at s p < 256
    → take (next_at s p) s ≡ take p s ++ field (tag_at s p) (value_at s p)
unfolding field value_at
field_back s p h b =
    let l : length (value_at s p) ≡ length_at s p = simp (length-take, length-drop) (omega arith) in
    let g : (i j : ℕ) → p + i ≡ j → get_or (drop p s) i 0 ≡ get_or s j 0 = λ i j e. get_or-drop p s i 0 ∙ ap (λ (k : ℕ). get_or s k 0) e in
    let hi : 0 ≡ get_or s (p + 1) 0 = omega arith in
    let lo : length_at s p ≡ get_or s (p + 2) 0 = omega arith in
    ap (λ (k : ℕ). take k s) (let e : next_at s p ≡ p + suc (suc (suc (length_at s p))) = omega arith in e)
    ∙ take-add p (suc (suc (suc (length_at s p)))) s
    ∙ ap (λ (m : List ℕ). take p s ++ m)
    (front (drop p s) (length_at s p) (simp length-drop (omega arith))
    ∙ cells (g 0 p (omega arith))
    (g 1 (p + 1) refl ∙ sym (ap (λ (k : ℕ). k / 256 % 256) l ∙ ap (λ (k : ℕ). k % 256) (div-eq_of_lt b) ∙ hi))
    (g 2 (p + 2) refl ∙ sym (ap (λ (k : ℕ). k % 256) l ∙ mod-eq_of_lt b ∙ lo))
    (ap (λ (m : List ℕ). take (length_at s p) m) (drop-drop 3 p s)))

-- ---- values

-- a value of n bytes is its n bytes
three : (v : List ℕ) → length v ≡ 3 → v ≡ get_or v 0 0 ∷ get_or v 1 0 ∷ get_or v 2 0 ∷ []
three v h = sym (take_all 3 v (omega arith)) ∙ front v 0 (omega arith)

two : (v : List ℕ) → length v ≡ 2 → v ≡ get_or v 0 0 ∷ get_or v 1 0 ∷ []
two [] h = absurd (omega arith)
two (a ∷ []) h = absurd (omega arith)
two (a ∷ b ∷ []) h = refl
two (a ∷ b ∷ c ∷ l) h = absurd (omega arith)

five : (v : List ℕ) → 5 ≤ length v → v ≡ get_or v 0 0 ∷ get_or v 1 0 ∷ get_or v 2 0 ∷ get_or v 3 0 ∷ get_or v 4 0 ∷ drop 5 v
five [] h = absurd (omega arith)
five (a ∷ []) h = absurd (omega arith)
five (a ∷ b ∷ []) h = absurd (omega arith)
five (a ∷ b ∷ c ∷ []) h = absurd (omega arith)
five (a ∷ b ∷ c ∷ d ∷ []) h = absurd (omega arith)
five (a ∷ b ∷ c ∷ d ∷ e ∷ l) h = refl

one : (l : List ℕ) → 1 ≤ length l → l ≡ get_or l 0 0 ∷ drop 1 l
one [] h = absurd (omega arith)
one (a ∷ l) h = refl

-- ---- an event's value

-- what agent, shape and data say
abbrev pub spread : ℕ → Shape → List ℕ → Event
spread agent a bytes =
    record {
      agent = agent;
      accesses = record {
        shape = a;
        seen = cond (reads a) (take a.width bytes) [];
        written = cond (eqb a.kind 2) (take a.width bytes) (cond (eqb a.kind 3) (take a.width (drop a.width bytes)) []);
      }
          ∷ [];
    }

pub event_spread : (edition agent : ℕ) (a : Shape) (bytes v : List ℕ) → agent_of v ≡ agent → shape_of edition v ≡ a → drop (event_bytes edition) v ≡ bytes
    → event_of edition v ≡ spread agent a bytes
unfolding seen_of written_of
event_spread edition agent a bytes v p q r =
    let f = sym (drop-drop (shape_of edition v).width (event_bytes edition) v) in
    rw f (λ i. spread (p i) (q i) (r i))

-- ---- the bytes before an event's data, by the edition

module _ (edition g k m s w t : ℕ) (b : List ℕ) where
  abbrev pub laid : List ℕ
  laid = take (event_bytes edition) (g ∷ k ∷ m ∷ s ∷ w ∷ t ∷ []) ++ b

  abbrev laid_by : Bool → List ℕ
  laid_by c = take (cond c 6 5) (g ∷ k ∷ m ∷ s ∷ w ∷ t ∷ []) ++ b

  pub laid_long : length laid ≡ event_bytes edition + length b
  unfolding event_bytes
  laid_long = go (eqb edition 2)
    where
      go : (c : Bool) → length (laid_by c) ≡ cond c 6 5 + length b
      go true = omega arith
      go false = omega arith

  pub laid_data : drop (event_bytes edition) laid ≡ b
  unfolding event_bytes
  laid_data = go (eqb edition 2)
    where
      go : (c : Bool) → drop (cond c 6 5) (laid_by c) ≡ b
      go true = refl
      go false = refl

  pub laid_agent : agent_of laid ≡ g
  unfolding event_bytes
  laid_agent = go (eqb edition 2)
    where
      go : (c : Bool) → agent_of (laid_by c) ≡ g
      go true = refl
      go false = refl

  pub laid_shape_lem : shape_of edition laid ≡ record { kind = k; mode = m; start = s; width = w; tear = tear_by edition k m s w t }
  unfolding event_bytes tear_by
  laid_shape_lem = go (eqb edition 2)
    where
      go : (c : Bool)
          → ◌≡◌ {A = Shape}
          (record {
            kind = get_or (laid_by c) 1 0;
            mode = get_or (laid_by c) 2 0;
            start = get_or (laid_by c) 3 0;
            width = get_or (laid_by c) 4 0;
            tear = cond c (get_or (laid_by c) 5 0) (tear_of (get_or (laid_by c) 1 0) (get_or (laid_by c) 2 0) (get_or (laid_by c) 3 0) (get_or (laid_by c) 4 0));
          })
          (record { kind = k; mode = m; start = s; width = w; tear = cond c t (tear_of k m s w) })
      go true = refl
      go false = refl

-- a tear byte that a sheet says is said again
pub tear_again : (edition k m s w t : ℕ) → tear_by edition k m s w (tear_by edition k m s w t) ≡ tear_by edition k m s w t
unfolding tear_by
tear_again edition k m s w t = go (eqb edition 2)
  where
    go : (c : Bool) → cond c (cond c t (tear_of k m s w)) (tear_of k m s w) ≡ cond c t (tear_of k m s w)
    go true = refl
    go false = refl

pub head_back : (v : List ℕ) → length v ≡ head_bytes (edition_of v) → head_value (head_of (edition_of v) v) ≡ v
unfolding head_bytes
head_back v h = sym (three v h)

pub row_back : (edition : ℕ) (v : List ℕ) → length v ≡ row_bytes edition → row_value edition (row_of edition v) ≡ v
unfolding row_bytes
row_back edition v h = sym (three v h)

pub pair_back : (v : List ℕ) → length v ≡ pair_bytes → pair_value (pair_of v) ≡ v
pair_back v h = sym (two v h)

-- ---- an event

-- what is asked of a value for its data to be what was seen and written
record Kinds (a : Shape) : Type 0 where
  low : 1 ≤ a.kind
  high : a.kind ≤ 4
  marker : a.kind ≡ 4 → a.width ≡ 0
  narrow : a.width ≤ max_memory

module _ (h : Head) (events : List Event) (v : List ℕ) (e : event_fault h events v ≡ 0) where
  well_kinds : Kinds (shape_of h.edition v)
  well_kinds = subst (λ (b : Access). Kinds b.shape) is (record { low = w.kind.0; high = w.kind.1; marker = λ k. (w.marker k).2; narrow = narrow })
    where
      w : WellEvent h (event_of h.edition v)
      w = well_event h events v e

      is : w.access ≡ access_of h.edition v
      is = let q = w.one_access in cc

      one : (w.access.shape.width ≡ 1) ⊎ (w.access.shape.width ≡ 2) ⊎ (w.access.shape.width ≡ 4) ⊎ (w.access.shape.width ≡ 8) → w.access.shape.width ≤ max_memory
      one (inl q) = omega arith
      one (inr (inl q)) = omega arith
      one (inr (inr (inl q))) = omega arith
      one (inr (inr (inr q))) = omega arith

      narrow : w.access.shape.width ≤ max_memory
      narrow = go (eqb w.access.shape.mode 0) refl (eqb w.access.shape.kind 4) refl
        where
          go : (b : Bool) → eqb w.access.shape.mode 0 ≡ b → (c : Bool) → eqb w.access.shape.kind 4 ≡ c → w.access.shape.width ≤ max_memory
          go true p c q = (w.init_width (eqb-true _ _ p)).1
          go false p true q = let z = (w.marker (eqb-true _ _ q)).2 in omega arith
          go false p false q = one (w.width (eqb-false _ _ p) (eqb-false _ _ q))

  data_back : seen_of h.edition v ++ written_of h.edition v ≡ drop (event_bytes h.edition) v
  data_back =
      let l = (event_passed h events v e).length in
      let k = well_kinds in
      data_whole h.edition v k.low k.high k.marker
      ∙ take_all (data_bytes (shape_of h.edition v)) (drop (event_bytes h.edition) v) (simp length-drop (omega arith))

  -- its front and its data
  value_split : take (event_bytes h.edition) (get_or v 0 0 ∷ get_or v 1 0 ∷ get_or v 2 0 ∷ get_or v 3 0 ∷ get_or v 4 0 ∷ (shape_of h.edition v).tear ∷ [])
      ++ drop (event_bytes h.edition) v ≡ v
  unfolding event_bytes tear_by
  value_split = let l = (event_passed h events v e).length in go (eqb h.edition 2) l
    where
      go : (c : Bool) → length v ≡ cond c 6 5 + data_bytes (shape_of h.edition v)
          → take (cond c 6 5) (get_or v 0 0 ∷ get_or v 1 0 ∷ get_or v 2 0 ∷ get_or v 3 0 ∷ get_or v 4 0 ∷ cond c (get_or v 5 0) (tear_of (get_or v 1 0) (get_or v 2 0) (get_or v 3 0) (get_or v 4 0)) ∷ [])
          ++ drop (cond c 6 5) v ≡ v
      go true l =
          sym (five v (omega arith)
          ∙ ap (λ (u : List ℕ). get_or v 0 0 ∷ get_or v 1 0 ∷ get_or v 2 0 ∷ get_or v 3 0 ∷ get_or v 4 0 ∷ u)
          (one (drop 5 v) (simp length-drop (omega arith)) ∙ ap (λ (n : ℕ). n ∷ drop 1 (drop 5 v)) (get_or-drop 5 v 0 0) ∙ ap (λ (u : List ℕ). get_or v 5 0 ∷ u) (drop-drop 1 5 v)))
      go false l = sym (five v (omega arith))

  -- a value without a fault is the value of its description
  pub event_clean_back : event_value h.edition (describe (event_of h.edition v)) ≡ v
  unfolding describe kind_byte
  event_clean_back =
      let g = sym (tear_again h.edition (get_or v 1 0) (get_or v 2 0) (get_or v 3 0) (get_or v 4 0) (get_or v 5 0)) in
      rw (eq-eqb _ _ g, data_back) value_split

  -- and is short
  pub event_short : length v < 256
  unfolding data_bytes
  event_short = let l = (event_passed h events v e).length in go (eqb (shape_of h.edition v).kind 3) l
    where
      go : (b : Bool) → length v ≡ event_bytes h.edition + cond b ((shape_of h.edition v).width + (shape_of h.edition v).width) (shape_of h.edition v).width → length v < 256
      go true l = let k = well_kinds.narrow in let u = event_high h.edition in omega arith
      go false l = let k = well_kinds.narrow in let u = event_high h.edition in omega arith

-- and the other way: a description whose value has no fault is what its value describes
module _ (edition : ℕ) (d : Description) where
  abbrev tear_said : ℕ
  tear_said = tear_by edition d.kind d.mode d.start d.width d.tear

  kind_kept : 1 ≤ kind_byte edition d → (kind_byte edition d ≡ d.kind) × (tear_said ≡ d.tear)
  unfolding kind_byte
  kind_kept h = go (eqb d.tear tear_said) refl h
    where
      go : (b : Bool) → eqb d.tear tear_said ≡ b → 1 ≤ cond b d.kind 0 → (cond b d.kind 0 ≡ d.kind) × (tear_said ≡ d.tear)
      go true p q = (refl, sym (eqb-true _ _ p))
      go false p q = absurd (omega arith)

  -- how long its value is, and what it says
  pub said_long : length (event_value edition d) ≡ event_bytes edition + length d.bytes
  said_long = laid_long edition d.agent (kind_byte edition d) d.mode d.start d.width d.tear d.bytes

  pub said_shape : shape_of edition (event_value edition d)
      ≡ record { kind = kind_byte edition d; mode = d.mode; start = d.start; width = d.width; tear = tear_by edition (kind_byte edition d) d.mode d.start d.width d.tear }
  said_shape = laid_shape_lem edition d.agent (kind_byte edition d) d.mode d.start d.width d.tear d.bytes

-- the parts of a description
described : {g g' : ℕ} {a a' : Shape} {b b' : List ℕ} → g ≡ g' → a ≡ a' → b ≡ b'
    → ◌≡◌ {A = Description}
    (record { agent = g; kind = a.kind; mode = a.mode; start = a.start; width = a.width; tear = a.tear; bytes = b })
    (record { agent = g'; kind = a'.kind; mode = a'.mode; start = a'.start; width = a'.width; tear = a'.tear; bytes = b' })
described p q r = λ i. record { agent = p i; kind = (q i).kind; mode = (q i).mode; start = (q i).start; width = (q i).width; tear = (q i).tear; bytes = r i }

abbrev said : Description → ℕ → ℕ → Description
said d kind tear = record { agent = d.agent; kind = kind; mode = d.mode; start = d.start; width = d.width; tear = tear; bytes = d.bytes }

pub event_forth : (h : Head) (events : List Event) (d : Description) → event_fault h events (event_value h.edition d) ≡ 0
    → describe (event_of h.edition (event_value h.edition d)) ≡ d
unfolding describe
event_forth h events d e =
    let v = event_value h.edition d in
    let b : seen_of h.edition v ++ written_of h.edition v ≡ d.bytes =
    data_back h events v e ∙ laid_data h.edition d.agent (kind_byte h.edition d) d.mode d.start d.width d.tear d.bytes in
    let a = said_shape h.edition d in
    let g = laid_agent h.edition d.agent (kind_byte h.edition d) d.mode d.start d.width d.tear d.bytes in
    let q = kind_kept h.edition d (subst (λ (y : Shape). 1 ≤ y.kind) a (well_kinds h events v e).low) in
    described g a b ∙ ap (λ (n : ℕ). said d n (tear_by h.edition n d.mode d.start d.width d.tear)) q.0 ∙ ap (said d d.kind) q.1

-- ---- the bytes of a table with one field more at its end

-- the head alone
pub encode_head : (x : Execution) → x.events ≡ [] → x.rows ≡ [] → x.pairs ≡ [] → encode (table_of x) ≡ field 1 (head_value x.head)
unfolding encode table_of run each field
encode_head x a b c = rw (a, b, c) (append-nil (field 1 (head_value x.head)))

pub encode_event : (h : Head) (l : List Event) (d : Event) (rows : List Row) (pairs : List Pair) → rows ≡ [] → pairs ≡ []
    → encode (table_of (record { head = h; events = l ++ (d ∷ []); rows = rows; pairs = pairs }))
    ≡ encode (table_of (record { head = h; events = l; rows = rows; pairs = pairs })) ++ field 2 (event_value h.edition (describe d))
unfolding encode table_of run
encode_event h l d rows pairs a b =
    rw (a, b, each_more describe l d, run_snoc 2 (event_value h.edition) (each describe l) (describe d)) (simp (append_assoc, append-nil))

pub encode_row : (h : Head) (l : List Event) (rows : List Row) (r : Row) (pairs : List Pair) → pairs ≡ []
    → encode (table_of (record { head = h; events = l; rows = rows ++ (r ∷ []); pairs = pairs }))
    ≡ encode (table_of (record { head = h; events = l; rows = rows; pairs = pairs })) ++ field 3 (row_value h.edition r)
unfolding encode table_of run
encode_row h l rows r pairs a = rw (a, run_snoc 3 (row_value h.edition) rows r) (simp (append_assoc, append-nil))

pub encode_pair : (h : Head) (l : List Event) (rows : List Row) (pairs : List Pair) (p : Pair)
    → encode (table_of (record { head = h; events = l; rows = rows; pairs = pairs ++ (p ∷ []) }))
    ≡ encode (table_of (record { head = h; events = l; rows = rows; pairs = pairs })) ++ field 4 (pair_value p)
unfolding encode table_of
encode_pair h l rows pairs p = rw (run_snoc 4 pair_value pairs p) (simp append_assoc)

-- the four parts of a sheet, the later ones grouped
pub sheet_split : (t : Table)
    → encode t ≡ field 1 (head_value t.head) ++ (run 2 (event_value t.head.edition) t.events ++ (run 3 (row_value t.head.edition) t.rows ++ run 4 pair_value t.pairs))
unfolding encode
sheet_split t = simp append_assoc

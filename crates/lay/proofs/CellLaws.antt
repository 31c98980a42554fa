-- What stands in the tables after they are filled. Assumes nothing.
--     five_miss, five_a .. five_e       five cells written: another cell, and each of them
--     cell_at, cell_beyond, cell_kept   a loop that writes one cell of a column a turn: those written, those to come, a cell that no turn writes
--     agent_at, kind_at .. tear_at, width_beyond, second_kept      the table of accesses
--     reader_at, address_at, writer_at, seen_at_lem, wrote_at_lem          the table of rows
--     first_at, second_at                                          the table of pairs
use mathlib.Core.Path.{◌≡◌, refl, sym, ap, ◌∙◌}
use mathlib.Core.List.{List}
use Prim.Native.Nat.{ℕ, zero, suc, ◌+◌, ◌*◌, ◌<◌, ◌≤◌}
use native.Mathlib.Nat.{mod-eq_of_lt}
use native.Mathlib.Omega.{arith}
use native.Mathlib.Decide.{ℕ_discrete}
use lib.ListN.{length, get_or, set, length-set}
use lib.Seq.{get_or-set_same, get_or-set_other}
use Rattle.format.specs.declared.Shape.{Shape}
use Rattle.format.specs.Field.{rest_at}
use Rattle.format.specs.Layout.{agent_of, shape_of}
use Rattle.entries.specs.declared.Counts.{Counts}
use Rattle.entries.specs.Entries.{row_no, pair_no}
use Rattle.sets.specs.Mask.{slots}
use Rattle.cells.specs.Walk.{up_to}
use Rattle.tables.specs.Tables.{row_room, putting_row, pair_room}
use Rattle.row_data.specs.RowData.{seen_at, wrote_at, row_put}
use Rattle.row_data.proofs.RowDataLaws.{row_length}
use Rattle.lay.specs.Lay.{event_step, events_put, rows_put, pair_put, pairs_put}
use Rattle.lay.proofs.LayLaws.{up_to_length, event_length, pair_length}

-- ---- five cells

module _ (l : List ℕ) (a b c d e u v w x y : ℕ) where
  abbrev l1 : List ℕ
  l1 = set l a u

  abbrev l2 : List ℕ
  l2 = set l1 b v

  abbrev l3 : List ℕ
  l3 = set l2 c w

  abbrev l4 : List ℕ
  l4 = set l3 d x

  abbrev five : List ℕ
  five = set l4 e y

  pub five_miss : (q : ℕ) → (q ≡ a → ⊥) → (q ≡ b → ⊥) → (q ≡ c → ⊥) → (q ≡ d → ⊥) → (q ≡ e → ⊥) → get_or five q 0 ≡ get_or l q 0
  five_miss q n0 n1 n2 n3 n4 =
      get_or-set_other l4 e q y 0 n4 ∙ get_or-set_other l3 d q x 0 n3 ∙ get_or-set_other l2 c q w 0 n2 ∙ get_or-set_other l1 b q v 0 n1 ∙ get_or-set_other l a q u 0 n0

  pub five_a : a < length l → (a ≡ b → ⊥) → (a ≡ c → ⊥) → (a ≡ d → ⊥) → (a ≡ e → ⊥) → get_or five a 0 ≡ u
  five_a h n1 n2 n3 n4 =
      get_or-set_other l4 e a y 0 n4 ∙ get_or-set_other l3 d a x 0 n3 ∙ get_or-set_other l2 c a w 0 n2 ∙ get_or-set_other l1 b a v 0 n1 ∙ get_or-set_same l a u 0 h

  pub five_b : b < length l → (b ≡ c → ⊥) → (b ≡ d → ⊥) → (b ≡ e → ⊥) → get_or five b 0 ≡ v
  five_b h n2 n3 n4 =
      get_or-set_other l4 e b y 0 n4 ∙ get_or-set_other l3 d b x 0 n3 ∙ get_or-set_other l2 c b w 0 n2
      ∙ get_or-set_same l1 b v 0 (let z : length l1 ≡ length l = simp length-set in omega arith)

  pub five_c : c < length l → (c ≡ d → ⊥) → (c ≡ e → ⊥) → get_or five c 0 ≡ w
  five_c h n3 n4 =
      get_or-set_other l4 e c y 0 n4 ∙ get_or-set_other l3 d c x 0 n3 ∙ get_or-set_same l2 c w 0 (let z : length l2 ≡ length l = simp length-set in omega arith)

  pub five_d : d < length l → (d ≡ e → ⊥) → get_or five d 0 ≡ x
  five_d h n4 = get_or-set_other l4 e d y 0 n4 ∙ get_or-set_same l3 d x 0 (let z : length l3 ≡ length l = simp length-set in omega arith)

  pub five_e : e < length l → get_or five e 0 ≡ y
  five_e h = get_or-set_same l4 e y 0 (let z : length l4 ≡ length l = simp length-set in omega arith)

-- ---- a column

module _ (f : ℕ → List ℕ → List ℕ) (P F : ℕ → ℕ) (room size : ℕ) (same : (j : ℕ) (l : List ℕ) → length (f j l) ≡ length l)
    (hit : (j : ℕ) (l : List ℕ) → j < room → length l ≡ size → get_or (f j l) (P j) 0 ≡ F j)
    (miss : (i j : ℕ) (l : List ℕ) → i < room → j < room → (i ≡ j → ⊥) → get_or (f j l) (P i) 0 ≡ get_or l (P i) 0)
    (l : List ℕ) (long : length l ≡ size) where
  pub cell_at : (m i : ℕ) → m ≤ room → i < m → get_or (up_to f m l) (P i) 0 ≡ F i
  unfolding up_to
  cell_at zero i h k = absurd (omega arith)
  cell_at (suc m) i h k = go (ℕ_discrete i m) (cell_at m i)
    where
      go : Dec (i ≡ m) → (m ≤ room → i < m → get_or (up_to f m l) (P i) 0 ≡ F i) → get_or (f m (up_to f m l)) (P i) 0 ≡ F i
      go (yes e) ih = ap (λ (z : ℕ). get_or (f m (up_to f m l)) (P z) 0) e ∙ hit m (up_to f m l) (omega arith) (up_to_length f same l m ∙ long) ∙ ap F (sym e)
      go (no e) ih = miss i m (up_to f m l) (omega arith) (omega arith) e ∙ ih (omega arith) (omega (arith, e))

  pub cell_beyond : (m i : ℕ) → m ≤ room → m ≤ i → i < room → get_or (up_to f m l) (P i) 0 ≡ get_or l (P i) 0
  unfolding up_to
  cell_beyond zero i h k b = refl
  cell_beyond (suc m) i h k b = miss i m (up_to f m l) b (omega arith) (λ z. omega arith) ∙ cell_beyond m i (omega arith) (omega arith) b

module _ (f : ℕ → List ℕ → List ℕ) (p room : ℕ) (miss : (j : ℕ) (l : List ℕ) → j < room → get_or (f j l) p 0 ≡ get_or l p 0) (l : List ℕ) where
  pub cell_kept : (m : ℕ) → m ≤ room → get_or (up_to f m l) p 0 ≡ get_or l p 0
  unfolding up_to
  cell_kept zero h = refl
  cell_kept (suc m) h = miss m (up_to f m l) (omega arith) ∙ cell_kept m (omega arith)

-- ---- accesses

module _ (s : List ℕ) (edition : ℕ) (at l : List ℕ) (long : length l ≡ 352) (m : ℕ) (few : m ≤ slots) where
  abbrev sh : ℕ → Shape
  sh j = shape_of edition (rest_at s (get_or at j 0))

  abbrev ag : ℕ → ℕ
  ag j = agent_of (rest_at s (get_or at j 0))

  agent_hit : (j : ℕ) (k : List ℕ) → j < slots → length k ≡ 352 → get_or (event_step s edition at j k) j 0 ≡ ag j
  agent_hit j k h z =
      five_miss (set k j (ag j)) (32 + 2 * j) (96 + 2 * j) (160 + 2 * j) (224 + 2 * j) (288 + 2 * j) (sh j).kind (sh j).mode (sh j).start (sh j).width (sh j).tear j (λ z. omega arith) (λ z. omega arith) (λ z. omega arith) (λ z. omega arith) (λ z. omega arith)
      ∙ get_or-set_same k j (ag j) 0 (omega arith)

  agent_miss : (i j : ℕ) (k : List ℕ) → i < slots → j < slots → (i ≡ j → ⊥) → get_or (event_step s edition at j k) i 0 ≡ get_or k i 0
  agent_miss i j k h g d =
      five_miss (set k j (ag j)) (32 + 2 * j) (96 + 2 * j) (160 + 2 * j) (224 + 2 * j) (288 + 2 * j) (sh j).kind (sh j).mode (sh j).start (sh j).width (sh j).tear i (λ z. omega arith) (λ z. omega arith) (λ z. omega arith) (λ z. omega arith) (λ z. omega arith)
      ∙ get_or-set_other k j i (ag j) 0 d

  pub agent_at : (i : ℕ) → i < m → get_or (events_put s edition at m l) i 0 ≡ agent_of (rest_at s (get_or at i 0))
  unfolding events_put
  agent_at i h = cell_at (event_step s edition at) (λ j. j) ag slots 352 (event_length s edition at) agent_hit agent_miss l long m i few h

  kind_hit : (j : ℕ) (k : List ℕ) → j < slots → length k ≡ 352 → get_or (event_step s edition at j k) (32 + 2 * j) 0 ≡ (sh j).kind
  kind_hit j k h z = five_a (set k j (ag j)) (32 + 2 * j) (96 + 2 * j) (160 + 2 * j) (224 + 2 * j) (288 + 2 * j) (sh j).kind (sh j).mode (sh j).start (sh j).width (sh j).tear (let y : length (set k j (ag j)) ≡ length k = length-set k j (ag j) in omega arith) (λ z. omega arith) (λ z. omega arith) (λ z. omega arith) (λ z. omega arith)

  kind_miss : (i j : ℕ) (k : List ℕ) → i < slots → j < slots → (i ≡ j → ⊥) → get_or (event_step s edition at j k) (32 + 2 * i) 0 ≡ get_or k (32 + 2 * i) 0
  kind_miss i j k h g d =
      five_miss (set k j (ag j)) (32 + 2 * j) (96 + 2 * j) (160 + 2 * j) (224 + 2 * j) (288 + 2 * j) (sh j).kind (sh j).mode (sh j).start (sh j).width (sh j).tear (32 + 2 * i) (λ z. d (omega arith)) (λ z. omega arith) (λ z. omega arith) (λ z. omega arith) (λ z. omega arith)
      ∙ get_or-set_other k j (32 + 2 * i) (ag j) 0 (λ z. omega arith)

  pub kind_at : (i : ℕ) → i < m → get_or (events_put s edition at m l) (32 + 2 * i) 0 ≡ (shape_of edition (rest_at s (get_or at i 0))).kind
  unfolding events_put
  kind_at i h = cell_at (event_step s edition at) (λ j. 32 + 2 * j) (λ j. (sh j).kind) slots 352 (event_length s edition at) kind_hit kind_miss l long m i few h

  mode_hit : (j : ℕ) (k : List ℕ) → j < slots → length k ≡ 352 → get_or (event_step s edition at j k) (96 + 2 * j) 0 ≡ (sh j).mode
  mode_hit j k h z = five_b (set k j (ag j)) (32 + 2 * j) (96 + 2 * j) (160 + 2 * j) (224 + 2 * j) (288 + 2 * j) (sh j).kind (sh j).mode (sh j).start (sh j).width (sh j).tear (let y : length (set k j (ag j)) ≡ length k = length-set k j (ag j) in omega arith) (λ z. omega arith) (λ z. omega arith) (λ z. omega arith)

  mode_miss : (i j : ℕ) (k : List ℕ) → i < slots → j < slots → (i ≡ j → ⊥) → get_or (event_step s edition at j k) (96 + 2 * i) 0 ≡ get_or k (96 + 2 * i) 0
  mode_miss i j k h g d =
      five_miss (set k j (ag j)) (32 + 2 * j) (96 + 2 * j) (160 + 2 * j) (224 + 2 * j) (288 + 2 * j) (sh j).kind (sh j).mode (sh j).start (sh j).width (sh j).tear (96 + 2 * i) (λ z. omega arith) (λ z. d (omega arith)) (λ z. omega arith) (λ z. omega arith) (λ z. omega arith)
      ∙ get_or-set_other k j (96 + 2 * i) (ag j) 0 (λ z. omega arith)

  pub mode_at : (i : ℕ) → i < m → get_or (events_put s edition at m l) (96 + 2 * i) 0 ≡ (shape_of edition (rest_at s (get_or at i 0))).mode
  unfolding events_put
  mode_at i h = cell_at (event_step s edition at) (λ j. 96 + 2 * j) (λ j. (sh j).mode) slots 352 (event_length s edition at) mode_hit mode_miss l long m i few h

  start_hit : (j : ℕ) (k : List ℕ) → j < slots → length k ≡ 352 → get_or (event_step s edition at j k) (160 + 2 * j) 0 ≡ (sh j).start
  start_hit j k h z = five_c (set k j (ag j)) (32 + 2 * j) (96 + 2 * j) (160 + 2 * j) (224 + 2 * j) (288 + 2 * j) (sh j).kind (sh j).mode (sh j).start (sh j).width (sh j).tear (let y : length (set k j (ag j)) ≡ length k = length-set k j (ag j) in omega arith) (λ z. omega arith) (λ z. omega arith)

  start_miss : (i j : ℕ) (k : List ℕ) → i < slots → j < slots → (i ≡ j → ⊥) → get_or (event_step s edition at j k) (160 + 2 * i) 0 ≡ get_or k (160 + 2 * i) 0
  start_miss i j k h g d =
      five_miss (set k j (ag j)) (32 + 2 * j) (96 + 2 * j) (160 + 2 * j) (224 + 2 * j) (288 + 2 * j) (sh j).kind (sh j).mode (sh j).start (sh j).width (sh j).tear (160 + 2 * i) (λ z. omega arith) (λ z. omega arith) (λ z. d (omega arith)) (λ z. omega arith) (λ z. omega arith)
      ∙ get_or-set_other k j (160 + 2 * i) (ag j) 0 (λ z. omega arith)

  pub start_at : (i : ℕ) → i < m → get_or (events_put s edition at m l) (160 + 2 * i) 0 ≡ (shape_of edition (rest_at s (get_or at i 0))).start
  unfolding events_put
  start_at i h = cell_at (event_step s edition at) (λ j. 160 + 2 * j) (λ j. (sh j).start) slots 352 (event_length s edition at) start_hit start_miss l long m i few h

  width_hit : (j : ℕ) (k : List ℕ) → j < slots → length k ≡ 352 → get_or (event_step s edition at j k) (224 + 2 * j) 0 ≡ (sh j).width
  width_hit j k h z = five_d (set k j (ag j)) (32 + 2 * j) (96 + 2 * j) (160 + 2 * j) (224 + 2 * j) (288 + 2 * j) (sh j).kind (sh j).mode (sh j).start (sh j).width (sh j).tear (let y : length (set k j (ag j)) ≡ length k = length-set k j (ag j) in omega arith) (λ z. omega arith)

  width_miss : (i j : ℕ) (k : List ℕ) → i < slots → j < slots → (i ≡ j → ⊥) → get_or (event_step s edition at j k) (224 + 2 * i) 0 ≡ get_or k (224 + 2 * i) 0
  width_miss i j k h g d =
      five_miss (set k j (ag j)) (32 + 2 * j) (96 + 2 * j) (160 + 2 * j) (224 + 2 * j) (288 + 2 * j) (sh j).kind (sh j).mode (sh j).start (sh j).width (sh j).tear (224 + 2 * i) (λ z. omega arith) (λ z. omega arith) (λ z. omega arith) (λ z. d (omega arith)) (λ z. omega arith)
      ∙ get_or-set_other k j (224 + 2 * i) (ag j) 0 (λ z. omega arith)

  pub width_at : (i : ℕ) → i < m → get_or (events_put s edition at m l) (224 + 2 * i) 0 ≡ (shape_of edition (rest_at s (get_or at i 0))).width
  unfolding events_put
  width_at i h = cell_at (event_step s edition at) (λ j. 224 + 2 * j) (λ j. (sh j).width) slots 352 (event_length s edition at) width_hit width_miss l long m i few h

  tear_hit : (j : ℕ) (k : List ℕ) → j < slots → length k ≡ 352 → get_or (event_step s edition at j k) (288 + 2 * j) 0 ≡ (sh j).tear
  tear_hit j k h z = five_e (set k j (ag j)) (32 + 2 * j) (96 + 2 * j) (160 + 2 * j) (224 + 2 * j) (288 + 2 * j) (sh j).kind (sh j).mode (sh j).start (sh j).width (sh j).tear (let y : length (set k j (ag j)) ≡ length k = length-set k j (ag j) in omega arith)

  tear_miss : (i j : ℕ) (k : List ℕ) → i < slots → j < slots → (i ≡ j → ⊥) → get_or (event_step s edition at j k) (288 + 2 * i) 0 ≡ get_or k (288 + 2 * i) 0
  tear_miss i j k h g d =
      five_miss (set k j (ag j)) (32 + 2 * j) (96 + 2 * j) (160 + 2 * j) (224 + 2 * j) (288 + 2 * j) (sh j).kind (sh j).mode (sh j).start (sh j).width (sh j).tear (288 + 2 * i) (λ z. omega arith) (λ z. omega arith) (λ z. omega arith) (λ z. omega arith) (λ z. d (omega arith))
      ∙ get_or-set_other k j (288 + 2 * i) (ag j) 0 (λ z. omega arith)

  pub tear_at : (i : ℕ) → i < m → get_or (events_put s edition at m l) (288 + 2 * i) 0 ≡ (shape_of edition (rest_at s (get_or at i 0))).tear
  unfolding events_put
  tear_at i h = cell_at (event_step s edition at) (λ j. 288 + 2 * j) (λ j. (sh j).tear) slots 352 (event_length s edition at) tear_hit tear_miss l long m i few h

  pub width_beyond : (i : ℕ) → m ≤ i → i < slots → get_or (events_put s edition at m l) (224 + 2 * i) 0 ≡ get_or l (224 + 2 * i) 0
  unfolding events_put
  width_beyond i h k = cell_beyond (event_step s edition at) (λ j. 224 + 2 * j) (λ j. (sh j).width) slots 352 (event_length s edition at) width_hit width_miss l long m i few h k

  second_miss : (i j : ℕ) (k : List ℕ) → i < slots → j < slots → get_or (event_step s edition at j k) (224 + (2 * i + 1)) 0 ≡ get_or k (224 + (2 * i + 1)) 0
  second_miss i j k h g =
      five_miss (set k j (ag j)) (32 + 2 * j) (96 + 2 * j) (160 + 2 * j) (224 + 2 * j) (288 + 2 * j) (sh j).kind (sh j).mode (sh j).start (sh j).width (sh j).tear (224 + (2 * i + 1)) (λ z. omega arith) (λ z. omega arith) (λ z. omega arith) (λ z. omega arith) (λ z. omega arith)
      ∙ get_or-set_other k j (224 + (2 * i + 1)) (ag j) 0 (λ z. omega arith)

  pub second_kept : (i : ℕ) → i < slots → get_or (events_put s edition at m l) (224 + (2 * i + 1)) 0 ≡ get_or l (224 + (2 * i + 1)) 0
  unfolding events_put
  second_kept i h = cell_kept (event_step s edition at) (224 + (2 * i + 1)) slots (λ j k g. second_miss i j k h g) l m few

-- ---- rows

module _ (s : List ℕ) (x : Counts) (at t l : List ℕ) (long : length l ≡ 1440) (m : ℕ) (few : m ≤ row_room) where
  row_is : (j : ℕ) (k : List ℕ) → j < row_room → row_put s x at t j k ≡ putting_row k j (row_no s x j) (seen_at s x.head.edition at t (row_no s x j)) (wrote_at s x.head.edition at t (row_no s x j))
  unfolding row_put
  row_is j k h = ap (λ (i : ℕ). putting_row k i (row_no s x j) (seen_at s x.head.edition at t (row_no s x j)) (wrote_at s x.head.edition at t (row_no s x j))) (mod-eq_of_lt h)

  reader_hit : (j : ℕ) (k : List ℕ) → j < row_room → length k ≡ 1440 → get_or (row_put s x at t j k) j 0 ≡ (row_no s x j).reader
  reader_hit j k h z = ap (λ (y : List ℕ). get_or y j 0) (row_is j k h) ∙ five_a k j (288 + j) (576 + j) (864 + j) (1152 + j) (row_no s x j).reader (row_no s x j).address (row_no s x j).writer (seen_at s x.head.edition at t (row_no s x j)) (wrote_at s x.head.edition at t (row_no s x j)) (omega arith) (λ z. omega arith) (λ z. omega arith) (λ z. omega arith) (λ z. omega arith)

  reader_miss : (i j : ℕ) (k : List ℕ) → i < row_room → j < row_room → (i ≡ j → ⊥) → get_or (row_put s x at t j k) i 0 ≡ get_or k i 0
  reader_miss i j k h g d = ap (λ (y : List ℕ). get_or y i 0) (row_is j k g) ∙ five_miss k j (288 + j) (576 + j) (864 + j) (1152 + j) (row_no s x j).reader (row_no s x j).address (row_no s x j).writer (seen_at s x.head.edition at t (row_no s x j)) (wrote_at s x.head.edition at t (row_no s x j)) i d (λ z. omega arith) (λ z. omega arith) (λ z. omega arith) (λ z. omega arith)

  pub reader_at : (i : ℕ) → i < m → get_or (rows_put s x at t m l) i 0 ≡ (row_no s x i).reader
  unfolding rows_put
  reader_at i h = cell_at (row_put s x at t) (λ j. j) (λ j. (row_no s x j).reader) row_room 1440 (row_length s x at t) reader_hit reader_miss l long m i few h

  address_hit : (j : ℕ) (k : List ℕ) → j < row_room → length k ≡ 1440 → get_or (row_put s x at t j k) (288 + j) 0 ≡ (row_no s x j).address
  address_hit j k h z = ap (λ (y : List ℕ). get_or y (288 + j) 0) (row_is j k h) ∙ five_b k j (288 + j) (576 + j) (864 + j) (1152 + j) (row_no s x j).reader (row_no s x j).address (row_no s x j).writer (seen_at s x.head.edition at t (row_no s x j)) (wrote_at s x.head.edition at t (row_no s x j)) (omega arith) (λ z. omega arith) (λ z. omega arith) (λ z. omega arith)

  address_miss : (i j : ℕ) (k : List ℕ) → i < row_room → j < row_room → (i ≡ j → ⊥) → get_or (row_put s x at t j k) (288 + i) 0 ≡ get_or k (288 + i) 0
  address_miss i j k h g d = ap (λ (y : List ℕ). get_or y (288 + i) 0) (row_is j k g) ∙ five_miss k j (288 + j) (576 + j) (864 + j) (1152 + j) (row_no s x j).reader (row_no s x j).address (row_no s x j).writer (seen_at s x.head.edition at t (row_no s x j)) (wrote_at s x.head.edition at t (row_no s x j)) (288 + i) (λ z. omega arith) (λ z. d (omega arith)) (λ z. omega arith) (λ z. omega arith) (λ z. omega arith)

  pub address_at : (i : ℕ) → i < m → get_or (rows_put s x at t m l) (288 + i) 0 ≡ (row_no s x i).address
  unfolding rows_put
  address_at i h = cell_at (row_put s x at t) (λ j. 288 + j) (λ j. (row_no s x j).address) row_room 1440 (row_length s x at t) address_hit address_miss l long m i few h

  writer_hit : (j : ℕ) (k : List ℕ) → j < row_room → length k ≡ 1440 → get_or (row_put s x at t j k) (576 + j) 0 ≡ (row_no s x j).writer
  writer_hit j k h z = ap (λ (y : List ℕ). get_or y (576 + j) 0) (row_is j k h) ∙ five_c k j (288 + j) (576 + j) (864 + j) (1152 + j) (row_no s x j).reader (row_no s x j).address (row_no s x j).writer (seen_at s x.head.edition at t (row_no s x j)) (wrote_at s x.head.edition at t (row_no s x j)) (omega arith) (λ z. omega arith) (λ z. omega arith)

  writer_miss : (i j : ℕ) (k : List ℕ) → i < row_room → j < row_room → (i ≡ j → ⊥) → get_or (row_put s x at t j k) (576 + i) 0 ≡ get_or k (576 + i) 0
  writer_miss i j k h g d = ap (λ (y : List ℕ). get_or y (576 + i) 0) (row_is j k g) ∙ five_miss k j (288 + j) (576 + j) (864 + j) (1152 + j) (row_no s x j).reader (row_no s x j).address (row_no s x j).writer (seen_at s x.head.edition at t (row_no s x j)) (wrote_at s x.head.edition at t (row_no s x j)) (576 + i) (λ z. omega arith) (λ z. omega arith) (λ z. d (omega arith)) (λ z. omega arith) (λ z. omega arith)

  pub writer_at : (i : ℕ) → i < m → get_or (rows_put s x at t m l) (576 + i) 0 ≡ (row_no s x i).writer
  unfolding rows_put
  writer_at i h = cell_at (row_put s x at t) (λ j. 576 + j) (λ j. (row_no s x j).writer) row_room 1440 (row_length s x at t) writer_hit writer_miss l long m i few h

  seen_hit : (j : ℕ) (k : List ℕ) → j < row_room → length k ≡ 1440 → get_or (row_put s x at t j k) (864 + j) 0 ≡ seen_at s x.head.edition at t (row_no s x j)
  seen_hit j k h z = ap (λ (y : List ℕ). get_or y (864 + j) 0) (row_is j k h) ∙ five_d k j (288 + j) (576 + j) (864 + j) (1152 + j) (row_no s x j).reader (row_no s x j).address (row_no s x j).writer (seen_at s x.head.edition at t (row_no s x j)) (wrote_at s x.head.edition at t (row_no s x j)) (omega arith) (λ z. omega arith)

  seen_miss : (i j : ℕ) (k : List ℕ) → i < row_room → j < row_room → (i ≡ j → ⊥) → get_or (row_put s x at t j k) (864 + i) 0 ≡ get_or k (864 + i) 0
  seen_miss i j k h g d = ap (λ (y : List ℕ). get_or y (864 + i) 0) (row_is j k g) ∙ five_miss k j (288 + j) (576 + j) (864 + j) (1152 + j) (row_no s x j).reader (row_no s x j).address (row_no s x j).writer (seen_at s x.head.edition at t (row_no s x j)) (wrote_at s x.head.edition at t (row_no s x j)) (864 + i) (λ z. omega arith) (λ z. omega arith) (λ z. omega arith) (λ z. d (omega arith)) (λ z. omega arith)

  pub seen_at_lem : (i : ℕ) → i < m → get_or (rows_put s x at t m l) (864 + i) 0 ≡ seen_at s x.head.edition at t (row_no s x i)
  unfolding rows_put
  seen_at_lem i h = cell_at (row_put s x at t) (λ j. 864 + j) (λ j. seen_at s x.head.edition at t (row_no s x j)) row_room 1440 (row_length s x at t) seen_hit seen_miss l long m i few h

  wrote_hit : (j : ℕ) (k : List ℕ) → j < row_room → length k ≡ 1440 → get_or (row_put s x at t j k) (1152 + j) 0 ≡ wrote_at s x.head.edition at t (row_no s x j)
  wrote_hit j k h z = ap (λ (y : List ℕ). get_or y (1152 + j) 0) (row_is j k h) ∙ five_e k j (288 + j) (576 + j) (864 + j) (1152 + j) (row_no s x j).reader (row_no s x j).address (row_no s x j).writer (seen_at s x.head.edition at t (row_no s x j)) (wrote_at s x.head.edition at t (row_no s x j)) (omega arith)

  wrote_miss : (i j : ℕ) (k : List ℕ) → i < row_room → j < row_room → (i ≡ j → ⊥) → get_or (row_put s x at t j k) (1152 + i) 0 ≡ get_or k (1152 + i) 0
  wrote_miss i j k h g d = ap (λ (y : List ℕ). get_or y (1152 + i) 0) (row_is j k g) ∙ five_miss k j (288 + j) (576 + j) (864 + j) (1152 + j) (row_no s x j).reader (row_no s x j).address (row_no s x j).writer (seen_at s x.head.edition at t (row_no s x j)) (wrote_at s x.head.edition at t (row_no s x j)) (1152 + i) (λ z. omega arith) (λ z. omega arith) (λ z. omega arith) (λ z. omega arith) (λ z. d (omega arith))

  pub wrote_at_lem : (i : ℕ) → i < m → get_or (rows_put s x at t m l) (1152 + i) 0 ≡ wrote_at s x.head.edition at t (row_no s x i)
  unfolding rows_put
  wrote_at_lem i h = cell_at (row_put s x at t) (λ j. 1152 + j) (λ j. wrote_at s x.head.edition at t (row_no s x j)) row_room 1440 (row_length s x at t) wrote_hit wrote_miss l long m i few h

-- ---- pairs

module _ (s : List ℕ) (x : Counts) (l : List ℕ) (long : length l ≡ 64) (m : ℕ) (few : m ≤ pair_room) where
  pair_is : (j : ℕ) (k : List ℕ) → j < pair_room → pair_put s x j k ≡ set (set k j (pair_no s x j).first) (32 + j) (pair_no s x j).second
  unfolding pair_put
  pair_is j k h = ap (λ (i : ℕ). set (set k i (pair_no s x j).first) (32 + i) (pair_no s x j).second) (mod-eq_of_lt h)

  first_hit : (j : ℕ) (k : List ℕ) → j < pair_room → length k ≡ 64 → get_or (pair_put s x j k) j 0 ≡ (pair_no s x j).first
  first_hit j k h z =
      ap (λ (y : List ℕ). get_or y j 0) (pair_is j k h) ∙ get_or-set_other (set k j (pair_no s x j).first) (32 + j) j (pair_no s x j).second 0 (λ y. omega arith)
      ∙ get_or-set_same k j (pair_no s x j).first 0 (omega arith)

  first_miss : (i j : ℕ) (k : List ℕ) → i < pair_room → j < pair_room → (i ≡ j → ⊥) → get_or (pair_put s x j k) i 0 ≡ get_or k i 0
  first_miss i j k h g d =
      ap (λ (y : List ℕ). get_or y i 0) (pair_is j k g) ∙ get_or-set_other (set k j (pair_no s x j).first) (32 + j) i (pair_no s x j).second 0 (λ y. omega arith)
      ∙ get_or-set_other k j i (pair_no s x j).first 0 d

  pub first_at : (i : ℕ) → i < m → get_or (pairs_put s x m l) i 0 ≡ (pair_no s x i).first
  unfolding pairs_put
  first_at i h = cell_at (pair_put s x) (λ j. j) (λ j. (pair_no s x j).first) pair_room 64 (pair_length s x) first_hit first_miss l long m i few h

  second_hit : (j : ℕ) (k : List ℕ) → j < pair_room → length k ≡ 64 → get_or (pair_put s x j k) (32 + j) 0 ≡ (pair_no s x j).second
  second_hit j k h z =
      ap (λ (y : List ℕ). get_or y (32 + j) 0) (pair_is j k h)
      ∙ get_or-set_same (set k j (pair_no s x j).first) (32 + j) (pair_no s x j).second 0 (let y : length (set k j (pair_no s x j).first) ≡ length k = length-set k j (pair_no s x j).first in omega arith)

  second_other : (i j : ℕ) (k : List ℕ) → i < pair_room → j < pair_room → (i ≡ j → ⊥) → get_or (pair_put s x j k) (32 + i) 0 ≡ get_or k (32 + i) 0
  second_other i j k h g d =
      ap (λ (y : List ℕ). get_or y (32 + i) 0) (pair_is j k g)
      ∙ get_or-set_other (set k j (pair_no s x j).first) (32 + j) (32 + i) (pair_no s x j).second 0 (λ y. d (omega arith))
      ∙ get_or-set_other k j (32 + i) (pair_no s x j).first 0 (λ y. omega arith)

  pub second_at : (i : ℕ) → i < m → get_or (pairs_put s x m l) (32 + i) 0 ≡ (pair_no s x i).second
  unfolding pairs_put
  second_at i h = cell_at (pair_put s x) (λ j. 32 + j) (λ j. (pair_no s x j).second) pair_room 64 (pair_length s x) second_hit second_other l long m i few h

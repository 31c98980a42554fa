-- The three ways of lending: the sheet is refused, a buffer is too short, each slice stands in its buffer. Assumes nothing.
--     Ways, lending_ways       the ways, and that there is no other
--     refused_kept, refused_small     what is refused has changed nothing; its number and place are small
--     short_whole              15 is of a whole sheet
--     table_back               the fronts of filled buffers lend the table
--     table_fits               their numbers fit the word
use mathlib.Core.Path.{◌≡◌, refl, sym, ap, ◌∙◌, subst}
use mathlib.Core.Logic.{◌⊎◌, inl, inr}
use mathlib.Core.Bool.{Bool, true, false, cond}
use mathlib.Core.List.{List}
use Prim.Native.Nat.{ℕ, ◌*◌, ◌^◌, ◌<◌, ◌≤◌}
use native.Mathlib.Omega.{arith}
use borrow.Author.Tests.{ltb-true}
use lib.Dec.{ltb}
use lib.ListN.{length, drop}
use lib.Seq.{take_at}
use Rattle.basis.specs.Test.{each}
use Rattle.basis.proofs.ListLaws.{each_length}
use Rattle.format.specs.Execution.{Execution}
use Rattle.format.specs.Layout.{head_bytes, row_bytes, pair_bytes}
use Rattle.parse.specs.Parse.{Parsed, refused, whole, parse}
use Rattle.parse.proofs.RefusalLaws.{refusal_number, refusal_low}
use Rattle.encode.specs.Table.{describe, table_of}
use Rattle.encode.specs.Encode.{row_value, pair_value}
use Rattle.encode.specs.Lent.{description_bytes}
use Rattle.encode.specs.Lend.{Slices, eight, slices_of, table_in, five}
use Rattle.encode.proofs.LendLaws.{flat_length, lends}
use Rattle.std.proofs.Common.{Ok, Err}
use Rattle.lend.specs.Lending.{Lent, unlent, given, no_buffer, short_of, filled_by, held_by, lent_by, Lending}
use Rattle.lend.specs.Word.{lent_word}
use Rattle.lend.specs.Demands.{fronts, TableOf, Short, WordOf}
use Rattle.lend.proofs.WordLaws.{few_counts, word_parts}

abbrev counted : Execution → Lent
counted x = given (length x.events) (length (slices_of (table_of x)).bytes) (length x.rows) (length x.pairs)

pub data Ways (s : List ℕ) (entry : Slices) : Lent → Slices → Type 0 where
  unread : {n p : ℕ} → parse s ≡ refused n p → Ways s entry (unlent n p) entry
  short : (x : Execution) → parse s ≡ whole x → short_of (slices_of (table_of x)) entry < no_buffer → Ways s entry (unlent 15 (short_of (slices_of (table_of x)) entry)) entry
  filled : (x : Execution) → parse s ≡ whole x → Ways s entry (counted x) (filled_by (slices_of (table_of x)) entry)

pub lending_ways : (s : List ℕ) (entry exit : Slices) (r : Lent) → Lending s entry r exit → Ways s entry r exit
lending_ways s entry exit r w =
    subst (λ (q : Lent). Ways s entry q exit) (sym w.answer) (subst (λ (b : Slices). Ways s entry (lent_by (parse s) entry) b) (sym w.buffers) (go (parse s) refl))
  where
    by : (x : Execution) → parse s ≡ whole x → (b : Bool) → ltb (short_of (slices_of (table_of x)) entry) no_buffer ≡ b
        → Ways s entry (cond b (unlent 15 (short_of (slices_of (table_of x)) entry)) (counted x)) (cond b entry (filled_by (slices_of (table_of x)) entry))
    by x e true t = Ways.short x e (ltb-true _ _ t)
    by x e false t = Ways.filled x e

    go : (q : Parsed) → parse s ≡ q → Ways s entry (lent_by q entry) (held_by q entry)
    go (refused n p) e = Ways.unread e
    go (whole x) e = by x e (ltb (short_of (slices_of (table_of x)) entry) no_buffer) refl

-- what an answer tells
abbrev number_told : Lent → ℕ
number_told (Ok n) = 0
number_told (Err e) = e.number

abbrev place_told : Lent → ℕ
place_told (Ok n) = 0
place_told (Err e) = e.place

abbrev events_told : Lent → ℕ
events_told (Ok n) = n.events
events_told (Err e) = 0

abbrev bytes_told : Lent → ℕ
bytes_told (Ok n) = n.bytes
bytes_told (Err e) = 0

abbrev rows_told : Lent → ℕ
rows_told (Ok n) = n.rows
rows_told (Err e) = 0

abbrev pairs_told : Lent → ℕ
pairs_told (Ok n) = n.pairs
pairs_told (Err e) = 0

refused_table : {A : Type 0} {n q e d r p : ℕ} → unlent n q ≡ given e d r p → A
refused_table e = let z : ◌≡◌ {A = ℕ} 0 1 = cc in absurd (omega arith)

table_refused : {A : Type 0} {n q e d r p : ℕ} → given e d r p ≡ unlent n q → A
table_refused e = refused_table (sym e)

pub refused_kept : {s : List ℕ} {entry exit : Slices} {r : Lent} {n p : ℕ} → Ways s entry r exit → r ≡ unlent n p → exit ≡ entry
refused_kept (Ways.unread e) q = refl
refused_kept (Ways.short x e h) q = refl
refused_kept (Ways.filled x e) q = table_refused q

-- number and place are small
pub refused_small : {s : List ℕ} {entry exit : Slices} {r : Lent} {m q : ℕ} → Ways s entry r exit → r ≡ unlent m q → (m < 256) × (q < 2 ^ 32)
refused_small {s} {entry} {exit} {r} {m} {q} (Ways.unread {n} {p} e) f =
    let a : n ≡ m = ap number_told f in
    let b : p ≡ q = ap place_told f in
    let l = refusal_low s n p e in (omega arith, omega arith)
refused_small {s} {entry} {exit} {r} {m} {q} (Ways.short x e h) f =
    let a : 15 ≡ m = ap number_told f in
    let b : short_of (slices_of (table_of x)) entry ≡ q = ap place_told f in (omega arith, omega arith)
refused_small (Ways.filled x e) f = table_refused f

pub short_whole : {s : List ℕ} {entry exit : Slices} {r : Lent} {k : ℕ} → Ways s entry r exit → r ≡ unlent 15 k → Short s entry k
short_whole {s} (Ways.unread {n} {p} e) q = go (refusal_number s n p e)
  where
    is : n ≡ 15
    is = ap number_told q

    go : {A : Type 0} → ((1 ≤ n) × (n ≤ 11)) ⊎ (n ≡ 14) → A
    go (inl b) = absurd (let c = b.1 in let f = is in omega arith)
    go (inr b) = absurd (let f = is in omega arith)
short_whole {s} {entry} {exit} {r} {k} (Ways.short x e h) q =
    let z : short_of (slices_of (table_of x)) entry ≡ k = ap place_told q in
    record { execution = x; says = e; names = sym z; one = omega arith }
short_whole (Ways.filled x e) q = table_refused q

-- of a buffer that begins with a slice as much as the slice is long
module _ (x : Execution) (b : Slices) (e d r p : ℕ) (f : e ≡ length x.events) (g : d ≡ length (slices_of (table_of x)).bytes) (j : r ≡ length x.rows) (k : p ≡ length x.pairs) where
  abbrev l : Slices
  l = slices_of (table_of x)

  fronts_filled : fronts (filled_by l b) e d r p ≡ l
  unfolding head_bytes row_bytes table_of
  fronts_filled =
      let a : length l.events ≡ e * description_bytes =
      flat_length eight description_bytes (λ _. refl) (each describe x.events) ∙ ap (λ (n : ℕ). n * description_bytes) (each_length describe x.events ∙ sym f) in
      let c : length l.rows ≡ r * row_bytes x.head.edition =
      flat_length (row_value x.head.edition) (row_bytes x.head.edition) (λ _. refl) x.rows ∙ ap (λ (n : ℕ). n * row_bytes x.head.edition) (sym j) in
      let h : length l.pairs ≡ p * pair_bytes = flat_length pair_value pair_bytes (λ _. refl) x.pairs ∙ ap (λ (n : ℕ). n * pair_bytes) (sym k) in
      λ i. five l.head
      (take_at l.events (drop (length l.events) b.events) (e * description_bytes) a i)
      (take_at l.bytes (drop (length l.bytes) b.bytes) d (sym g) i)
      (take_at l.rows (drop (length l.rows) b.rows) (r * row_bytes x.head.edition) c i)
      (take_at l.pairs (drop (length l.pairs) b.pairs) (p * pair_bytes) h i)

pub table_back : {s : List ℕ} {entry exit : Slices} {q : Lent} {e d r p : ℕ} → Ways s entry q exit → q ≡ given e d r p → TableOf s (fronts exit e d r p)
table_back (Ways.unread w) t = refused_table t
table_back (Ways.short x w h) t = refused_table t
table_back {s} {entry} {exit} {q} {e} {d} {r} {p} (Ways.filled x w) t =
    let z : e ≡ length x.events = sym (ap events_told t) in
    let y : d ≡ length (slices_of (table_of x)).bytes = sym (ap bytes_told t) in
    let v : r ≡ length x.rows = sym (ap rows_told t) in
    let u : p ≡ length x.pairs = sym (ap pairs_told t) in
    record { execution = x; says = w; back = ap table_in (fronts_filled x entry e d r p z y v u) ∙ lends (table_of x) }

pub table_fits : {s : List ℕ} {entry exit : Slices} {q : Lent} {e d r p : ℕ} → Ways s entry q exit → q ≡ given e d r p → WordOf (lent_word (given e d r p)) e d r p
table_fits (Ways.unread w) t = refused_table t
table_fits (Ways.short x w h) t = refused_table t
table_fits {s} {entry} {exit} {q} {e} {d} {r} {p} (Ways.filled x w) t =
    let f = few_counts s x w in
    let z : e ≡ length x.events = sym (ap events_told t) in
    let y : d ≡ length (slices_of (table_of x)).bytes = sym (ap bytes_told t) in
    let v : r ≡ length x.rows = sym (ap rows_told t) in
    let u : p ≡ length x.pairs = sym (ap pairs_told t) in
    word_parts e d r p (rw z f.events) (rw y f.bytes) (rw v f.rows) (rw u f.pairs)

-- The laws of specs/Lending.antt. Assumes nothing.
--     lending_refused     a sheet that the reader refuses
--     lending_short       a whole one, and a buffer too short
--     lending_filled      a whole one, and each slice put where there is room
--     lending_unique      two results agree
use mathlib.Core.Path.{◌≡◌, refl, sym, ap, ◌∙◌}
use mathlib.Core.Bool.{Bool, true, false, cond}
use mathlib.Core.List.{List}
use Prim.Native.Nat.{ℕ, ◌*◌, ◌<◌, ◌≤◌}
use native.Mathlib.Omega.{arith}
use borrow.Author.Tests.{lt-ltb, le-ltb, ltb-false}
use lib.Dec.{ltb}
use lib.ListN.{length}
use Rattle.format.specs.Layout.{head_bytes, row_bytes, pair_bytes}
use Rattle.parse.specs.Parse.{refused, parse}
use Rattle.entries.specs.declared.Counts.{Counts}
use Rattle.entries.specs.Entries.{execution}
use Rattle.entries.proofs.EntriesLaws.{events_count, rows_count, pairs_count}
use Rattle.sheet.specs.Handed.{HandedWhole}
use Rattle.encode.specs.Table.{table_of}
use Rattle.encode.specs.Encode.{head_value}
use Rattle.encode.specs.Lent.{description_bytes}
use Rattle.encode.specs.Lend.{Slices, slices_of, five}
use Rattle.puts.specs.Put.{Puts, overlaid}
use Rattle.puts.proofs.PutLaws.{puts_put, put_front}
use Rattle.slices.specs.Sliced.{events_slice, data_slice, rows_slice, pairs_slice, data_sum}
use Rattle.lend.specs.Lending.{Lent, unlent, given, no_buffer, short_by, short_of, lent_by, held_by, filled_by, Lending}
use Rattle.lend.proofs.WholeLaws.{slices_whole, events_long, data_long, rows_long, pairs_long}

pub lending_unique : {s : List ℕ} {entry exit exit' : Slices} {q r : Lent} → Lending s entry q exit → Lending s entry r exit' → (q ≡ r) × (exit ≡ exit')
lending_unique a b = (a.answer ∙ sym b.answer, a.buffers ∙ sym b.buffers)

pub lending_refused : {s : List ℕ} {n p : ℕ} (entry : Slices) → parse s ≡ refused n p → Lending s entry (unlent n p) entry
lending_refused entry e = record { answer = sym (ap (λ q. lent_by q entry) e); buffers = sym (ap (λ q. held_by q entry) e) }

-- where there is room, what was put is a front
overlaid_put : {piece e f : List ℕ} {n : ℕ} → length piece ≤ length e → Puts piece 0 n e f → f ≡ overlaid piece e
overlaid_put h a = (put_front (puts_put (omega arith) a)).1

table_same : {a b c d a' b' c' d' : ℕ} → a ≡ a' → b ≡ b' → c ≡ c' → d ≡ d' → given a b c d ≡ given a' b' c' d'
table_same p q r t = λ i. given (p i) (q i) (r i) (t i)

five_same : {b : Slices} {h e d r p : List ℕ} → b.head ≡ h → b.events ≡ e → b.bytes ≡ d → b.rows ≡ r → b.pairs ≡ p → b ≡ five h e d r p
five_same a f g j k = λ i. five (a i) (f i) (g i) (j i) (k i)

-- where none is short, each has room
pub record Roomy (l b : Slices) : Type 0 where
  pub head : length l.head ≤ length b.head
  pub events : length l.events ≤ length b.events
  pub bytes : length l.bytes ≤ length b.bytes
  pub rows : length l.rows ≤ length b.rows
  pub pairs : length l.pairs ≤ length b.pairs

-- a test that does not give its small number has failed
passed : (c : Bool) (k m : ℕ) → k < no_buffer → no_buffer ≤ cond c k m → (c ≡ false) × (no_buffer ≤ m)
passed true k m h b = absurd (omega arith)
passed false k m h b = (refl, b)

pub roomy : (l b : Slices) → no_buffer ≤ short_of l b → Roomy l b
unfolding short_by
roomy l b h =
    let p = passed (ltb (length b.head) (length l.head)) 0 _ (omega arith) h in
    let q = passed (ltb (length b.events) (length l.events)) 1 _ (omega arith) p.1 in
    let r = passed (ltb (length b.bytes) (length l.bytes)) 2 _ (omega arith) q.1 in
    let t = passed (ltb (length b.rows) (length l.rows)) 3 _ (omega arith) r.1 in
    let u = passed (ltb (length b.pairs) (length l.pairs)) 4 _ (omega arith) t.1 in
    record { head = ltb-false _ _ p.0; events = ltb-false _ _ q.0; bytes = ltb-false _ _ r.0; rows = ltb-false _ _ t.0; pairs = ltb-false _ _ u.0 }

module _ (s : List ℕ) (x : Counts) (at : List ℕ) (w : HandedWhole s x at) (entry : Slices) where
  abbrev l : Slices
  l = slices_of (table_of (execution s x at))

  abbrev drawn : Slices
  drawn = five (head_value x.head) (events_slice s x at) (data_slice s x at) (rows_slice s x) (pairs_slice s x)

  abbrev Asked : ℕ → Type 0
  Asked k =
      k ≡ short_by (head_bytes x.head.edition) (x.events * description_bytes) (data_sum s x at) (x.rows * row_bytes x.head.edition) (x.pairs * pair_bytes)
      (length entry.head) (length entry.events) (length entry.bytes) (length entry.rows) (length entry.pairs)

  fit : x.events ≤ length at
  fit = let a = w.laid.size in let b = w.laid.few in omega arith

  bytes_long : length l.bytes ≡ data_sum s x at
  bytes_long = ap (λ (m : Slices). length m.bytes) (slices_whole s x at w) ∙ data_long s x at w

  short_drawn : {k : ℕ} → Asked k → k ≡ short_of drawn entry
  unfolding head_bytes
  short_drawn e = e ∙ rw (events_long s x at w, data_long s x at w, rows_long s x at w, pairs_long s x at w) refl

  short_is : {k : ℕ} → Asked k → k ≡ short_of l entry
  short_is e = short_drawn e ∙ ap (λ (m : Slices). short_of m entry) (sym (slices_whole s x at w))

  pub lending_short : {k : ℕ} → Asked k → k < no_buffer → Lending s entry (unlent 15 k) entry
  lending_short {k} e h =
      let t : ltb (short_of l entry) no_buffer ≡ true = ap (λ (m : ℕ). ltb m no_buffer) (sym (short_is e)) ∙ lt-ltb _ _ h in
      record { answer = rw (w.says, t, ← (short_is e)) refl; buffers = simp (w.says, t) }

  module _ {d k : ℕ} (c : d ≡ data_sum s x at) (e : Asked k) (h : no_buffer ≤ k) where
    room : Roomy drawn entry
    room = let q = short_drawn e in roomy drawn entry (omega arith)

    pub lending_filled : {exit : Slices} {a f g i j : ℕ}
        → Puts (head_value x.head) 0 a entry.head exit.head
        → Puts (events_slice s x at) 0 f entry.events exit.events
        → Puts (data_slice s x at) 0 g entry.bytes exit.bytes
        → Puts (rows_slice s x) 0 i entry.rows exit.rows
        → Puts (pairs_slice s x) 0 j entry.pairs exit.pairs
        → Lending s entry (given x.events d x.rows x.pairs) exit
    lending_filled {exit} p q r t u =
        let z : ltb (short_of l entry) no_buffer ≡ false = ap (λ (m : ℕ). ltb m no_buffer) (sym (short_is e)) ∙ le-ltb _ _ h in
        record {
          answer = rw (w.says, z) (table_same (sym (events_count s x.head.edition x.events at fit)) (c ∙ sym bytes_long) (sym (rows_count s x.head.edition x.rows_at x.rows)) (sym (pairs_count s x.pairs_at x.pairs)));
          buffers =
              simp (w.says, z)
              (five_same (overlaid_put room.head p) (overlaid_put room.events q) (overlaid_put room.bytes r) (overlaid_put room.rows t) (overlaid_put room.pairs u)
              ∙ ap (λ (m : Slices). filled_by m entry) (sym (slices_whole s x at w)));
        }

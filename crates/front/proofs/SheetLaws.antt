-- A whole sheet through the tables: what the crates below promise by form is what the model says of the sheet's execution. Each contract counts by
-- `min`; a sheet has no more events, rows and pairs than there are places, so the laws take the contracts as they stand. Assumes nothing.
--     sheet_stored     the tables hold the sheet's execution
--     sheet_held       the tables, filled and closed, hold the sheet's execution and its happens-before
--     sheet_rules      the first broken rule of 21 to 25
--     held_bars        the bars
--     held_row         what one row bars
--     held_settled     orderly, or the lowest unsettled pair
use mathlib.Core.Path.{◌≡◌, ap, ap₂, ◌∙◌, subst}
use mathlib.Core.List.{List, Memᴰ}
use Prim.Native.Nat.{ℕ, ◌+◌, ◌*◌, ◌<◌, ◌≤◌, min}
use native.Mathlib.Omega.{arith}
use lib.ListN.{get_or, replicate}
use Rattle.format.specs.declared.Row.{Row}
use Rattle.format.specs.Execution.{Execution}
use Rattle.entries.specs.declared.Counts.{Counts}
use Rattle.entries.specs.Entries.{execution}
use Rattle.sheet.specs.Handed.{Laid}
use Rattle.parse.specs.Promise.{WellFormed}
use Rattle.entries.proofs.EntriesLaws.{rows_count}
use Rattle.sets.specs.Mask.{slots, mem}
use Rattle.model.specs.Bar.{row_bars, bar}
use Rattle.model.specs.Rules.{fault}
use Rattle.model.specs.Unsettled.{unsettled_pair}
use Rattle.model.specs.Judged.{settled_of}
use Rattle.model.proofs.Sound.{Sound, sound}
use Rattle.model.proofs.HappensLaws.{reader_inside, writer_inside}
use Rattle.tables.specs.Tables.{columns, row_room, row_cells, pair_room}
use Rattle.alike.specs.Ranges.{equals_in}
use Rattle.bars.specs.Bars.{mask_in, filled_in}
use Rattle.bars.proofs.BarsLaws.{mask_mem}
use Rattle.before.specs.Before.{ClosedSteps}
use Rattle.settle.specs.Settle.{settled_in}
use Rattle.lay.specs.Lay.{Layered}
use Rattle.rules.specs.Rules.{rule_in}
use Rattle.front.specs.Tabled.{Slotted, hb_of, found_of, Held}
use Rattle.front.specs.Steps.{Stored}
use Rattle.front.proofs.TabledLaws.{slotted_one, tabled, owned}
use Rattle.front.proofs.LaidLaws.{laid_tabled, laid_agents, laid_rowed, laid_seen, laid_paired, pairs_few}
use Rattle.parse.proofs.CountLaws.{rows_few as eight-each}
use Rattle.front.proofs.BarredLaws.{row_barred, barred}
use Rattle.front.proofs.SettledLaws.{settled}
use Rattle.front.proofs.Steps.{happens_before, rules}

-- what is said of the least of a number and a room is said of the number, where it has room
roomy : (F : ℕ → Type 0) {n room : ℕ} → n ≤ room → F (min n room) → F n
roomy F {n} {room} h f = subst F (let z : min n room ≡ n = omega arith in z) f

-- ---- from the sheet

module _ {s : List ℕ} {x : Counts} {at : List ℕ} (laid : Laid s x at) (well : WellFormed (execution s x at)) {t q p : List ℕ}
    (ly : Layered s x at (replicate columns 0) t (replicate row_cells 0) q (replicate 64 0) p) {succ pred : List ℕ}
    (o : ClosedSteps t (min x.events slots) q (min x.rows row_room) p (min x.pairs pair_room) (replicate slots 0) succ (replicate slots 0) pred) where
  sl : Slotted (execution s x at) t x.events
  sl = slotted_one (execution s x at) t x.events (laid_tabled s x at laid well t q p ly)

  rows_few : x.rows ≤ row_room
  rows_few =
      let c = sl.count in
      let f = sl.few in
      let r = rows_count s x.head.edition x.rows_at x.rows in
      let k = eight-each (execution s x at) well in
      omega arith

  pub sheet_stored : Stored (execution s x at) t x.events q x.rows p x.pairs
  sheet_stored =
      record {
        sound = sound (execution s x at) well;
        slotted = sl;
        agents = laid_agents s x at laid well t q p ly;
        rowed = laid_rowed s x at laid well t q p ly rows_few;
        seen = laid_seen s x at laid well t q p ly rows_few;
        paired = laid_paired s x at laid well t q p ly;
      }

  all_ordered : ClosedSteps t x.events q x.rows p x.pairs (replicate slots 0) succ (replicate slots 0) pred
  all_ordered =
      roomy (λ (n : ℕ). ClosedSteps t n q x.rows p x.pairs (replicate slots 0) succ (replicate slots 0) pred) laid.few
      (roomy (λ (m : ℕ). ClosedSteps t (min x.events slots) q m p x.pairs (replicate slots 0) succ (replicate slots 0) pred) rows_few
      (roomy (λ (k : ℕ). ClosedSteps t (min x.events slots) q (min x.rows row_room) p k (replicate slots 0) succ (replicate slots 0) pred) (pairs_few s x at laid well t q p ly) o))

  pub sheet_held : Held (execution s x at) x.events x.rows t q succ pred
  sheet_held =
      let w = happens_before (execution s x at) t x.events q x.rows p x.pairs sheet_stored succ pred all_ordered in
      record {
        tabled = tabled (execution s x at) t x.events sl;
        owned = owned (execution s x at) t x.events sl;
        rows_few = rows_few;
        rowed = sheet_stored.rowed;
        tests = w.0;
        turned = w.1;
      }

  pub sheet_rules : found_of (rule_in t (min x.events slots) succ pred q (min x.rows row_room)) ≡ fault (execution s x at) (hb_of succ)
  sheet_rules =
      let a : min x.events slots ≡ x.events = let f = laid.few in omega arith in
      let b : min x.rows row_room ≡ x.rows = let f = rows_few in omega arith in
      rw (a, b) (rules (execution s x at) t x.events q x.rows p x.pairs sheet_stored succ pred all_ordered)

-- ---- from what the tables hold

module _ {x : Execution} {n m : ℕ} {t q succ pred : List ℕ} (h : Held x n m t q succ pred) where
  pub held_bars : Sound x → {bars : List ℕ} → bars ≡ filled_in t (min n slots) succ pred q (min m row_room) (replicate (slots * slots) 0)
      → (r w v : ℕ) → w < slots → v < slots → mem (get_or bars (v * slots + w) 0) r ≡ bar x (hb_of succ) r w v
  held_bars so {bars} f r w v hw hv =
      let a : min n slots ≡ n = let k = h.tabled.few in omega arith in
      let b : min m row_room ≡ m = let k = h.rows_few in omega arith in
      ap (λ (l : List ℕ). mem (get_or l (v * slots + w) 0) r) (f ∙ ap₂ (λ (i j : ℕ). filled_in t i succ pred q j (replicate (slots * slots) 0)) a b)
      ∙ barred x t n h.tabled succ pred q m so h.rowed h.turned r w v hw hv

  pub held_row : Sound x → (r : Row) → Memᴰ r x.rows → (v : ℕ) → v < slots → mem (mask_in t (equals_in t n) succ pred r) v ≡ row_bars x (hb_of succ) r v
  held_row so r i v hv =
      let c = h.tabled.count in
      let f = h.tabled.few in
      let dr = reader_inside x so r i in
      let dw = writer_inside x so r i in
      mask_mem t succ pred n f r v (omega arith) (omega arith) ∙ row_barred x t n h.tabled succ pred so h.turned r i v hv

  pub held_settled : settled_in t succ (min n slots) ≡ settled_of (unsettled_pair x (hb_of succ))
  held_settled =
      let a : min n slots ≡ n = let f = h.tabled.few in omega arith in
      ap (λ (i : ℕ). settled_in t succ i) a ∙ settled x t n h.tabled h.owned succ

-- The table of what each event waits for, and bars pressed (specs/Forced.antt). Laws: proofs/ForcedLaws.antt, PressLaws.antt. Assumes nothing.
--     Led k m before f         f is `before`, from k on, and nothing below
--     Waited m v f r           r tells truly that a member of m waits for v
--     Cyclic k m f r           r tells truly that an event waits for itself
--     Named m writers          the writers of the first m events are among them
--     AtOne r w v bars         the table has the bar (r, w, v)
--     AtEach m r w b bars      it has the bars (r, w, v), for each v of b below m
--     Presses k m A f f'       of each table that is A: what was forced in f is forced in f'
use Rattle.std.specs.Prelude.{◌≡◌, ℕ, ◌<◌, ◌≤◌, Bool, true, List, length, slice_index}
use Rattle.sets.specs.Mask.{slots, Has}
use Rattle.gather.specs.Writers.{bar_at}
use Rattle.orders.specs.Tables.{tabled}
use Rattle.force.specs.Forced.{Forced}

pub record Led (k m : ℕ) (before f : List ℕ) : Type 0 where
  pub size : length f ≡ slots
  pub same : (e : ℕ) → k ≤ e → e < m → slice_index f e ≡ slice_index before e
  pub blank : (e : ℕ) → e < k → slice_index f e ≡ 0

pub record Waited (m v : ℕ) (f : List ℕ) (r : Bool) : Type 0 where
  pub some : r ≡ true → (e : ℕ) × Has m e × Has (slice_index f e) v

pub record Cyclic (k m : ℕ) (f : List ℕ) (r : Bool) : Type 0 where
  pub some : r ≡ true → (v : ℕ) × (k ≤ v) × (v < m) × Has (slice_index f v) v

abbrev pub Named : ℕ → List ℕ → Type 0
Named m writers = (v : ℕ) → v < m → (w : ℕ) → Has (slice_index writers v) w → w < m

abbrev pub AtOne : ℕ → ℕ → ℕ → List ℕ → Type 0
AtOne r w v bars = Has (bar_at bars v w) r

abbrev pub AtEach : ℕ → ℕ → ℕ → ℕ → List ℕ → Type 0
AtEach m r w b bars = (v : ℕ) → v < m → Has b v → Has (bar_at bars v w) r

pub record Presses (k m : ℕ) (A : List ℕ → Type 0) (f f' : List ℕ) : Type 0 where
  pub size : length f' ≡ slots
  pub still : (before bars : List ℕ) → A bars → Forced (tabled m before bars) k before f → Forced (tabled m before bars) k before f'

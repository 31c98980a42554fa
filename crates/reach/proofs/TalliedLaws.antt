-- The laws of the answers of specs/Reachable.antt. Assumes nothing.
--     tallied_unique    two conforming answers are equal, the scratch too
--     tallied           how the code's answer is made
use Prim.Native.Nat.{ℕ, ◌-◌}
use mathlib.Core.Path.{◌≡◌, sym, ◌∙◌}
use mathlib.Core.List.{List}
use lib.ListN.{length}
use Rattle.sets.specs.Mask.{full}
use Rattle.marks.specs.Table.{bytes_for, cleared}
use Rattle.orders.specs.Tables.{tabled}
use Rattle.orders.specs.Answer.{Fits}
use Rattle.orders.proofs.AnswerLaws.{fits_or, clean_again}
use Rattle.std.specs.Prelude.{Option}
use Rattle.reach.specs.Reachable.{Tallied}
use Rattle.reach.specs.Counting.{Counting}
use Rattle.reach.proofs.ReachableLaws.{count_unique}

pub tallied_unique : {k m : ℕ} {before bars scratch : List ℕ} {limit : ℕ} (r q : Option ℕ) {s t : List ℕ}
    → Tallied k m before bars scratch limit r s → Tallied k m before bars scratch limit q t → (r ≡ q) × (s ≡ t)
tallied_unique {k} {m} {before} {bars} {scratch} {limit} r q {s} {t} a b = go (fits_or k m (length scratch))
  where
    go : Dec (Fits k m (length scratch)) → (r ≡ q) × (s ≡ t)
    go (yes f) = let x = a.fit f in let y = b.fit f in (count_unique (tabled m before bars) (full k) limit r q x.0 y.0, x.1 ∙ sym y.1)
    go (no f) = let x = a.unfit f in let y = b.unfit f in (x.0 ∙ sym y.0, x.1 ∙ sym y.1)

pub tallied : (k m : ℕ) (before bars scratch : List ℕ) (limit need : ℕ) {t u v : List ℕ} {r : Option ℕ} → Fits k m (length scratch)
    → need ≡ bytes_for (m - k) → t ≡ cleared need scratch → Counting (tabled m before bars) k t limit r u → v ≡ cleared need u
    → Tallied k m before bars scratch limit r v
tallied k m before bars scratch limit need {t} {u} {v} f e c w d =
    record { fit = λ g. (w.count, clean_again (m - k) need scratch t u v f.scratch e c w.size w.rest d); unfit = λ g. absurd (g f) }

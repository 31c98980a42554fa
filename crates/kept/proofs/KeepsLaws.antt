-- The laws of specs/Keeps.antt. Assumes nothing.
--     clean_again                                      a cleared scratch fits as before, and clearing it again changes nothing
--     keeps_unfit keeps_order keeps_small keeps_bars   how the code's answers are made
--     keeps_unique                                     two conforming answers are equal, buffers too
use Prim.Native.Nat.{ℕ, ◌-◌, ◌*◌, ◌<◌, ◌≤◌}
use mathlib.Core.Path.{◌≡◌, refl, sym, ap, ap₂, subst, ◌∙◌}
use mathlib.Core.Bool.{Bool, true, false}
use mathlib.Core.List.{List, [], ◌++◌}
use native.Mathlib.Omega.{arith}
use lib.ListN.{length, drop}
use Rattle.basis.specs.Test.{each}
use Rattle.basis.proofs.ListLaws.{each_length}
use Rattle.marks.specs.Table.{bytes_for, cleared}
use Rattle.marks.proofs.TableLaws.{cleared_again, length_cleared}
use Rattle.orders.specs.Posed.{Triple}
use Rattle.orders.specs.Answer.{Fits, Told}
use Rattle.orders.proofs.AnswerLaws.{fits_or}
use Rattle.kept.specs.declared.Finding.{Finding}
use Rattle.kept.specs.declared.Finding.TheVariants.{Order, Bars, Small, Unfit}
use Rattle.kept.specs.Bars.{table_bars, bytes_of, Placeable}
use Rattle.kept.specs.Kept.{Walk, KeptOf}
use Rattle.kept.specs.Keeps.{KeptList, KeptBeyond, Finds, Keeps}
use Rattle.kept.specs.steps.Numbers.{triple_of, bar_numbers}
use Rattle.kept.specs.steps.Thin.{Wide, Thinned}
use Rattle.kept.proofs.KeptLaws.{walk_each, walk_unique}
use Rattle.kept.proofs.BarsLaws.{numbered, leaves_table, table_leaves}

-- ---- how the code's answers are made

pub record Clean (k m : ℕ) (scratch : List ℕ) : Type 0 where
  pub fits : Fits k m (length scratch)
  pub again : scratch ≡ cleared (bytes_for (m - k)) scratch

pub clean_again : {k m : ℕ} (scratch : List ℕ) {t : List ℕ} → Fits k m (length scratch) → t ≡ cleared (bytes_for (m - k)) scratch → Clean k m t
clean_again {k} {m} scratch {t} f e =
    let n = length_cleared (bytes_for (m - k)) scratch f.scratch in
    let s : length t ≡ length scratch = ap length e ∙ n in
    record {
      fits = rw s f;
      again = e ∙ sym (cleared_again (bytes_for (m - k)) scratch t f.scratch s (ap (drop (bytes_for (m - k))) e));
    }

-- the walk by numbers, by triples
by_triples : (k m : ℕ) (before bars left : List ℕ) → Thinned k m before bars left
    → Walk (Placeable m before k) [] (each triple_of (bar_numbers m bars)) (each triple_of (bar_numbers m left))
unfolding each
by_triples k m before bars left w = walk_each triple_of {L = Placeable m before k} w

module _ {k m : ℕ} {before bars scratch out : List ℕ} where
  pub keeps_unfit : (Fits k m (length scratch) → ⊥) → Keeps k m before bars scratch out Unfit scratch out
  keeps_unfit n = record { fit = λ f. absurd (n f); unfit = λ g. (refl, refl, refl) }

  pub keeps_order : Fits k m (length scratch) → {r : Bool} {s : List ℕ} → Told k m before bars scratch r s → r ≡ true → Keeps k m before bars scratch out Order s out
  keeps_order f told z =
      let p = told.fit f in
      let w = p.some z in
      record {
        fit = λ g. ((subst (Placeable m before k) (numbered m bars) (table_leaves m before bars k w.0 w.1), refl), p.clean);
        unfit = λ g. absurd (g f);
      }

-- all bars left no order, and a copy of the table was thinned
module _ {k m : ℕ} {before bars scratch : List ℕ} (f : Fits k m (length scratch)) {r : Bool} {s : List ℕ} (told : Told k m before bars scratch r s) (z : r ≡ false)
    {bars₀ : List ℕ} (copy : bars₀ ≡ bars) (wide : Wide bars₀) (left : List ℕ) (thin : Thinned k m before bars₀ left) where
  kept_of_lem : KeptOf (Placeable m before k) (table_bars m bars) (each triple_of (bar_numbers m left))
  kept_of_lem =
      record {
        broken = λ l.
            let x = leaves_table m before bars k f.events (rw copy at wide) (subst (Placeable m before k) (sym (numbered m bars)) l) in
            (told.fit f).none z x.0 x.1;
        walk = subst (λ (x : List Triple). Walk (Placeable m before k) [] x (each triple_of (bar_numbers m left)))
            (ap (λ (y : List ℕ). each triple_of (bar_numbers m y)) copy ∙ numbered m bars) (by_triples k m before bars₀ left thin);
      }

  module _ {t : List ℕ} (same : t ≡ s) {n : ℕ} (count : n ≡ length (bar_numbers m left)) {out : List ℕ} where
    pub keeps_small : length out < n * 3 → Keeps k m before bars scratch out Small t out
    keeps_small l =
        record {
          fit = λ g. (record { list = each triple_of (bar_numbers m left); kept = kept_of_lem; over = rw (each_length triple_of (bar_numbers m left) ∙ sym count) l; same = refl }, same ∙ (told.fit f).clean);
          unfit = λ g. absurd (g f);
        }

    pub keeps_bars : n * 3 ≤ length out → {o : List ℕ} → o ≡ bytes_of (each triple_of (bar_numbers m left)) ++ drop (length (bar_numbers m left) * 3) out
        → Keeps k m before bars scratch out (Bars n) t o
    keeps_bars l e =
        record {
          fit = λ g. (
            record {
              list = each triple_of (bar_numbers m left);
              kept = kept_of_lem;
              count = each_length triple_of (bar_numbers m left) ∙ sym count;
              room = l;
              written = e ∙ ap (λ (x : ℕ). bytes_of (each triple_of (bar_numbers m left)) ++ drop (x * 3) out) (sym count);
            },
            same ∙ (told.fit f).clean,
          );
          unfit = λ g. absurd (g f);
        }

-- ---- two answers to one question are equal

module _ (L : List Triple → Type 0) (bars : List Triple) (out : List ℕ) where
  one_list : {k l : List Triple} → KeptOf L bars k → KeptOf L bars l → k ≡ l
  one_list a b = walk_unique a.walk b.walk

  never_both : {n : ℕ} {o p : List ℕ} → KeptList L bars out n o → KeptBeyond L bars out p → ⊥
  never_both a b = let e = ap length (one_list a.kept b.kept) in let x = a.count in let y = a.room in let z = b.over in omega arith

  finds_unique : (r q : Finding) {o p : List ℕ} → Finds L bars out r o → Finds L bars out q p → (r ≡ q) × (o ≡ p)
  finds_unique Order Order a b = (refl, a.1 ∙ sym b.1)
  finds_unique Order (Bars n) a b = absurd (b.kept.broken a.0)
  finds_unique Order Small a b = absurd (b.kept.broken a.0)
  finds_unique (Bars n) Order a b = absurd (a.kept.broken b.0)
  finds_unique (Bars n) (Bars i) a b =
      let e = one_list a.kept b.kept in
      let c : n ≡ i = sym a.count ∙ ap length e ∙ b.count in
      (ap Bars c, a.written ∙ ap₂ (λ (x : List Triple) (y : ℕ). bytes_of x ++ drop (y * 3) out) e c ∙ sym b.written)
  finds_unique (Bars n) Small a b = absurd (never_both a b)
  finds_unique Small Order a b = absurd (a.kept.broken b.0)
  finds_unique Small (Bars n) a b = absurd (never_both b a)
  finds_unique Small Small a b = (refl, a.same ∙ sym b.same)
  finds_unique Unfit q a b = absurd a
  finds_unique Order Unfit a b = absurd b
  finds_unique (Bars n) Unfit a b = absurd b
  finds_unique Small Unfit a b = absurd b

pub keeps_unique : {k m : ℕ} {before bars scratch out : List ℕ} (r q : Finding) {s t o p : List ℕ} → Keeps k m before bars scratch out r s o
    → Keeps k m before bars scratch out q t p → (r ≡ q) × (s ≡ t) × (o ≡ p)
keeps_unique {k} {m} {before} {bars} {scratch} {out} r q {s} {t} {o} {p} a b = go (fits_or k m (length scratch))
  where
    go : Dec (Fits k m (length scratch)) → (r ≡ q) × (s ≡ t) × (o ≡ p)
    go (yes f) = let x = a.fit f in let y = b.fit f in let u = finds_unique (Placeable m before k) (table_bars m bars) out r q x.0 y.0 in (u.0, x.1 ∙ sym y.1, u.1)
    go (no f) = let x = a.unfit f in let y = b.unfit f in (x.0 ∙ sym y.0, x.1 ∙ sym y.1, x.2 ∙ sym y.2)

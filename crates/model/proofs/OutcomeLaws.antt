-- The answer that proofs/Outcome.antt computes is the one that specs/Judged.antt asks for, for all bytes and all buffers. Assumes nothing.
--     outcome_judged     it is Judged, with the scratch's needed part cleared and the order in front of the order buffer's rest
use mathlib.Core.Path.{◌≡◌, refl, sym, ◌∙◌, ap, subst}
use mathlib.Core.Logic.{inl, inr}
use mathlib.Core.Bool.{Bool}
use mathlib.Core.List.{List, ◌++◌}
use mathlib.Core.Option.{Option, none, some}
use Prim.Native.Nat.{ℕ}
use native.Mathlib.Omega.{arith}
use lib.ListN.{length, take, drop}
use lib.Seq.{take-append_seam, drop-append_seam}
use Rattle.format.specs.Execution.{Execution}
use Rattle.parse.specs.Parse.{Parsed, refused, whole, parse}
use Rattle.marks.specs.Table.{cleared}
use Rattle.marks.proofs.TableLaws.{cleared_min}
use Rattle.orders.specs.Order.{Meets}
use Rattle.orders.specs.First.{FirstOf}
use Rattle.model.specs.Happens.{Tests}
use Rattle.model.specs.Rules.{Fault, fault}
use Rattle.model.specs.Order.{problem}
use Rattle.model.specs.Unsettled.{unsettled_pair}
use Rattle.model.specs.Judged.{needed, admitted, Judged}
use Rattle.model.proofs.Sound.{Sound}
use Rattle.model.proofs.OrderLaws.{meets_length}
use Rattle.model.proofs.JudgedLaws.{admitted_whole}
use Rattle.model.proofs.Outcome.{look, hb_table, first_order, Outcome, verdict, outcome_of, outcome}
use Rattle.model.proofs.ClosureLaws.{table_tests}
use Rattle.model.proofs.SearchLaws.{Found, first_order_lem}

pub cleared_none : (t : List ℕ) → cleared 0 t ≡ t
cleared_none t = sym (cleared_min 0 0 t (omega arith))

-- what an outcome says of a sheet and both buffers
abbrev pub Says : List ℕ → List ℕ → List ℕ → Outcome → Type 0
Says s scratch order o = Judged s scratch order o.answer (cleared o.used scratch) (o.order ++ drop (length o.order) order)

module _ (sound : (s : List ℕ) (x : Execution) → parse s ≡ whole x → Sound x) (s scratch order : List ℕ) where
  module _ (x : Execution) (e : admitted s (length scratch) (length order) ≡ whole x) (so : Sound x) (hb : ℕ → ℕ → Bool) (tests : Tests x hb) where
    judged : (f : Option Fault) → fault x hb ≡ f → (o : Option (List ℕ)) → Found x hb so tests o → Says s scratch order (verdict (needed x) f o (unsettled_pair x hb))
    unfolding verdict
    judged (some f) q o found =
        record { execution = x; describes = e; hb = hb; tests = tests; breaks = inl q; scratch_cleared = refl; order_kept = refl }
    judged none q none found =
        record {
          execution = x;
          describes = e;
          hb = hb;
          tests = tests;
          breaks = inr (record { names = refl; unbroken = q; no_order = found });
          scratch_cleared = refl;
          order_kept = refl;
        }
    judged none q (some o) found =
        let n : length o ≡ length x.events = meets_length x hb so tests o found.is in
        record {
          execution = x;
          describes = e;
          hb = hb;
          tests = tests;
          unbroken = q;
          first = subst (λ (l : List ℕ). FirstOf (Meets (problem x hb)) l) (sym (ap (λ (i : ℕ). take i (o ++ drop (length o) order)) (sym n) ∙ take-append_seam o (drop (length o) order))) found;
          pair = refl;
          scratch_cleared = refl;
          order_rest = ap (λ (i : ℕ). drop i (o ++ drop (length o) order)) (sym n) ∙ drop-append_seam o (drop (length o) order) ∙ ap (λ (i : ℕ). drop i order) n;
        }

  of_parsed : (p : Parsed) → admitted s (length scratch) (length order) ≡ p → Says s scratch order (outcome_of p)
  unfolding outcome_of
  of_parsed (refused n m) e = record { says = e; scratch_kept = cleared_none scratch; order_kept = refl }
  of_parsed (whole x) e =
      let so = sound s x (admitted_whole s (length scratch) (length order) x e).describes in
      judged x e so (look (hb_table x)) (table_tests x so) (fault x (look (hb_table x))) refl (first_order x (look (hb_table x))) (first_order_lem x (look (hb_table x)) so (table_tests x so))

  pub outcome_judged : Says s scratch order (outcome s (length scratch) (length order))
  unfolding outcome
  outcome_judged = of_parsed (admitted s (length scratch) (length order)) refl

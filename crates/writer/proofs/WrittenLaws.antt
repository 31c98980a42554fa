-- The laws of specs/Written.antt.
--     wrote_refused, wrote_short, wrote_whole, wrote_long     the writer's answers, by the reader's
--     wrote_same                    of a sheet that is another
--     composed_long, composed_whole what was composed in a byte more than the longest sheet
-- Assumes nothing.
use mathlib.Core.Path.{◌≡◌, refl, ap, ◌∙◌, subst}
use mathlib.Core.Bool.{Bool, true, false}
use mathlib.Core.List.{List}
use Prim.Native.Nat.{ℕ, ◌+◌, ◌<◌, ◌≤◌}
use native.Mathlib.Omega.{arith}
use borrow.Author.Tests.{lt-ltb, le-ltb, leb-true, leb-false}
use lib.Dec.{leb}
use lib.ListN.{length, take}
use Rattle.basis.specs.Test.{◌or◌}
use Rattle.format.specs.Limits.{max_bytes}
use Rattle.format.specs.Execution.{Execution}
use Rattle.parse.specs.Parse.{refused, whole, parse}
use Rattle.parse.proofs.ParseLaws.{too_long}
use Rattle.puts.specs.Put.{Puts}
use Rattle.puts.proofs.PutLaws.{puts_put, puts_most, puts_full, put_front}
use Rattle.encode.specs.Index.{no_entry, index_of}
use Rattle.writer.specs.Written.{Written, unwritten}
use Rattle.std.proofs.Common.{Ok}
use Rattle.writer.specs.Written.{told, Wrote}

module _ (s entry : List ℕ) where
  pub wrote_refused : (n p i : ℕ) → parse s ≡ refused n p → i ≡ index_of s n p → Wrote s entry (unwritten n i) entry
  unfolding told
  wrote_refused n p i e f = record { answer = rw e (ap (unwritten n) f); buffer = refl }

  pub wrote_short : (x : Execution) → parse s ≡ whole x → length entry < length s → Wrote s entry (unwritten 15 0) entry
  unfolding told
  wrote_short x e h = record { answer = rw (e, lt-ltb (length entry) (length s) h) refl; buffer = refl }

  -- the sheet is put at the buffer's front
  pub wrote_whole : (x : Execution) (n : ℕ) (exit : List ℕ) → parse s ≡ whole x → length s ≤ length entry → Puts s 0 n entry exit → Wrote s entry (Ok n) exit
  unfolding told
  wrote_whole x n exit e h p =
      let w = put_front (puts_put (omega arith) p) in
      record {
        answer = ap Ok w.0 ∙ rw (e, le-ltb (length entry) (length s) h) refl;
        buffer = w.1;
      }

  pub wrote_long : max_bytes < length s → Wrote s entry (unwritten 1 0) entry
  unfolding index_of no_entry ◌or◌
  wrote_long h = wrote_refused 1 0 0 (too_long s h) refl

pub wrote_same : {s t entry exit : List ℕ} {r : Written} → s ≡ t → Wrote s entry r exit → Wrote t entry r exit
wrote_same {s} {t} {entry} {exit} {r} e w = subst (λ (u : List ℕ). Wrote u entry r exit) e w

-- a sheet put into a byte more than the longest sheet has: it is too long, or all of it is there
module _ {s e f : List ℕ} {n : ℕ} (p : Puts s 0 n e f) (room : length e ≡ max_bytes + 1) where
  pub composed_long : max_bytes < n → max_bytes < length s
  composed_long h = let m = puts_most p in omega arith

  pub composed_whole : n ≤ max_bytes → take n f ≡ s
  composed_whole h = go (leb (length s) max_bytes) refl
    where
      go : (b : Bool) → leb (length s) max_bytes ≡ b → take n f ≡ s
      go true q = let l = leb-true (length s) max_bytes q in (puts_put (omega arith) p).written
      go false q = let l = leb-false (length s) max_bytes q in let m = puts_full p (omega arith) (omega arith) in absurd (omega arith)

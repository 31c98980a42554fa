-- The laws of specs/Sliced.antt: of no entry, of one more, of all that were counted. Assumes nothing.
--     flat_none, flat_more, flat_all     over the first places
--     sum_none, sum_more, sum_all        the same of a sum
--     data_few                           an event has no more data than twice a byte
--     rows_none, rows_more, pairs_none, pairs_more     over rows and pairs
use mathlib.Core.Path.{◌≡◌, refl, ap, ◌∙◌}
use mathlib.Core.Bool.{Bool, true, false, cond}
use mathlib.Core.List.{List, [], ◌∷◌, ◌++◌}
use Prim.Native.Nat.{ℕ, ◌+◌, ◌*◌, ◌<◌, ◌≤◌, min}
use native.Mathlib.Omega.{arith}
use native.Mathlib.Numerals.{add-one}
use lib.Dec.{eqb}
use lib.ListN.{length, get_or, take}
use lib.Seq.{take-suc}
use Rattle.std.proofs.lemmas.List.{take_all}
use Rattle.basis.proofs.ListLaws.{take_capped}
use Rattle.format.specs.declared.Shape.{Shape}
use Rattle.format.specs.Layout.{data_bytes, row_gap, pair_gap}
use Rattle.entries.specs.Entries.{spaced, row_at, pair_at, rows_on, pairs_on}
use Rattle.entries.proofs.EntriesLaws.{spaced_more}
use Rattle.encode.specs.Encode.{row_value, pair_value}
use Rattle.encode.specs.Lend.{flat}
use Rattle.encode.proofs.LendLaws.{flat_snoc}
use Rattle.slices.specs.Sliced.{sum}

pub flat_none : {A : Type 0} (f : A → List ℕ) → ◌≡◌ {A = List ℕ} [] (flat f [])
unfolding flat
flat_none f = refl

module _ (f : ℕ → List ℕ) (at : List ℕ) where
  pub flat_more : (e : ℕ) → e < length at → flat f (take (e + 1) at) ≡ flat f (take e at) ++ f (get_or at e 0)
  flat_more e h = ap (flat f) (rw add-one (take-suc at e 0 h)) ∙ flat_snoc f (take e at) (get_or at e 0)

  pub flat_end : (e : ℕ) → length at ≤ e → flat f (take e at) ≡ flat f at
  flat_end e h = ap (flat f) (take_all e at h)

  pub flat_all : (m n : ℕ) → n ≡ min m (length at) → flat f (take n at) ≡ flat f (take m at)
  flat_all m n c = ap (flat f) (take_capped m n at c)

module _ (f : ℕ → ℕ) where
  sum_snoc : (l : List ℕ) (a : ℕ) → sum f (l ++ (a ∷ [])) ≡ sum f l + f a
  unfolding sum
  sum_snoc [] a = omega arith
  sum_snoc (b ∷ l) a = let q = sum_snoc l a in omega arith

  pub sum_none : sum f [] ≡ 0
  unfolding sum
  sum_none = refl

  module _ (at : List ℕ) where
    pub sum_more : (e : ℕ) → e < length at → sum f (take (e + 1) at) ≡ sum f (take e at) + f (get_or at e 0)
    sum_more e h = ap (sum f) (rw add-one (take-suc at e 0 h)) ∙ sum_snoc (take e at) (get_or at e 0)

    pub sum_end : (e : ℕ) → length at ≤ e → sum f (take e at) ≡ sum f at
    sum_end e h = ap (sum f) (take_all e at h)

    pub sum_all : (m n : ℕ) → n ≡ min m (length at) → sum f (take n at) ≡ sum f (take m at)
    sum_all m n c = ap (sum f) (take_capped m n at c)

-- twice a byte, at most
pub data_few : (a : Shape) → a.width ≤ 255 → data_bytes a ≤ 510
unfolding data_bytes
data_few a h = go (eqb a.kind 3)
  where
    go : (b : Bool) → cond b (a.width + a.width) a.width ≤ 510
    go true = omega arith
    go false = omega arith

module _ (s : List ℕ) (edition p : ℕ) where
  pub rows_none : ◌≡◌ {A = List ℕ} [] (flat (row_value edition) (rows_on s edition p 0))
  unfolding flat rows_on spaced
  rows_none = refl

  pub rows_more : (j : ℕ) → flat (row_value edition) (rows_on s edition p (j + 1)) ≡ flat (row_value edition) (rows_on s edition p j) ++ row_value edition (row_at s edition (p + j * row_gap edition))
  unfolding rows_on
  rows_more j = ap (flat (row_value edition)) (spaced_more (row_at s edition) (row_gap edition) p j (p + j * row_gap edition) refl) ∙ flat_snoc (row_value edition) (rows_on s edition p j) (row_at s edition (p + j * row_gap edition))

module _ (s : List ℕ) (p : ℕ) where
  pub pairs_none : ◌≡◌ {A = List ℕ} [] (flat pair_value (pairs_on s p 0))
  unfolding flat pairs_on spaced
  pairs_none = refl

  pub pairs_more : (j : ℕ) → flat pair_value (pairs_on s p (j + 1)) ≡ flat pair_value (pairs_on s p j) ++ pair_value (pair_at s (p + j * pair_gap))
  unfolding pairs_on
  pairs_more j = ap (flat pair_value) (spaced_more (pair_at s) pair_gap p j (p + j * pair_gap) refl) ∙ flat_snoc pair_value (pairs_on s p j) (pair_at s (p + j * pair_gap))

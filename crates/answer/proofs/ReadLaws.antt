-- The laws of specs/Read.antt: what is read from a word is the answer that it was made of. Assumes nothing.
--     names_in_lem, pair_in_lem     names and pairs, from their four places
--     bytes_in, four_in_lem     the four bytes of a word, its four names
--     kind_in_lem, number_in_lem, place_in_lem     the parts of a word
--     answer_in_lem             answer_in (packed x) ≡ x, where no name is 255
--     packed_unique         so two answers with one word are one answer
use mathlib.Core.Path.{◌≡◌, refl, sym, ap, ◌∙◌}
use Prim.Native.Nat.{ℕ, ◌*◌, ◌+◌, ◌^◌, ◌<◌}
use native.Mathlib.Omega.{arith}
use borrow.Author.Tests.{ne_eqb}
use Rattle.std.proofs.Common.{Option, Some, None}
use Rattle.answer.specs.declared.Four.{Four}
use Rattle.answer.specs.declared.Names.{Names}
use Rattle.answer.specs.declared.Names.TheVariants.{Row, Event, Between, Torn, Nobody}
use Rattle.answer.specs.declared.Settled.{Settled}
use Rattle.answer.specs.declared.Settled.TheVariants.{Orderly, Unsettled}
use Rattle.answer.specs.declared.Answer.{Answer}
use Rattle.answer.specs.declared.Answer.TheVariants.{Refused, Broken, Consistent}
use Rattle.answer.specs.Number.{settled_number}
use Rattle.answer.specs.NameOf.{names_of, pair_of}
use Rattle.answer.specs.Word.{byte_of, four_bytes, word, packed}
use Rattle.answer.specs.Fit.{Below, FourBelow, Fits}
use Rattle.answer.specs.Read.{kind_in, number_in, place_in, byte_in, name_of, four_in, names_in, pair_named, answer_in}
use Rattle.answer.proofs.WordLaws.{byte_below, four_more, four_below, four_same, settled_below}

abbrev pub names_in_four : Four → Names
names_in_four f = names_in f.0 f.1 f.2 f.3

pub names_in_lem : (n : Names) → names_in_four (names_of n) ≡ n
names_in_lem (Row r w a) = refl
names_in_lem (Event e) = refl
names_in_lem (Between r w v a) = refl
names_in_lem (Torn r w v) = refl
names_in_lem Nobody = refl

pub pair_in_lem : (s : Settled) → pair_named (pair_of s).0 (pair_of s).1 ≡ s
pair_in_lem Orderly = refl
pair_in_lem (Unsettled e d) = refl

-- ---- names

name_back : (n : Option ℕ) → Below 255 n → name_of (byte_of n) ≡ n
unfolding name_of
name_back (Some k) h = rw (ne_eqb k 255 (λ e. omega arith)) refl
name_back None h = refl

-- the bytes of a word, by numbers alone
pub bytes_in : (k n a b c d : ℕ) → a < 256 → b < 256 → c < 256 → d < 256
    → (byte_in (word k n (a * 2 ^ 24 + b * 2 ^ 16 + c * 2 ^ 8 + d)) 0 ≡ a) × (byte_in (word k n (a * 2 ^ 24 + b * 2 ^ 16 + c * 2 ^ 8 + d)) 1 ≡ b)
    × (byte_in (word k n (a * 2 ^ 24 + b * 2 ^ 16 + c * 2 ^ 8 + d)) 2 ≡ c) × (byte_in (word k n (a * 2 ^ 24 + b * 2 ^ 16 + c * 2 ^ 8 + d)) 3 ≡ d)
bytes_in k n a b c d p q r s = (omega arith, omega arith, omega arith, omega arith)

pub four_in_lem : (k n : ℕ) (f : Four) → FourBelow 255 f → four_in (word k n (four_bytes f)) ≡ f
four_in_lem k n f h =
    let m = four_more f h in
    let w = bytes_in k n (byte_of f.0) (byte_of f.1) (byte_of f.2) (byte_of f.3)
    (byte_below f.0 m.first) (byte_below f.1 m.second) (byte_below f.2 m.third) (byte_below f.3 m.fourth) in
    four_same
    (ap name_of w.0 ∙ name_back f.0 h.first) (ap name_of w.1 ∙ name_back f.1 h.second)
    (ap name_of w.2 ∙ name_back f.2 h.third) (ap name_of w.3 ∙ name_back f.3 h.fourth)

-- ---- the answer

module _ (k n r : ℕ) (small : k < 256) (a : n < 256) (b : r < 2 ^ 32) where
  pub kind_in_lem : kind_in (word k n r) ≡ k
  kind_in_lem = omega arith

  pub number_in_lem : number_in (word k n r) ≡ n
  number_in_lem = omega arith

  pub place_in_lem : place_in (word k n r) ≡ r
  place_in_lem = omega arith

pub answer_in_lem : (x : Answer) → Fits 255 x → answer_in (packed x) ≡ x
unfolding answer_in
answer_in_lem (Refused n p) h = rw (kind_in_lem 1 n p (omega arith) h.0 h.1, number_in_lem 1 n p (omega arith) h.0 h.1, place_in_lem 1 n p (omega arith) h.0 h.1) refl
answer_in_lem (Broken n names) h =
    let r = four_below (names_of names) (four_more (names_of names) h.1) in
    rw (kind_in_lem 2 n (four_bytes (names_of names)) (omega arith) h.0 r, number_in_lem 2 n (four_bytes (names_of names)) (omega arith) h.0 r)
    (ap (λ (f : Four). Broken n (names_in_four f)) (four_in_lem 2 n (names_of names) h.1) ∙ ap (Broken n) (names_in_lem names))
answer_in_lem (Consistent s) h =
    let r = four_below (pair_of s) (four_more (pair_of s) h) in
    rw (kind_in_lem 3 (settled_number s) (four_bytes (pair_of s)) (omega arith) (settled_below s) r)
    (ap (λ (f : Four). Consistent (pair_named f.0 f.1)) (four_in_lem 3 (settled_number s) (pair_of s) h) ∙ ap Consistent (pair_in_lem s))

-- so two answers with one word are one answer
pub packed_unique : (x y : Answer) → Fits 255 x → Fits 255 y → packed x ≡ packed y → x ≡ y
packed_unique x y h i e = sym (answer_in_lem x h) ∙ ap answer_in e ∙ answer_in_lem y i

-- Counting the fields of one tag before a place, field by field (crates/encode/specs/Index.antt).
--     Counted, counted_none, counted_more, counted_all, counted_turn     the fields before place q are counted
-- Assumes nothing.
use mathlib.Core.Path.{◌≡◌, sym, ap, ◌∙◌}
use mathlib.Core.Bool.{Bool, true, false, cond}
use mathlib.Core.List.{List}
use Prim.Native.Nat.{ℕ, suc, ◌+◌, ◌-◌, ◌<◌, ◌≤◌}
use native.Mathlib.Omega.{arith}
use lib.Dec.{eqb}
use Rattle.format.specs.Field.{field_bytes, tag_at, length_at, next_at}
use Rattle.encode.specs.Index.{same_from}
use Rattle.encode.proofs.IndexLaws.{same_end, same_next}

-- the fields before q are counted, i of them; with the fuel that is left
pub record Counted (s : List ℕ) (p i q : ℕ) : Type 0 where
  pub fuel : ℕ
  pub goes : same_from s (suc p) 0 p ≡ i + same_from s (suc fuel) q p
  pub enough : p ≤ fuel + q
  pub few : i ≤ q

pub counted_none : (s : List ℕ) (p : ℕ) → Counted s p 0 0
counted_none s p = record { fuel = p; goes = omega arith; enough = omega arith; few = omega arith }

pub one_most : (b : Bool) → cond b 1 0 ≤ 1
one_most true = omega arith
one_most false = omega arith

pub counted_more : (s : List ℕ) (p i q one next : ℕ) → Counted s p i q → q < p → one ≡ cond (eqb (tag_at s q) (tag_at s p)) 1 0 → next ≡ next_at s q → Counted s p (i + one) next
counted_more s p i q one next c h e f =
    let k : c.fuel ≡ suc (c.fuel - 1) = (let n = c.enough in omega arith) in
    let g : same_from s (suc c.fuel) q p ≡ one + same_from s (suc (c.fuel - 1)) next p =
    same_next s c.fuel q p h ∙ ap (λ (j : ℕ). cond (eqb (tag_at s q) (tag_at s p)) 1 0 + same_from s j (next_at s q) p) k
    ∙ ap (λ (j : ℕ). j + same_from s (suc (c.fuel - 1)) (next_at s q) p) (sym e) ∙ ap (λ (j : ℕ). one + same_from s (suc (c.fuel - 1)) j p) (sym f) in
    let o = one_most (eqb (tag_at s q) (tag_at s p)) in
    let m = c.goes in
    let n = c.enough in
    let w = c.few in
    record { fuel = c.fuel - 1; goes = omega arith; enough = omega arith; few = omega arith }

pub counted_all : (s : List ℕ) (p i q : ℕ) → Counted s p i q → p ≤ q → i ≡ same_from s (suc p) 0 p
counted_all s p i q c h = let e = same_end s c.fuel q p h in let g = c.goes in omega arith

-- the same, as the code has its parts
pub counted_turn : (s : List ℕ) (p i q one next a b n : ℕ) → Counted s p i q → q < p → a ≡ tag_at s q → b ≡ tag_at s p → one ≡ cond (eqb a b) 1 0 → n ≡ length_at s q → next ≡ q + (field_bytes + n)
    → Counted s p (i + one) next
counted_turn s p i q one next a b n c h e f g l k =
    counted_more s p i q one next c h (g ∙ ap (λ (j : ℕ). cond (eqb j b) 1 0) e ∙ ap (λ (j : ℕ). cond (eqb (tag_at s q) j) 1 0) f) (omega arith)

-- The laws of specs/Described.antt. Assumes nothing.
--     taken_end, taken_more, taken_next     the fields taken, field by field
--     parse_described     where a sheet is not refused, it describes what its fields describe
--     rowless_refused     a sheet with a read byte without a row describes no execution
use mathlib.Core.Path.{◌≡◌, sym, ap, ◌∙◌, subst}
use mathlib.Core.Bool.{Bool, true, false, cond}
use mathlib.Core.List.{List}
use Prim.Native.Nat.{ℕ, zero, suc, ◌+◌, ◌-◌, ◌<◌, ◌≤◌}
use native.Mathlib.Omega.{arith}
use borrow.Author.Tests.{le-ltb, lt-ltb}
use lib.Dec.{ltb}
use lib.ListN.{length}
use Rattle.basis.proofs.ListLaws.{get_or_mem}
use Rattle.format.specs.Limits.{max_bytes}
use Rattle.format.specs.Execution.{Execution, blank_row}
use Rattle.format.specs.Field.{next_at}
use Rattle.parse.specs.Parse.{Parsed, refused, whole, place_of, State, blank, fault_at, after, finish, fields_from, parse}
use Rattle.parse.specs.Promise.{row}
use Rattle.parse.proofs.ParseLaws.{not_whole, finished_whole}
use Rattle.parse.proofs.PromiseLaws.{promise}
use Rattle.parse.specs.Described.{fields_taken, described, Rowless}

module _ (s : List ℕ) (k p : ℕ) (st : State) where
  pub taken_end : length s ≤ p → fields_taken s (suc k) p st ≡ st
  unfolding fields_taken
  taken_end h = rw (le-ltb p (length s) h, fields_taken)

  pub taken_more : p < length s → fields_taken s (suc k) p st ≡ fields_taken s k (next_at s p) (after s p st)
  unfolding fields_taken
  taken_more h = rw (lt-ltb p (length s) h, fields_taken)

  -- with the fuel that is left
  pub taken_next : p < length s → length s ≤ k + p → fields_taken s (suc (k - 1)) (next_at s p) (after s p st) ≡ fields_taken s (suc k) p st
  taken_next h b = let n : suc (k - 1) ≡ k = omega arith in ap (λ (j : ℕ). fields_taken s j (next_at s p) (after s p st)) n ∙ sym (taken_more h)

fields_whole : (s : List ℕ) (k p : ℕ) (st : State) (x : Execution) → fields_from s k p st ≡ whole x → x ≡ (fields_taken s k p st).got
unfolding fields_from fields_taken
fields_whole s zero p st x e = not_whole e
fields_whole s (suc k) p st x e = go (ltb p (length s)) (fault_at s p st) e (fields_whole s k (next_at s p) (after s p st) x)
  where
    go : (b : Bool) (n : ℕ)
        → elim b as (λ _. Parsed) [
          | false ↦ finish s st
          | true ↦ elim n as (λ _. Parsed) [ zero ↦ fields_from s k (next_at s p) (after s p st) | suc m ↦ refused (suc m) (place_of (suc m) p) ]
        ] ≡ whole x
        → (fields_from s k (next_at s p) (after s p st) ≡ whole x → x ≡ (fields_taken s k (next_at s p) (after s p st)).got)
        → x ≡ (elim b as (λ _. State) [ false ↦ st | true ↦ fields_taken s k (next_at s p) (after s p st) ]).got
    go false n q ih = sym (finished_whole s st x q).got
    go true zero q ih = ih q
    go true (suc n) q ih = not_whole q

pub parse_described : (s : List ℕ) (x : Execution) → parse s ≡ whole x → x ≡ described s
unfolding parse described
parse_described s x e = go (ltb max_bytes (length s)) e
  where
    go : (b : Bool) → cond b (refused 1 0) (fields_from s (suc (length s)) 0 blank) ≡ whole x → x ≡ (fields_taken s (suc (length s)) 0 blank).got
    go true q = not_whole q
    go false q = fields_whole s (suc (length s)) 0 blank x q

pub rowless_refused : (s : List ℕ) → Rowless (described s) → (x : Execution) → parse s ≡ whole x → ⊥
rowless_refused s r x e =
    let q = subst Rowless (sym (parse_described s x e)) r in
    let w = (promise s x e).row_for_each q.0 q.1.byte q.1.reads in
    q.1.no_row (row x w.number) (get_or_mem blank_row x.rows w.number w.there) w.reader w.address

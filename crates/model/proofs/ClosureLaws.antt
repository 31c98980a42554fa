-- The table of happens-before of proofs/Outcome.antt. Assumes nothing.
--     table_tests     it tests happens-before
use mathlib.Core.Path.{◌≡◌, ◌∙◌, ap, subst}
use mathlib.Core.Bool.{Bool, false}
use mathlib.Core.List.{List, []}
use Prim.Native.Nat.{ℕ, zero, suc, ◌+◌, ◌≤◌, ◌<◌}
use native.Mathlib.Omega.{arith}
use native.Mathlib.Nat.{zero-add}
use native.Mathlib.Decide.{dec_lt}
use lib.Dec.{T}
use lib.ListN.{length, get_or}
use Rattle.basis.specs.Test.{◌and◌, ◌or◌, each, from}
use Rattle.basis.proofs.ListLaws.{each_at, each_past}
use Rattle.format.specs.Execution.{Execution}
use Rattle.model.specs.Happens.{step, Happens, one, more, Tests}
use Rattle.model.proofs.Warshall.{sound, start, closed}
use Rattle.model.proofs.Sound.{Sound}
use Rattle.model.proofs.HappensLaws.{happens_trans, step_inside, happens_inside}
use Rattle.model.proofs.Outcome.{table, look, through, warshall, hb_table}

look_table : (n : ℕ) (f : ℕ → ℕ → Bool) (a b : ℕ) → a < n → b < n → look (table n f) a b ≡ f a b
unfolding table look
look_table n f a b h k =
    ap (λ (l : List Bool). get_or l b false) (each_at (λ (c : ℕ). each (f c) (from 0 n)) n 0 a [] h)
    ∙ each_at (f (0 + a)) n 0 b false k ∙ ap (λ (c : ℕ). f c (0 + b)) (zero-add a) ∙ ap (f a) (zero-add b)

look_row_out : (n : ℕ) (f : ℕ → ℕ → Bool) (a b : ℕ) → n ≤ a → look (table n f) a b ≡ false
unfolding table look
look_row_out n f a b h = ap (λ (l : List Bool). get_or l b false) (each_past (λ (c : ℕ). each (f c) (from 0 n)) n 0 a [] h)

look_out : (n : ℕ) (f : ℕ → ℕ → Bool) (a b : ℕ) → a < n → n ≤ b → look (table n f) a b ≡ false
unfolding table look
look_out n f a b h k =
    ap (λ (l : List Bool). get_or l b false) (each_at (λ (c : ℕ). each (f c) (from 0 n)) n 0 a [] h) ∙ each_past (f (0 + a)) n 0 b false k

look_inside : (n : ℕ) (f : ℕ → ℕ → Bool) (a b : ℕ) → T (look (table n f) a b) → (a < n) × (b < n) × T (f a b)
look_inside n f a b t = go (dec_lt a n) (dec_lt b n)
  where
    go : Dec (a < n) → Dec (b < n) → (a < n) × (b < n) × T (f a b)
    go (yes h) (yes k) = (h, k, subst (λ (c : Bool). T c) (look_table n f a b h k) t)
    go (no h) k = absurd (subst (λ (c : Bool). T c) (look_row_out n f a b (omega arith)) t)
    go (yes h) (no k) = absurd (subst (λ (c : Bool). T c) (look_out n f a b h (omega arith)) t)

table_next : (n : ℕ) (t : List (List Bool)) (k a b : ℕ) → a < n → b < n
    → look (warshall n (suc k) t) a b ≡ (look (warshall n k t) a b or look (warshall n k t) a k and look (warshall n k t) k b)
unfolding warshall through
table_next n t k a b i j = look_table n (through (warshall n k t) k) a b i j

-- A relation on the events, worked out by passes, tests happens-before.
pub passes_test : (x : Execution) → Sound x → (R : ℕ → ℕ → ℕ → Bool)
    → ((a b : ℕ) → a < length x.events → b < length x.events → R 0 a b ≡ step x a b)
    → ((k a b : ℕ) → k < length x.events → a < length x.events → b < length x.events → R (suc k) a b ≡ (R k a b or R k a k and R k k b))
    → ((a b : ℕ) → T (R (length x.events) a b) → (a < length x.events) × (b < length x.events))
    → Tests x (R (length x.events))
passes_test x so R base next inside e d = (λ t. let h = inside e d t in sound n (step x) R base next (Happens x) (λ a b s. one s) (λ a b c h k. happens_trans h k) n e d (omega arith) h.0 h.1 t, complete)
  where
    n : ℕ
    n = length x.events

    complete : {a b : ℕ} → Happens x a b → T (R n a b)
    complete {a} {b} (one s) = let h = step_inside x so a b s in start n (step x) R base next n a b (omega arith) h.0 h.1 s
    complete {a} {b} (more {d = c} s k) = let h = step_inside x so a c s in
        closed n (step x) R base next a b c h.0 (happens_inside x so k).1 h.1 (start n (step x) R base next n a c (omega arith) h.0 h.1 s) (complete k)

table_base : (n : ℕ) (f : ℕ → ℕ → Bool) (a b : ℕ) → a < n → b < n → look (warshall n 0 (table n f)) a b ≡ f a b
unfolding warshall
table_base n f a b i j = look_table n f a b i j

hb_inside : (n k : ℕ) (f : ℕ → ℕ → Bool) (a b : ℕ) → T (look (warshall n k (table n f)) a b) → (a < n) × (b < n)
unfolding warshall
hb_inside n zero f a b t = let h = look_inside n f a b t in (h.0, h.1)
hb_inside n (suc k) f a b t = let h = look_inside n (through (warshall n k (table n f)) k) a b t in (h.0, h.1)

pub table_tests : (x : Execution) → Sound x → Tests x (look (hb_table x))
unfolding hb_table
table_tests x so = passes_test x so (λ (k : ℕ). look (warshall n k (table n (step x)))) (λ a b i j. table_base n (step x) a b i j) (λ k a b h i j. table_next n (table n (step x)) k a b i j) (hb_inside n n (step x))
  where
    n : ℕ
    n = length x.events

-- The ladders of tests of specs/Parse.antt: a field's fault has a row in 01's table, specs/Refusal.antt.
--     last_tag s k     the tag before field number k, 0 where it is the first
--     rung            one rung of a ladder
--     blamed          the number that `fault_at` gives is the one that the field is to be refused by
-- Assumes nothing.
use mathlib.Core.Path.{◌≡◌, refl, sym, subst}
use mathlib.Core.Logic.{◌⊎◌, inl, inr}
use mathlib.Core.Bool.{Bool, true, false, cond, false≢true}
use mathlib.Core.List.{List}
use Prim.Native.Nat.{ℕ, zero, suc, ◌+◌, ◌≤◌}
use native.Mathlib.Omega.{arith}
use borrow.Author.Tests.{ltb-true, ltb-false, eqb-true, eqb-false}
use lib.Dec.{eqb, ltb}
use lib.ListN.{length}
use Rattle.basis.specs.Test.{non}
use Rattle.basis.proofs.BoolLaws.{non_true}
use Rattle.format.specs.Limits.{max_inits, max_others, max_pairs}
use Rattle.format.specs.Execution.{Execution, inits, others}
use Rattle.format.specs.Field.{field_bytes, next_at, field_place}
use Rattle.format.specs.Layout.{edition_of, head_bytes, event_bytes, data_bytes, row_bytes, pair_bytes, head_of, agent_of, shape_of, row_of, pair_of}
use Rattle.content.specs.Content.{within, head_fits, event_fits, room_in, room_for, row_fits, pair_fits}
use Rattle.content.proofs.ContentLaws.{not_within}
use Rattle.parse.specs.Parse.{allowed, head_fault, event_fault, event_fault_by, row_fault, pair_fault, value_fault, value_fault_by, fault_by}
use Rattle.parse.specs.Refusal.{state_no, fault_no, value_no, so_far, tag_no, WrongTag, unknown, falling, second_head, no_head_lem, Blames, cut, tag, long, of_head, of_event, of_row, of_pair, one_init_more, one_other_more, one_pair_more}

-- the tag before field number k, 0 where it is the first
abbrev pub last_tag : List ℕ → ℕ → ℕ
last_tag s zero = 0
last_tag s (suc j) = tag_no s j

-- one rung of a ladder, with what its test has shown
pub rung : {A : Type 0} (P : A → Type 0) (b : Bool) (n m : A) → (b ≡ true → P n) → (b ≡ false → P m) → P (cond b n m)
rung P true n m f g = f refl
rung P false n m f g = g refl

unlisted : (t : ℕ) → eqb t 1 ≡ false → eqb t 2 ≡ false → eqb t 3 ≡ false → eqb t 4 ≡ false → 1 ≤ t → t ≤ 4 → ⊥
unlisted t a b c d lo hi = let p = eqb-false t 1 a in let q = eqb-false t 2 b in let r = eqb-false t 3 c in let u = eqb-false t 4 d in omega arith

-- 01: "3 tag unknown, falling, a second head, or no head"
wrong_tag : (s : List ℕ) (k : ℕ) → (1 ≤ k → 1 ≤ last_tag s k) → allowed (last_tag s k) (tag_no s k) ≡ false → WrongTag s k
unfolding allowed
wrong_tag s zero l e = no_head_lem (λ (q : tag_no s 0 ≡ 1). let f = simp q at e in false≢true (sym f))
wrong_tag s (suc j) l e =
    rung Wrong (eqb t 1) _ _ (λ a f. second_head j (eqb-true _ _ a))
    (λ a. rung Wrong (eqb t 2) _ _ (below 2)
    (λ b. rung Wrong (eqb t 3) _ _ (below 3)
    (λ c. rung Wrong (eqb t 4) _ _ (below 4) (λ d f. unknown (suc j) (unlisted t a b c d))))) e
  where
    t : ℕ
    t = tag_no s (suc j)

    Wrong : Bool → Type 0
    Wrong b = b ≡ false → WrongTag s (suc j)

    below : (n : ℕ) → eqb t n ≡ true → Wrong (within 1 n (tag_no s j))
    below n a f =
        let h = not_within 1 n (tag_no s j) f (l (omega arith)) in
        let z = eqb-true t n a in falling j (omega arith)

not_so : (n m : ℕ) → non (eqb n m) ≡ true → n ≡ m → ⊥
not_so n m a = eqb-false n m (non_true _ a)

-- no fault, or one that field number k is to be refused by
module _ (s : List ℕ) (k : ℕ) where
  abbrev Answers : ℕ → Type 0
  Answers n = (n ≡ 0) ⊎ Blames s k n

  abbrev v : List ℕ
  v = value_no s k

  abbrev x : Execution
  x = so_far s k

  head_answers : tag_no s k ≡ 1 → Answers (head_fault v)
  unfolding head_fault
  head_answers e =
      rung Answers (non (eqb (length v) (head_bytes (edition_of v)))) _ _ (λ a. inr (long (λ l. not_so _ _ a (l.head e))))
      (λ _. rung Answers (non (head_fits (head_of (edition_of v) v))) _ _ (λ a. inr (of_head e (non_true _ a))) (λ _. inl refl))

  no_room : tag_no s k ≡ 2 → room_for x.events (agent_of v) ≡ false → Blames s k 9
  unfolding room_in
  no_room e h = go (eqb (agent_of v) 0) refl h
    where
      go : (b : Bool) → eqb (agent_of v) 0 ≡ b → cond b (ltb (inits x.events) max_inits) (ltb (others x.events) max_others) ≡ false → Blames s k 9
      go true a f = one_init_more e (eqb-true _ _ a) (ltb-false _ _ f)
      go false a f = one_other_more e (eqb-false _ _ a) (ltb-false _ _ f)

  event_answers : tag_no s k ≡ 2 → Answers (event_fault x.head x.events v)
  unfolding event_fault_by
  event_answers e =
      rung Answers (ltb (length v) (event_bytes x.head.edition)) _ _
      (λ a. inr (long (λ l. let h = ltb-true (length v) (event_bytes x.head.edition) a in let q = l.event e in omega arith)))
      (λ _. rung Answers (non (event_fits x.head x.events (agent_of v) (shape_of x.head.edition v))) _ _ (λ a. inr (of_event e (non_true _ a)))
      (λ _. rung Answers (non (eqb (length v) (event_bytes x.head.edition + data_bytes (shape_of x.head.edition v)))) _ _ (λ a. inr (long (λ l. not_so _ _ a (l.event e))))
      (λ _. rung Answers (non (room_for x.events (agent_of v))) _ _ (λ a. inr (no_room e (non_true _ a))) (λ _. inl refl))))

  row_answers : tag_no s k ≡ 3 → Answers (row_fault x.head x.events x.rows v)
  unfolding row_fault
  row_answers e =
      rung Answers (non (eqb (length v) (row_bytes x.head.edition))) _ _ (λ a. inr (long (λ l. not_so _ _ a (l.row e))))
      (λ _. rung Answers (non (row_fits x.events x.rows (row_of x.head.edition v))) _ _ (λ a. inr (of_row e (non_true _ a))) (λ _. inl refl))

  pair_answers : tag_no s k ≡ 4 → Answers (pair_fault x.events x.pairs v)
  unfolding pair_fault
  pair_answers e =
      rung Answers (non (eqb (length v) pair_bytes)) _ _ (λ a. inr (long (λ l. not_so _ _ a (l.pair e))))
      (λ _. rung Answers (non (pair_fits x.events x.pairs (pair_of v))) _ _ (λ a. inr (of_pair e (non_true _ a)))
      (λ _. rung Answers (non (ltb (length x.pairs) max_pairs)) _ _ (λ a. inr (one_pair_more e (ltb-false _ _ (non_true _ a)))) (λ _. inl refl)))

  value_answers : Answers (value_fault x (tag_no s k) v)
  unfolding value_fault_by
  value_answers =
      rung Answers (eqb t 1) _ _ (λ a. head_answers (eqb-true _ _ a))
      (λ a. rung Answers (eqb t 2) _ _ (λ b. event_answers (eqb-true _ _ b))
      (λ b. rung Answers (eqb t 3) _ _ (λ c. row_answers (eqb-true _ _ c))
      (λ c. rung Answers (eqb t 4) _ _ (λ d. pair_answers (eqb-true _ _ d)) (λ d. inr (tag (unknown k (unlisted t a b c d)))))))
    where
      t : ℕ
      t = tag_no s k

  field_answers : (state_no s k).tag ≡ last_tag s k → (1 ≤ k → 1 ≤ last_tag s k) → Answers (fault_no s k)
  unfolding fault_by
  field_answers e l =
      rung Answers (ltb (length s) (field_place s k + field_bytes)) _ _ (λ a. let h = ltb-true (length s) (field_place s k + field_bytes) a in inr (cut (omega arith)))
      (λ _. rung Answers (non (allowed (state_no s k).tag (tag_no s k))) _ _
      (λ b. inr (tag (wrong_tag s k l (subst (λ (n : ℕ). allowed n (tag_no s k) ≡ false) e (non_true _ b)))))
      (λ _. rung Answers (ltb (length s) (next_at s (field_place s k))) _ _ (λ c. inr (cut (ltb-true _ _ c)))
      (λ _. value_answers)))

  pub blamed : (state_no s k).tag ≡ last_tag s k → (1 ≤ k → 1 ≤ last_tag s k) → (n : ℕ) → fault_no s k ≡ suc n → Blames s k (suc n)
  blamed e l n f = go (field_answers e l)
    where
      go : Answers (fault_no s k) → Blames s k (suc n)
      go (inl z) = absurd (omega arith)
      go (inr b) = subst (Blames s k) f b

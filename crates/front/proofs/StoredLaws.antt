-- `Met` of specs/Examples.antt: an execution whose events all have two accesses meets what specs/Steps.antt asks, so its theorems are not empty for
-- two. Assumes nothing.
--     reads_one     what an event with two accesses reads, one of them reads
--     each_of       what a computed test says of each number
--     met           the premise holds
use mathlib.Core.Path.{◌≡◌, refl, sym, ap, ◌∙◌, subst}
use mathlib.Core.Bool.{Bool, false}
use mathlib.Core.Logic.{◌⊎◌, inl, inr, ⊎_elim}
use mathlib.Core.List.Memᴰ
use mathlib.Core.List.{[], ◌∷◌, Memᴰ}
use Prim.Native.Nat.{ℕ, zero, suc, ◌+◌, ◌*◌, ◌<◌, ◌≤◌}
use native.Mathlib.Omega.{arith}
use lib.Dec.{T, eqb, eqb→eq}
use Rattle.basis.specs.Test.{◌and◌, ◌or◌, non, any, number, each, from}
use Rattle.basis.proofs.BoolLaws.{and_elim, decide, non_intro, T_true, false_T, by_bool}
use Rattle.basis.proofs.ListLaws.{from_mem}
use Rattle.basis.proofs.LoopLaws.{any_intro}
use Rattle.format.specs.declared.Shape.{Shape}
use Rattle.format.specs.declared.Row.{Row}
use Rattle.format.specs.Shape.{reads, writes, covers, overlap}
use Rattle.format.specs.Event.{Access, lookup, access_at, shape_at, reads_at, writes_at, saw, wrote, is_init}
use Rattle.format.specs.Execution.{Execution, event_no, event, inits}
use Rattle.format.proofs.EventLaws.{reads_at_nobody}
use Rattle.format.proofs.EventLaws.{covers_nothing}
use Rattle.format.proofs.ExecutionLaws.{access_inside}
use Rattle.model.specs.Events.{any_two}
use Rattle.model.proofs.EventsLaws.{two_elim}
use Rattle.model.proofs.Sound.{Sound}
use Rattle.tables.specs.Tables.{agent_in, shape_in, row_in, seen_in, wrote_in, pair_in}
use Rattle.front.specs.Tabled.{Double, Slotted, Agents}
use Rattle.front.specs.Examples.{initial, reading, a_row, fill_slots, fill_events, fill_rows, table_of, rows_of, reads_both, Met}
use Rattle.front.proofs.TabledLaws.{range_of, regions_apart, lookup_hit, lookup_miss}

-- what an event with two accesses reads, one of them reads
reads_one : (p q : Access) (agent n : ℕ) → T (reads_at (record { agent = agent; accesses = p ∷ q ∷ [] }) n)
    → (T (covers p.shape n) × T (reads p.shape)) ⊎ (T (covers q.shape n) × T (reads q.shape))
unfolding reads_at shape_at access_at lookup
reads_one p q agent n t =
    by_bool (covers p.shape n)
    (λ c. inl (and_elim _ _ (subst (λ (a : Access). T (covers a.shape n and reads a.shape)) (lookup_hit p (q ∷ []) n c) t)))
    (λ c. by_bool (covers q.shape n)
    (λ d. inr (and_elim _ _ (subst (λ (a : Access). T (covers a.shape n and reads a.shape)) (lookup_miss p (q ∷ []) n c ∙ lookup_hit q [] n d) t)))
    (λ d. absurd (false_T _ (covers_nothing n) (and_elim _ _ (subst (λ (a : Access). T (covers a.shape n and reads a.shape)) (lookup_miss p (q ∷ []) n c ∙ lookup_miss q [] n d) t)).0)))

-- a range of one byte
byte_is : (a : Shape) (k n : ℕ) → a.start ≡ k → a.width ≡ 1 → T (covers a n) → k ≡ n
byte_is a k n s w c = let r = range_of a n (T_true _ c) in omega (arith, s, w, r.0, r.1)

abbrev x : Execution
x = reads_both

reads_at_lem : (e n : ℕ) → T (reads_at (event x e) n) → (e ≡ 1) × ((0 ≡ n) ⊎ (64 ≡ n))
unfolding event event_no reads ◌or◌
reads_at_lem zero n t = ⊎_elim (λ w. absurd w.1) (λ w. absurd w.1) (reads_one _ _ _ n t)
reads_at_lem (suc zero) n t = (refl, ⊎_elim (λ w. inl (byte_is _ 0 n refl refl w.0)) (λ w. inr (byte_is _ 64 n refl refl w.0)) (reads_one _ _ _ n t))
reads_at_lem (suc (suc e)) n t = absurd (subst T (reads_at_nobody n) t)

of_rows : (F : Row → Type 0) → F (a_row 1 0 0) → F (a_row 1 64 0) → (r : Row) → Memᴰ r x.rows → F r
of_rows F a b r (Memᴰ.head z) = subst F (sym z) a
of_rows F a b r (Memᴰ.tail (Memᴰ.head z)) = subst F (sym z) b
of_rows F a b r (Memᴰ.tail (Memᴰ.tail y)) = elim y [ ]

has : (e n : ℕ) → (e ≡ 1) → (0 ≡ n) ⊎ (64 ≡ n) → (r : Row) × Memᴰ r x.rows × (r.reader ≡ e) × (r.address ≡ n)
has e n h (inl z) = (a_row 1 0 0, Memᴰ.head refl, sym h, z)
has e n h (inr z) = (a_row 1 64 0, Memᴰ.tail (Memᴰ.head refl), sym h, z)

init_is : (e : ℕ) → T (is_init (event x e)) → (e ≡ 0) ⊎ (2 ≤ e)
unfolding event event_no is_init
init_is zero t = inl refl
init_is (suc zero) t = absurd t
init_is (suc (suc e)) t = inr (omega arith)

low_init : (e : ℕ) → e < inits x.events → T (is_init (event x e))
unfolding event event_no is_init inits number
low_init zero h = tt
low_init (suc e) h = absurd (omega (arith, h))

-- the only init is event 0
init_writes : (e : ℕ) → T (is_init (event x e)) → (a : Access) → Memᴰ a (event x e).accesses → (a.shape.kind ≡ 2) × (a.shape.mode ≡ 0)
unfolding event event_no is_init
init_writes zero t a (Memᴰ.head z) = (ap (λ (b : Access). b.shape.kind) z, ap (λ (b : Access). b.shape.mode) z)
init_writes zero t a (Memᴰ.tail (Memᴰ.head z)) = (ap (λ (b : Access). b.shape.kind) z, ap (λ (b : Access). b.shape.mode) z)
init_writes zero t a (Memᴰ.tail (Memᴰ.tail y)) = elim y [ ]
init_writes (suc zero) t a m = absurd t
init_writes (suc (suc e)) t a m = absurd (Memᴰ.not-nil m)

alone : (e d : ℕ) → T (is_init (event x e)) → T (is_init (event x d)) → (e ≡ d → ⊥) → T (any_two overlap (event x e) (event x d)) → ⊥
alone e d s t ne h =
    let w = two_elim overlap (event x e) (event x d) h in
    let i = access_inside x e w.0 w.1 in
    let j = access_inside x d w.2 w.3 in
    go (init_is e s) (init_is d t) i j
  where
    go : (e ≡ 0) ⊎ (2 ≤ e) → (d ≡ 0) ⊎ (2 ≤ d) → e < 2 → d < 2 → ⊥
    go (inl p) (inl q) i j = ne (p ∙ sym q)
    go (inr p) q i j = omega (arith, p, i)
    go (inl p) (inr q) i j = omega (arith, q, j)

sound_both : Sound x
unfolding event event_no reads_at writes_at shape_at access_at lookup covers reads writes ◌and◌ ◌or◌
sound_both =
    record {
      row_reads = of_rows (λ r. T (reads_at (event x r.reader) r.address)) tt tt;
      row_writes = of_rows (λ r. T (writes_at (event x r.writer) r.address)) tt tt;
      row_differs = of_rows (λ r. r.reader ≡ r.writer → ⊥) (λ z. omega (arith, z)) (λ z. omega (arith, z));
      has_row = λ e n t. let w = reads_at_lem e n t in has e n w.0 w.1;
      pair_first = λ p m. absurd (Memᴰ.not-nil m);
      pair_second = λ p m. absurd (Memᴰ.not-nil m);
      pair_marker = λ p m. absurd (Memᴰ.not-nil m);
      pair_agent = λ p m. absurd (Memᴰ.not-nil m);
      init_low = low_init;
      init_access = init_writes;
      init_apart = alone;
    }

-- what is tested of the numbers from s on
each_of : (f : ℕ → Bool) (s n : ℕ) → any (λ (e : ℕ). non (f e)) (from s n) ≡ false → (e : ℕ) → s ≤ e → e < s + n → T (f e)
each_of f s n h e l u =
    ⊎_elim (λ t. t) (λ k. absurd (false_T _ h (any_intro (λ (d : ℕ). non (f d)) (from s n) e (from_mem n s e l u) (non_intro _ k)))) (decide (f e))

slotted_both : Slotted x (table_of x) 2
unfolding event event_no shape_in fill_events fill_slots any from non ◌or◌
slotted_both =
    record {
      count = refl;
      few = omega arith;
      holds = λ e h. inr (double e h);
      beyond = λ e l u. (
        eqb→eq _ _ (each_of (λ (d : ℕ). eqb (shape_in (table_of x) (2 * d)).width 0) 2 30 refl e l u),
        eqb→eq _ _ (each_of (λ (d : ℕ). eqb (shape_in (table_of x) (2 * d + 1)).width 0) 2 30 refl e l u),
      );
    }
  where
    double : (e : ℕ) → e < 2 → Double (table_of x) e (event x e).accesses
    double zero h =
        record { one = initial 0 (0 ∷ []); other = initial 64 (0 ∷ []); is = refl; first = refl; second = refl; apart = regions_apart _ _ 0 1 (λ z. omega (arith, z)) (omega arith, omega arith) (omega arith, omega arith) }
    double (suc zero) h =
        record { one = reading 1 0 (0 ∷ []); other = reading 1 64 (7 ∷ []); is = refl; first = refl; second = refl; apart = regions_apart _ _ 0 1 (λ z. omega (arith, z)) (omega arith, omega arith) (omega arith, omega arith) }
    double (suc (suc e)) h = absurd (omega (arith, h))

agents_both : Agents x (table_of x) 2
unfolding event event_no agent_in fill_events fill_slots
agents_both zero h = refl
agents_both (suc zero) h = refl
agents_both (suc (suc e)) h = absurd (omega (arith, h))

seen_both : (j : ℕ) → j < 2 → seen_in (rows_of x) j ≡ saw (event x (row_in (rows_of x) j).reader) (row_in (rows_of x) j).address
unfolding event event_no row_in fill_rows saw wrote shape_at access_at lookup covers ◌and◌
seen_both zero h = refl
seen_both (suc zero) h = refl
seen_both (suc (suc j)) h = absurd (omega (arith, h))

wrote_both : (j : ℕ) → j < 2 → wrote_in (rows_of x) j ≡ wrote (event x (row_in (rows_of x) j).writer) (row_in (rows_of x) j).address
unfolding event event_no row_in fill_rows saw wrote shape_at access_at lookup covers ◌and◌
wrote_both zero h = refl
wrote_both (suc zero) h = refl
wrote_both (suc (suc j)) h = absurd (omega (arith, h))

pub met : Met
unfolding each from row_in fill_rows pair_in
met =
    record {
      sound = sound_both;
      slotted = slotted_both;
      agents = agents_both;
      rowed = refl;
      seen = record { seen = seen_both; wrote = wrote_both };
      paired = refl;
    }

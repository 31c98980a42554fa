-- What the theorems need of an execution, over membership in the lists; it follows from what the reader promises. Assumes nothing.
--     Sound x, sound     of a well-formed execution
use mathlib.Core.Path.{◌≡◌, sym, subst}
use mathlib.Core.List.Memᴰ
use mathlib.Core.List.{List, Memᴰ}
use Prim.Native.Nat.{ℕ, ◌<◌}
use native.Mathlib.Omega.{arith}
use native.Mathlib.Decide.{ℕ_discrete, dec_lt}
use lib.Dec.{T, eqb, eqb→eq}
use lib.ListN.{length}
use Rattle.basis.specs.Test.{number}
use Rattle.basis.proofs.ListLaws.{mem_get_or, get_or_mem}
use Rattle.basis.proofs.LoopLaws.{any_intro, any_elim, number_front}
use Rattle.format.specs.declared.Row.{Row}
use Rattle.format.specs.declared.Pair.{Pair}
use Rattle.format.specs.Shape.{marks, overlap}
use Rattle.format.specs.Event.{Access, nobody, is_init, meets, reads_at, writes_at, is_marker}
use Rattle.format.specs.Execution.{Execution, event_no, event, inits, blank_row, no_pair}
use Rattle.format.proofs.EventLaws.{is_marker_nobody}
use Rattle.format.proofs.ShapeLaws.{overlap_sym}
use Rattle.format.proofs.ExecutionLaws.{event_inside, access_inside}
use Rattle.parse.specs.Promise.{WellEvent, WellFormed, row, pair}
use Rattle.model.specs.Events.{any_two}
use Rattle.model.proofs.EventsLaws.{two_elim}

pub record Sound (x : Execution) : Type 0 where
  pub row_reads : (r : Row) → Memᴰ r x.rows → T (reads_at (event x r.reader) r.address)
  pub row_writes : (r : Row) → Memᴰ r x.rows → T (writes_at (event x r.writer) r.address)
  pub row_differs : (r : Row) → Memᴰ r x.rows → r.reader ≡ r.writer → ⊥
  pub has_row : (e n : ℕ) → T (reads_at (event x e) n) → (r : Row) × Memᴰ r x.rows × (r.reader ≡ e) × (r.address ≡ n)
  pub pair_first : (p : Pair) → Memᴰ p x.pairs → p.first < length x.events
  pub pair_second : (p : Pair) → Memᴰ p x.pairs → p.second < length x.events
  pub pair_marker : (p : Pair) → Memᴰ p x.pairs → T (is_marker (event x p.second))
  pub pair_agent : (p : Pair) → Memᴰ p x.pairs → 0 < (event x p.second).agent
  pub init_low : (e : ℕ) → e < inits x.events → T (is_init (event x e))
  pub init_access : (e : ℕ) → T (is_init (event x e)) → (a : Access) → Memᴰ a (event x e).accesses → (a.shape.kind ≡ 2) × (a.shape.mode ≡ 0)
  pub init_apart : (e d : ℕ) → T (is_init (event x e)) → T (is_init (event x d)) → (e ≡ d → ⊥) → T (any_two overlap (event x e) (event x d)) → ⊥

module _ (x : Execution) (wf : WellFormed x) where
  of_row : (F : Row → Type 0) → ((j : ℕ) → j < length x.rows → F (row x j)) → (r : Row) → Memᴰ r x.rows → F r
  of_row F h r m = let w = mem_get_or blank_row m in subst F w.2 (h w.0 w.1)

  of_pair : (F : Pair → Type 0) → ((j : ℕ) → j < length x.pairs → F (pair x j)) → (p : Pair) → Memᴰ p x.pairs → F p
  of_pair F h p m = let w = mem_get_or no_pair m in subst F w.2 (h w.0 w.1)

  marker_inside : (e : ℕ) → T (is_marker (event x e)) → e < length x.events
  marker_inside e t = event_inside x (λ d. T (is_marker d)) (λ k. subst T is_marker_nobody k) e t

  init_agent : (e : ℕ) → T (is_init (event x e)) → (event x e).agent ≡ 0
  unfolding is_init
  init_agent e t = eqb→eq _ _ t

  marker_agent : (e : ℕ) → T (is_marker (event x e)) → 0 < (event x e).agent
  unfolding is_marker marks
  marker_agent e t = go (wf.events e (marker_inside e t)) (ℕ_discrete (event x e).agent 0)
    where
      go : WellEvent x.head (event x e) → Dec ((event x e).agent ≡ 0) → 0 < (event x e).agent
      go w (no h) = omega arith
      go w (yes h) =
          let a = any_elim (λ (b : Access). eqb b.shape.kind 4) (event x e).accesses t in
          let q = Memᴰ.eq_of_singleton (subst (λ (l : List Access). Memᴰ a.0 l) w.one_access a.1) in
          let k : w.access.shape.kind ≡ 4 = subst (λ (b : Access). b.shape.kind ≡ 4) q (eqb→eq _ _ a.2) in
          let m = (w.marker k).0 in
          let z : w.access.shape.mode ≡ 0 = w.init_agent.1 h in
          omega arith

  access_of_lem : (e : ℕ) → T (is_init (event x e)) → (a : Access) → Memᴰ a (event x e).accesses → (a.shape.kind ≡ 2) × (a.shape.mode ≡ 0)
  access_of_lem e t a m =
      let w = wf.events e (access_inside x e a m) in
      let q = Memᴰ.eq_of_singleton (subst (λ (l : List Access). Memᴰ a l) w.one_access m) in
      let z = w.init_agent.1 (init_agent e t) in
      subst (λ (b : Access). (b.shape.kind ≡ 2) × (b.shape.mode ≡ 0)) (sym q) (w.init_kind z, z)

  apart : (e d : ℕ) → T (is_init (event x e)) → T (is_init (event x d)) → (e ≡ d → ⊥) → T (any_two overlap (event x e) (event x d)) → ⊥
  unfolding meets
  apart e d s t ne h = go (dec_lt e d) (two_elim overlap (event x e) (event x d) h)
    where
      go : Dec (e < d) → (p : Access) × Memᴰ p (event x e).accesses × (q : Access) × Memᴰ q (event x d).accesses × T (overlap p.shape q.shape) → ⊥
      go (yes l) w = wf.inits_apart e d l (access_inside x d w.2 w.3) t w.2 w.3
          (any_intro (λ (b : Access). overlap w.2.shape b.shape) (event x e).accesses w.0 w.1 (overlap_sym _ _ w.4))
      go (no l) w = wf.inits_apart d e (omega arith) (access_inside x e w.0 w.1) s w.0 w.1
          (any_intro (λ (b : Access). overlap w.0.shape b.shape) (event x d).accesses w.2 w.3 w.4)

  low : (e : ℕ) → e < inits x.events → T (is_init (event x e))
  unfolding inits event event_no
  low e h = number_front nobody is_init x.events (λ i j l k t. wf.inits_first i j l k t) e h

  pub sound : Sound x
  sound = record {
    row_reads = of_row (λ r. T (reads_at (event x r.reader) r.address)) wf.row_reads;
    row_writes = of_row (λ r. T (writes_at (event x r.writer) r.address)) wf.row_writes;
    row_differs = of_row (λ r. r.reader ≡ r.writer → ⊥) wf.row_differs;
    has_row = λ e n t. let w = wf.row_for_each e n t in (row x w.number, get_or_mem blank_row x.rows w.number w.there, w.reader, w.address);
    pair_first = of_pair (λ p. p.first < length x.events) (λ j h. marker_inside _ (wf.pair_markers j h).0);
    pair_second = of_pair (λ p. p.second < length x.events) (λ j h. marker_inside _ (wf.pair_markers j h).1);
    pair_marker = of_pair (λ p. T (is_marker (event x p.second))) (λ j h. (wf.pair_markers j h).1);
    pair_agent = of_pair (λ p. 0 < (event x p.second).agent) (λ j h. marker_agent _ (wf.pair_markers j h).1);
    init_low = low;
    init_access = access_of_lem;
    init_apart = apart;
  }

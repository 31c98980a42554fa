-- The laws of specs/steps/Noted.antt. Assumes nothing.
--     noted_none, noted_more      event by event
--     wide_is                     the test of what is wide, as the code has it
use mathlib.Core.Path.{◌≡◌, refl, sym, ap, ◌∙◌, subst}
use mathlib.Core.Bool.{Bool, cond, ◌&&◌, ◌||◌}
use mathlib.Core.List.{List}
use Prim.Native.Nat.{ℕ, ◌+◌, ◌*◌, ◌<◌}
use native.Mathlib.Omega.{arith}
use native.Mathlib.Decide.{ℕ_discrete}
use lib.Bits.{bit_or}
use lib.Dec.{ltb}
use lib.ListN.{set}
use Rattle.basis.specs.Test.{◌and◌}
use Rattle.basis.proofs.BoolLaws.{amp_and, bar_or}
use Rattle.format.specs.declared.Shape.{Shape}
use Rattle.format.specs.Shape.{sc, writes}
use Rattle.sets.specs.Mask.{insert}
use Rattle.cells.specs.Walk.{picked}
use Rattle.cells.proofs.WalkLaws.{picked_none, picked_more}
use Rattle.cells.proofs.CellsLaws.{placing_none, placing_more}
use Rattle.tables.specs.Tables.{shape_in}
use Rattle.own.specs.Lone.{Lone}
use Rattle.torn.proofs.NoticedLaws.{or_nothing}
use Rattle.alike.specs.Ranges.{sc_writes}
use Rattle.alike.specs.steps.Keys.{key_of, Keyed}
use Rattle.sift.specs.Clean.{wide_of}
use Rattle.sift.specs.steps.Noted.{first_key, NotedIn}

-- ---- the widths of second accesses, gathered

-- c has those below n
record Gathered (t : List ℕ) (n c : ℕ) : Type 0 where
  lone : c ≡ 0 → Lone t n
  none : Lone t n → c ≡ 0

gathered_none : (t : List ℕ) → Gathered t 0 0
unfolding Lone
gathered_none t = record { lone = λ h e l. absurd (omega (arith, l)); none = λ h. refl }

gathered_more : (t : List ℕ) (n c w : ℕ) → Gathered t n c → w ≡ (shape_in t (2 * n + 1)).width → Gathered t (n + 1) (bit_or c w)
unfolding Lone
gathered_more t n c w g is =
    record {
      lone = λ h e l. let p = or_nothing c w h in go e l p.0 p.1 (ℕ_discrete e n);
      none = λ h. (λ i. bit_or (g.none (λ e l. h e (omega arith)) i) ((is ∙ h n (omega arith)) i));
    }
  where
    go : (e : ℕ) → e < n + 1 → c ≡ 0 → w ≡ 0 → Dec (e ≡ n) → (shape_in t (2 * e + 1)).width ≡ 0
    go e l p q (yes z) = ap (λ (i : ℕ). (shape_in t (2 * i + 1)).width) z ∙ sym is ∙ q
    go e l p q (no z) = g.lone p e (omega (arith, l, z))

-- ---- event by event

pub noted_none : (t l : List ℕ) → NotedIn t 0 l l 0 0 0 0
noted_none t l =
    let g = gathered_none t in
    record { keys = placing_none (first_key t) l; narrow = λ e h. absurd (omega arith); fars = picked_none _; scs = picked_none _; all = picked_none _; lone = g.lone; none = g.none }

-- a set that gained e by a test
gain : (f : ℕ → Bool) (e m x : ℕ) (b : Bool) → m ≡ picked e f → b ≡ f e → x ≡ cond b (insert m e) m → x ≡ picked (e + 1) f
gain f e m x b p q h = h ∙ ap (λ (c : Bool). cond c (insert m e) m) q ∙ ap (λ (z : ℕ). cond (f e) (insert z e) z) p ∙ sym (picked_more e f)

pub wide_is : (a : Shape) → (ltb 8 a.width || ltb 63 a.start) ≡ wide_of a
unfolding wide_of
wide_is a = bar_or (ltb 8 a.width) (ltb 63 a.start)

-- the test of one access, as the machine makes it
sc_is : (t : List ℕ) (k : ℕ) (a : Shape) (x y : Bool) → a ≡ shape_in t k → x ≡ sc a → y ≡ writes a → (x && y) ≡ sc_writes t k
unfolding sc_writes
sc_is t k a x y e f g = amp_and x y ∙ (λ i. f i and g i) ∙ ap (λ (s : Shape). sc s and writes s) e

module _ (t : List ℕ) (e : ℕ) (l₀ l : List ℕ) (far scs writers seconds : ℕ) (g : NotedIn t e l₀ l far scs writers seconds) (a : Shape) (is : a ≡ shape_in t (2 * e)) (b : Shape) (second : b ≡ shape_in t (2 * e + 1))
    (r : ℕ) (key : Keyed a r) (x y : Bool) (hx : x ≡ sc a) (hy : y ≡ writes a) where
  pub noted_more : (l' : List ℕ) → l' ≡ set l e r → (far' : ℕ) → far' ≡ cond (ltb 8 a.width || ltb 63 a.start) (insert far e) far → (scs' : ℕ) → scs' ≡ cond (x && y) (insert scs e) scs
      → (writers' : ℕ) → writers' ≡ cond y (insert writers e) writers → NotedIn t (e + 1) l₀ l' far' scs' writers' (bit_or seconds b.width)
  noted_more l' p far' f scs' s writers' w =
      record {
        keys = p ∙ ap (set l e) (key.is ∙ ap key_of is) ∙ ap (λ (z : List ℕ). set z e (first_key t e)) g.keys ∙ placing_more (first_key t) l₀ e;
        narrow = λ d h. go d h (ℕ_discrete d e);
        fars = gain (λ (v : ℕ). wide_of (shape_in t (2 * v))) e far far' _ g.fars (wide_is a ∙ ap wide_of is) f;
        scs = gain (λ (v : ℕ). sc_writes t (2 * v)) e scs scs' _ g.scs (sc_is t (2 * e) a x y is hx hy) s;
        all = gain (λ (v : ℕ). writes (shape_in t (2 * v))) e writers writers' y g.all (hy ∙ ap writes is) w;
        lone = more.lone;
        none = more.none;
      }
    where
      more : Gathered t (e + 1) (bit_or seconds b.width)
      more = gathered_more t e seconds b.width (record { lone = g.lone; none = g.none }) (ap (λ (z : Shape). z.width) second)

      go : (d : ℕ) → d < e + 1 → Dec (d ≡ e) → (shape_in t (2 * d)).width < 256
      go d h (yes z) = subst (λ (i : ℕ). (shape_in t (2 * i)).width < 256) (sym z) (subst (λ (s : Shape). s.width < 256) is key.byte)
      go d h (no z) = g.narrow d (omega (arith, z))

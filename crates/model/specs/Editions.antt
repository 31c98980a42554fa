-- 02 §4 over what is judged: "Both editions give the same event record, with its tear byte, and rule 25 is proved once over that record." Proved in
-- proofs/Editions.antt, StaysConsistent in proofs/Loosened.antt; that a sheet of edition 1 has a copy of edition 2: crates/encode/specs/Copy.antt, crates/plimdrong/specs/Demands.antt.
--     ByRecord        two sheets with the same events, rows and pairs get the same answer, and the same is left in both buffers, whatever their heads say
--     MayTear x e     no access of event e is tear-free            NeverTorn     such an event is never named by 25
--     bare, Looser x y     an event without its tear bytes; y differs from x in these (and its head) alone, and what is tear-free in y is so in x
--     OnlyTornTurns        where more may tear, every answer but 25 stays
--     StaysConsistent      02 §4 takes no pass back: what is consistent stays so, with the same order and the same pair, where more may tear
-- Assumes nothing.
use Rattle.std.specs.Prelude.{◌≡◌, ℕ, T}
use mathlib.Core.List.{List, Memᴰ}
use Rattle.basis.specs.Test.{each}
use Rattle.format.specs.declared.Head.{Head}
use Rattle.format.specs.Shape.{tear_free}
use Rattle.format.specs.Event.{Access, Event, shape_at}
use Rattle.format.specs.Execution.{Execution, with_head, event}
use Rattle.parse.specs.WellSheet.{WellSheet}
use Rattle.answer.specs.declared.Names.{Names}
use Rattle.answer.specs.declared.Names.TheVariants.{Torn}
use Rattle.answer.specs.declared.Settled.{Settled}
use Rattle.answer.specs.declared.Answer.{Answer}
use Rattle.answer.specs.declared.Answer.TheVariants.{Broken, Consistent}
use Rattle.model.specs.Judged.{Judged}

-- "Both editions give the same event record"
abbrev pub ByRecord : Type 0
ByRecord = (s t : List ℕ) (x : Execution) (h : Head) → WellSheet s x → WellSheet t (with_head x h)
    → (scratch order : List ℕ) (a b : Answer) (p q p' q' : List ℕ) → Judged s scratch order a p q → Judged t scratch order b p' q'
    → (a ≡ b) × (p ≡ p') × (q ≡ q')

-- "0 may tear, 1 tear-free"
abbrev pub MayTear : Execution → ℕ → Type 0
MayTear x e = (a : Access) → Memᴰ a (event x e).accesses → T (tear_free a.shape) → ⊥

-- 01: "25: R, W, V tear-free with equal ranges, .."
abbrev pub NeverTorn : Type 0
NeverTorn = (s scratch order : List ℕ) (r w v : ℕ) (scratch' order' : List ℕ) (x : Execution) → WellSheet s x
    → Judged s scratch order (Broken 25 (Torn r w v)) scratch' order' → (e : ℕ) → MayTear x e → (e ≡ r → ⊥) × (e ≡ w → ⊥) × (e ≡ v → ⊥)

unfoldable pub bare_access : Access → Access
bare_access a =
    record {
      shape = record { kind = a.shape.kind; mode = a.shape.mode; start = a.shape.start; width = a.shape.width; tear = 0 };
      seen = a.seen;
      written = a.written;
    }

unfoldable pub bare : Event → Event
bare d = record { agent = d.agent; accesses = each bare_access d.accesses }

pub record Looser (x y : Execution) : Type 0 where
  pub events : each bare x.events ≡ each bare y.events
  pub rows : x.rows ≡ y.rows
  pub pairs : x.pairs ≡ y.pairs
  pub fewer : (e n : ℕ) → T (tear_free (shape_at (event y e) n)) → T (tear_free (shape_at (event x e) n))

-- 21 to 24 and 26, 12 and 13, and consistent: no other rule looks at a tear byte
abbrev pub OnlyTornTurns : Type 0
OnlyTornTurns = (s t : List ℕ) (x y : Execution) → WellSheet s x → WellSheet t y → Looser x y
    → (scratch order : List ℕ) (a b : Answer) (p q p' q' : List ℕ) → ((names : Names) → a ≡ Broken 25 names → ⊥) → Judged s scratch order a p q
    → Judged t scratch order b p' q' → (a ≡ b) × (p ≡ p') × (q ≡ q')

-- "In ECMA-262 an unordered access is tear-free only through a typed array of an unclamped integer type": 01 took more for tear-free than is, so that it could
-- break what is allowed, and never passed what is not.
abbrev pub StaysConsistent : Type 0
StaysConsistent = (s t : List ℕ) (x y : Execution) → WellSheet s x → WellSheet t y → Looser x y
    → (scratch order : List ℕ) (settled : Settled) (b : Answer) (p q p' q' : List ℕ) → Judged s scratch order (Consistent settled) p q
    → Judged t scratch order b p' q' → (Consistent settled ≡ b) × (p ≡ p') × (q ≡ q')

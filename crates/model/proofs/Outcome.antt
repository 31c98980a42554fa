-- The answer as it computes from the definitions, for every sheet and all lengths of the buffers: what the tables of proofs/Litmus.antt are tested
-- with. That it is the one that specs/Judged.antt asks for: proofs/OutcomeLaws.antt. Assumes nothing.
--     table, look, warshall, hb_table       a relation as a table of truth values; happens-before, one more event in between at a time
--     member, without, kept, bar_list       lists of events; the bars of an execution
--     free, search, first_order             the first order, by trying the events in turn, lowest first, behind the inits
--     Outcome, outcome s room places       the answer, the order reported, and how much of the scratch is cleared
use mathlib.Core.Bool.{Bool, true, false}
use mathlib.Core.List.{List, [], ◌∷◌, ◌++◌}
use mathlib.Core.Option.{Option, none, some}
use Prim.Native.Nat.{ℕ, zero, suc}
use lib.Dec.{eqb}
use lib.ListN.{length, get_or}
use Rattle.basis.specs.Test.{◌and◌, ◌or◌, non, any, ◌else◌, mapped, each, across, from}
use Rattle.format.specs.declared.Row.{Row}
use Rattle.format.specs.Execution.{Execution, inits, others}
use Rattle.parse.specs.Parse.{Parsed, refused, whole}
use Rattle.answer.specs.declared.Names.TheVariants.{Nobody}
use Rattle.answer.specs.declared.Answer.{Answer}
use Rattle.answer.specs.declared.Answer.TheVariants.{Refused, Broken, Consistent}
use Rattle.model.specs.Events.{numbers}
use Rattle.model.specs.Happens.{step}
use Rattle.model.specs.Rules.{Fault, fault}
use Rattle.model.specs.Bar.{row_bars}
use Rattle.model.specs.Unsettled.{unsettled_pair}
use Rattle.model.specs.Judged.{needed, admitted, settled_of}

-- ---- happens-before

unfoldable pub table : ℕ → (ℕ → ℕ → Bool) → List (List Bool)
table n f = each (λ (a : ℕ). each (f a) (from 0 n)) (from 0 n)

unfoldable pub look : List (List Bool) → ℕ → ℕ → Bool
look t a b = get_or (get_or t a []) b false

unfoldable pub through : List (List Bool) → ℕ → ℕ → ℕ → Bool
through w k a b = look w a b or look w a k and look w k b

unfoldable pub warshall : ℕ → ℕ → List (List Bool) → List (List Bool)
warshall n zero t = t
warshall n (suc k) t = let w = warshall n k t in table n (through w k)

unfoldable pub hb_table : Execution → List (List Bool)
hb_table x = warshall (length x.events) (length x.events) (table (length x.events) (step x))

-- ---- the first order

unfoldable pub member : ℕ → List ℕ → Bool
member e l = any (eqb e) l

module _ {A : Type 0} where
  unfoldable pub put : Bool → A → List A → List A
  put true a l = a ∷ l
  put false a l = l

  -- the entries that pass
  unfoldable pub kept : (A → Bool) → List A → List A
  kept f [] = []
  kept f (a ∷ l) = put (f a) a (kept f l)

unfoldable pub without : ℕ → List ℕ → List ℕ
without e l = kept (λ (d : ℕ). non (eqb e d)) l

unfoldable pub bar_list : Execution → (ℕ → ℕ → Bool) → List (Row × ℕ)
bar_list x hb = kept (λ (p : Row × ℕ). row_bars x hb p.0 p.1) (across x.rows (numbers x))

unfoldable pub first_of : (ℕ → Option (List ℕ)) → List ℕ → Option (List ℕ)
first_of f [] = none
first_of f (c ∷ l) = let r = first_of f l in f c else r

unfoldable pub gated : Bool → Option (List ℕ) → Option (List ℕ)
gated true s = s
gated false s = none

unfoldable pub unless_done : List ℕ → Option (List ℕ) → Option (List ℕ)
unless_done [] r = some []
unless_done (e ∷ l) r = r

-- c may be placed next: none of the rest happens before it, and it is not the V of a bar with W placed and R not
unfoldable pub free : (ℕ → ℕ → Bool) → List (Row × ℕ) → List ℕ → List ℕ → ℕ → Bool
free hb bs placed rest c =
    non (any (λ (d : ℕ). hb d c) rest)
    and non (any (λ (p : Row × ℕ). eqb p.1 c and member p.0.writer placed and member p.0.reader rest) bs)

unfoldable pub search : (ℕ → ℕ → Bool) → List (Row × ℕ) → ℕ → List ℕ → List ℕ → Option (List ℕ)
search hb bs zero placed rest = unless_done rest none
search hb bs (suc k) placed rest =
    let r =
    first_of (λ (c : ℕ). let s = mapped (λ (l : List ℕ). c ∷ l) (search hb bs k (c ∷ placed) (without c rest)) in gated (free hb bs placed rest c) s) rest in
    unless_done rest r

unfoldable pub first_order : Execution → (ℕ → ℕ → Bool) → Option (List ℕ)
first_order x hb =
    let bs = bar_list x hb in
    let k = inits x.events in
    let m = others x.events in
    mapped (λ (l : List ℕ). from 0 k ++ l) (search hb bs m (from 0 k) (from k m))

-- ---- the answer

pub record Outcome : Type 0 where
  pub answer : Answer
  pub order : List ℕ
  pub used : ℕ

abbrev pub outcome_is : Answer → List ℕ → ℕ → Outcome
outcome_is a o u = record { answer = a; order = o; used = u }

unfoldable pub verdict : ℕ → Option Fault → Option (List ℕ) → Option (ℕ × ℕ) → Outcome
verdict need (some f) o u = outcome_is (Broken f.number f.names) [] need
verdict need none none u = outcome_is (Broken 26 Nobody) [] need
verdict need none (some o) u = outcome_is (Consistent (settled_of u)) o need

unfoldable pub outcome_of : Parsed → Outcome
outcome_of (refused n p) = outcome_is (Refused n p) [] 0
outcome_of (whole x) = let t = hb_table x in verdict (needed x) (fault x (look t)) (first_order x (look t)) (unsettled_pair x (look t))

unfoldable pub outcome : List ℕ → ℕ → ℕ → Outcome
outcome s room places = outcome_of (admitted s room places)

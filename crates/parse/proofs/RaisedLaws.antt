-- What specs/Raised.antt claims. A raised count changes one rung of the ladder of tests, the last of an event that is no init: a field's fault stays, or was 9
-- at such an event; the fields behind it are read in the same state. Assumes nothing.
--     fault_raised      with room for more, and as much for inits, a field has the same fault, or had 9 and is an event that is no init
--     fields_raised     so has the sheet from a place on
--     at_the_limit, raised_keeps, from_sixteen
use mathlib.Core.Path.{◌≡◌, refl, sym, ap, ◌∙◌, subst}
use mathlib.Core.Logic.{◌⊎◌, inl, inr, ⊎_elim}
use mathlib.Core.Bool.{Bool, true, false, cond, false≢true}
use mathlib.Core.List.{List}
use Prim.Native.Nat.{ℕ, zero, suc, ◌+◌, ◌≤◌}
use native.Mathlib.Omega.{arith}
use borrow.Author.Tests.{eqb-true, ltb-true, lt-ltb}
use lib.Dec.{eqb, ltb}
use lib.ListN.{length}
use Rattle.basis.specs.Test.{non}
use Rattle.format.specs.declared.Head.{Head}
use Rattle.format.specs.Limits.{max_bytes, max_inits, max_others}
use Rattle.format.specs.Event.{Event}
use Rattle.format.specs.Execution.{Execution, inits, others}
use Rattle.format.specs.Field.{field_bytes, tag_at, next_at, value_at}
use Rattle.format.specs.Layout.{event_bytes, data_bytes, agent_of, shape_of}
use Rattle.content.specs.Content.{event_fits, room_in}
use Rattle.parse.specs.Parse.{Parsed, refused, State, place_of, blank, allowed, event_fault_by, value_fault_by, fault_at, fault_by, after, finish, fields_from, parse}
use Rattle.parse.specs.Raised.{room_up_to, fields_up_to, parse_up_to, AtTheLimit, OneTooMany, RaisedKeeps, FromSixteen}
use Rattle.parse.proofs.ParseLaws.{not_whole}

-- a number that stays, or was 9 where E holds
abbrev Stays : Type 0 → ℕ → ℕ → Type 0
Stays E n m = (n ≡ m) ⊎ ((n ≡ 9) × E)

-- one rung of a ladder above such a number; and where it stands at the rung itself
above : {E : Type 0} (b : Bool) (n m k : ℕ) → Stays E m k → Stays E (cond b n m) (cond b n k)
above true n m k h = inl refl
above false n m k h = h

at_rung : {E : Type 0} (b : Bool) (n m k : ℕ) → Stays E n k → Stays ((b ≡ true) × E) (cond b n m) (cond b k m)
at_rung true n m k h = ⊎_elim inl (λ z. inr (z.0, (refl, z.1))) h
at_rung false n m k h = inl refl

-- the last rung: 9 where there is no room
abbrev counted : Bool → ℕ
counted b = cond (non b) 9 0

-- there is room for more, and as much for inits
module _ (room more : ℕ → Bool) (wider : (a : ℕ) → room a ≡ true → more a ≡ true) (inits-alike : room 0 ≡ more 0) where
  last_rung : (a : ℕ) → Stays (a ≡ 0 → ⊥) (counted (room a)) (counted (more a))
  unfolding non
  last_rung a = go (room a) (more a) (wider a) (λ z. subst (λ (n : ℕ). room n ≡ more n) (sym z) inits-alike)
    where
      go : (b c : Bool) → (b ≡ true → c ≡ true) → (a ≡ 0 → b ≡ c) → Stays (a ≡ 0 → ⊥) (counted b) (counted c)
      go true c h d = inl (rw (h refl) refl)
      go false true h d = inr (refl, λ z. false≢true (d z))
      go false false h d = inl refl

  event_raised : (h : Head) (events : List Event) (v : List ℕ) → Stays (agent_of v ≡ 0 → ⊥) (event_fault_by room h events v) (event_fault_by more h events v)
  unfolding event_fault_by
  event_raised h events v =
      above (ltb (length v) (event_bytes h.edition)) _ _ _
      (above (non (event_fits h events (agent_of v) (shape_of h.edition v))) _ _ _
      (above (non (eqb (length v) (event_bytes h.edition + data_bytes (shape_of h.edition v)))) _ _ _ (last_rung (agent_of v))))

  value_raised : (x : Execution) (tag : ℕ) (v : List ℕ) → Stays ((eqb tag 2 ≡ true) × (agent_of v ≡ 0 → ⊥)) (value_fault_by room x tag v) (value_fault_by more x tag v)
  unfolding value_fault_by
  value_raised x tag v = above (eqb tag 1) _ _ _ (at_rung (eqb tag 2) _ _ _ (event_raised x.head x.events v))

  pub fault_raised : (s : List ℕ) (p : ℕ) (st : State)
      → Stays ((eqb (tag_at s p) 2 ≡ true) × (agent_of (value_at s p) ≡ 0 → ⊥)) (fault_by room s p st) (fault_by more s p st)
  unfolding fault_by
  fault_raised s p st =
      above (ltb (length s) (p + field_bytes)) _ _ _
      (above (non (allowed st.tag (tag_at s p))) _ _ _
      (above (ltb (length s) (next_at s p)) _ _ _ (value_raised st.got (tag_at s p) (value_at s p))))

room_raised : (l m : ℕ) → l ≤ m → (events : List Event) (agent : ℕ) → room_up_to l events agent ≡ true → room_up_to m events agent ≡ true
unfolding room_up_to
room_raised l m h events agent = go (eqb agent 0)
  where
    go : (b : Bool) → cond b (ltb (inits events) max_inits) (ltb (others events) l) ≡ true → cond b (ltb (inits events) max_inits) (ltb (others events) m) ≡ true
    go true r = r
    go false r = let t = ltb-true (others events) l r in lt-ltb (others events) m (omega arith)

room_inits : (l m : ℕ) (events : List Event) → room_up_to l events 0 ≡ room_up_to m events 0
unfolding room_up_to
room_inits l m events = refl

-- one turn of both walks: b tells whether there is a field, f is its fault, next what comes behind it
abbrev turn : List ℕ → ℕ → State → Bool → ℕ → Parsed → Parsed
turn s p st b f next =
    elim b as (λ _. Parsed) [
      | false ↦ finish s st
      | true ↦ elim f as (λ _. Parsed) [ zero ↦ next | suc n ↦ refused (suc n) (place_of (suc n) p) ]
    ]

module _ (s : List ℕ) (p : ℕ) (st : State) (a b : Parsed) (next : (a ≡ b) ⊎ OneTooMany s a) where
  same_fault : (f : ℕ) → (turn s p st true f a ≡ turn s p st true f b) ⊎ OneTooMany s (turn s p st true f a)
  same_fault zero = next
  same_fault (suc n) = inl refl

  turn_raised : (c : Bool) (f g : ℕ) → Stays ((eqb (tag_at s p) 2 ≡ true) × (agent_of (value_at s p) ≡ 0 → ⊥)) f g
      → (turn s p st c f a ≡ turn s p st c g b) ⊎ OneTooMany s (turn s p st c f a)
  turn_raised false f g h = inl refl
  turn_raised true f g (inl e) = subst (λ (n : ℕ). (turn s p st true f a ≡ turn s p st true n b) ⊎ OneTooMany s (turn s p st true f a)) e (same_fault f)
  turn_raised true f g (inr (e, (t, o))) = inr (record { tag = p; says_nine = ap (λ (n : ℕ). turn s p st true n a) e; event = eqb-true _ _ t; no_init = o })

module _ (l m : ℕ) (low : l ≤ m) (s : List ℕ) where
  pub fields_raised : (k p : ℕ) (st : State) → (fields_up_to l s k p st ≡ fields_up_to m s k p st) ⊎ OneTooMany s (fields_up_to l s k p st)
  unfolding fields_up_to
  fields_raised zero p st = inl refl
  fields_raised (suc k) p st =
      turn_raised s p st _ _ (fields_raised k (next_at s p) (after s p st)) (ltb p (length s)) _ _
      (fault_raised _ _ (room_raised l m low st.got.events) (room_inits l m st.got.events) s p st)

pub raised_keeps : RaisedKeeps
unfolding parse_up_to
raised_keeps l m low s = go (ltb max_bytes (length s))
  where
    a : Parsed
    a = fields_up_to l s (suc (length s)) 0 blank

    go : (c : Bool) → (cond c (refused 1 0) a ≡ cond c (refused 1 0) (fields_up_to m s (suc (length s)) 0 blank)) ⊎ OneTooMany s (cond c (refused 1 0) a)
    go true = inl refl
    go false = fields_raised l m low s (suc (length s)) 0 blank

fields_limit : (s : List ℕ) (k p : ℕ) (st : State) → fields_up_to max_others s k p st ≡ fields_from s k p st
unfolding fields_up_to fields_from room_up_to room_in
fields_limit s zero p st = refl
fields_limit s (suc k) p st = ap (turn s p st (ltb p (length s)) (fault_at s p st)) (fields_limit s k (next_at s p) (after s p st))

pub at_the_limit : AtTheLimit
unfolding parse_up_to parse
at_the_limit s = ap (cond (ltb max_bytes (length s)) (refused 1 0)) (fields_limit s (suc (length s)) 0 blank)

pub from_sixteen : FromSixteen
from_sixteen s =
    record {
      read = λ x e. ⊎_elim (now e) (λ z. not_whole (sym z.says_nine ∙ e)) kept;
      refused_so = λ n p d e. ⊎_elim (now e) (λ z. absurd (d (nine (sym z.says_nine ∙ e)))) kept;
      nine_so = λ p d e. ⊎_elim (now e) (λ z. absurd (d (subst (OneTooMany s) e z))) kept;
    }
  where
    kept : (parse_up_to 16 s ≡ parse_up_to 18 s) ⊎ OneTooMany s (parse_up_to 16 s)
    kept = raised_keeps 16 18 (omega arith) s

    now : {a : Parsed} → parse_up_to 16 s ≡ a → parse_up_to 16 s ≡ parse_up_to 18 s → parse s ≡ a
    now e q = sym (at_the_limit s) ∙ sym q ∙ e

    nine : {n p r : ℕ} → refused 9 r ≡ refused n p → n ≡ 9
    nine e = cc

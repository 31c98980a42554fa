-- `plain::fields` meets its contract: each step stands where the one before it left off, and the tables carry what they held. Assumes nothing.
use mathlib.Core.Path.{◌≡◌, refl, sym, subst}
use mathlib.Core.List.{List}
use Prim.Native.Nat.{ℕ}
use native.Mathlib.Omega.{arith}
use lib.ListN.{length}
use Rattle.tables.specs.Tables.{columns}
use Rattle.spot.specs.Between.{Tabled}
use Rattle.spot.proofs.TabledLaws.{tabled_shaped, few_events}
use Rattle.plain.proofs.GrowingLaws.{head_left, init_left, other_left, row_left}
use borrow.Author.Rules.{rules}
use Rattle.plain.proofs.fields.Goals as goal

pub returns-then-s-gt-MAX_BYTES : goal.returns-then-s-gt-MAX_BYTES
returns-then-s-gt-MAX_BYTES c = record { fit = λ h. absurd (let l = c.if-s-gt-MAX_BYTES.true in omega (arith, h, l)); long = λ h. (c.start.ensures, c.clear.ensures, refl, refl) }

pub inits-requires : goal.inits-requires
inits-requires c = rw c.clear.ensures c.begin.ensures.0

pub events-requires : goal.events-requires
events-requires c = c.inits.ensures.0.stands

pub rows-requires : goal.rows-requires
rows-requires c =
    let s = c.args.s.now in
    let t = c.args.t.now in
    let q = c.args.q.now in
    let long : length t ≡ columns = search rules in
    (c.events.ensures.0.stands, tabled_shaped s c.events.result.x _ t _ q q (c.events.ensures.0.carried q t q (c.inits.ensures.0.carried q t q (subst (λ (a : List ℕ). Tabled s c.begin.result.x a t t q q) (sym c.clear.ensures) (c.begin.ensures.1 t q)))) long (few_events _ _ _ _ _ c.events.ensures.0.stands.turn.between))

pub returns : goal.returns
returns c =
    let s = c.args.s.now in
    let t = c.args.t.now in
    let q = c.args.q.now in
    record {
      fit = λ h.
          record {
            stands = c.rows.ensures.0;
            tabled = c.rows.ensures.1 t q (c.events.ensures.0.carried q t q (c.inits.ensures.0.carried q t q (subst (λ (a : List ℕ). Tabled s c.begin.result.x a t t q q) (sym c.clear.ensures) (c.begin.ensures.1 t q))));
            no_head_lem = head_left c.begin.ensures.2 c.inits.ensures.1 c.events.ensures.1 c.rows.ensures.2;
            no_init = init_left c.inits.ensures.1 c.events.ensures.1 c.rows.ensures.2;
            no_other = other_left c.events.ensures.1 c.rows.ensures.2;
            no_row = row_left c.begin.ensures.2 c.inits.ensures.1 c.events.ensures.1 c.rows.ensures.2;
          };
      long = λ h. absurd (let l = c.if-s-gt-MAX_BYTES.false in omega (arith, h, l));
    }

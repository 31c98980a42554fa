-- The laws of specs/Weighed.antt. Assumes nothing.
--     weighed_broken, weighed_kept     how the code's answers are made
--     weighed_unique                   two conforming answers are equal, both buffers too
use mathlib.Core.Path.{◌≡◌, refl, sym, ◌∙◌, subst}
use mathlib.Core.List.{List}
use Prim.Native.Nat.{ℕ}
use lib.ListN.{replicate}
use Rattle.entries.specs.declared.Counts.{Counts}
use Rattle.sets.specs.Mask.{slots}
use Rattle.marks.specs.Table.{cleared}
use Rattle.answer.specs.declared.Answer.{Answer}
use Rattle.answer.specs.declared.Answer.TheVariants.{Broken}
use Rattle.std.specs.Prelude.{Ok, Err}
use Rattle.answer.specs.declared.Breach.{Breach}
use Rattle.answer.specs.Rules.{Rule, unbreached}
use Rattle.prepare.specs.Prepared.{Ruled}
use Rattle.prepare.proofs.PreparedLaws.{ruled_unique}
use Rattle.arrange.specs.Arranged.{Arranged}
use Rattle.arrange.proofs.ArrangedLaws.{arranged_unique}
use Rattle.weigh.specs.Weighed.{broken_in, Decided, Weighed}

module _ {s : List ℕ} {x : Counts} {t q succ pred : List ℕ} {rule : Rule} (w : Ruled s x t q (replicate slots 0) succ (replicate slots 0) pred rule)
    {need : ℕ} {scratch order : List ℕ} where
  -- what follows from the rule that was found
  weighed : {r : Answer} {scratch' order' : List ℕ} → Decided x.inits x.events x.rows t q w.after w.before need scratch order rule r scratch' order'
      → Weighed s x t q need scratch order r scratch' order'
  weighed {r} {scratch'} {order'} d =
      record {
        p = w.p;
        pairs = w.pairs;
        succ = w.after;
        pred = w.before;
        ordered = w.ordered;
        decided = subst (λ (i : Rule). Decided x.inits x.events x.rows t q w.after w.before need scratch order i r scratch' order') w.says d;
      }

  pub weighed_broken : {e : Breach} → rule ≡ Err e → {scratch' : List ℕ} → scratch' ≡ cleared need scratch
      → Weighed s x t q need scratch order (Broken e.number e.names) scratch' order
  weighed_broken {e} k {scratch'} c =
      weighed (subst (λ (i : Rule). Decided x.inits x.events x.rows t q w.after w.before need scratch order i (Broken e.number e.names) scratch' order) (sym k) (record { says = refl; scratch_cleared = c; order_kept = refl }))

  pub weighed_kept : rule ≡ unbreached → {r : Answer} {scratch' order' : List ℕ} → Arranged x.inits x.events x.rows t q succ pred scratch order r scratch' order'
      → Weighed s x t q need scratch order r scratch' order'
  weighed_kept k {r} {scratch'} {order'} a =
      let m = w.left k in
      weighed (subst (λ (i : Rule). Decided x.inits x.events x.rows t q w.after w.before need scratch order i r scratch' order') (sym k)
      (subst (λ (z : List ℕ). Arranged x.inits x.events x.rows t q w.after z scratch order r scratch' order') m.1
      (subst (λ (z : List ℕ). Arranged x.inits x.events x.rows t q z pred scratch order r scratch' order') m.0 a)))

-- ---- agreement

module _ (k n m : ℕ) (t q succ pred : List ℕ) (need : ℕ) (scratch order : List ℕ) {r a : Answer} {s s' o o' : List ℕ} where
  decided_unique : (rule : Rule) → Decided k n m t q succ pred need scratch order rule r s o → Decided k n m t q succ pred need scratch order rule a s' o'
      → (r ≡ a) × (s ≡ s') × (o ≡ o')
  decided_unique (Ok u) x y = arranged_unique x y
  decided_unique (Err e) x y =
      (x.says ∙ sym y.says, x.scratch_cleared ∙ sym y.scratch_cleared, x.order_kept ∙ sym y.order_kept)

module _ {s : List ℕ} {x : Counts} {t q : List ℕ} {need : ℕ} {scratch order : List ℕ} {r a : Answer} {c c' o o' : List ℕ}
    (w : Weighed s x t q need scratch order r c o) (v : Weighed s x t q need scratch order a c' o') where
  -- what was found is the same
  ruled : {b : Answer} {d p : List ℕ} (u : Weighed s x t q need scratch order b d p)
      → Ruled s x t q (replicate slots 0) u.succ (replicate slots 0) u.pred (broken_in x t q u.succ u.pred)
  ruled u = record { p = u.p; pairs = u.pairs; after = u.succ; before = u.pred; ordered = u.ordered; says = refl; left = λ k. (refl, refl) }

  pub weighed_unique : (r ≡ a) × (c ≡ c') × (o ≡ o')
  unfolding ruled
  weighed_unique =
      let y = ruled_unique (ruled w) (ruled v) in
      let e : v.succ ≡ w.succ = y.after in
      let f : v.pred ≡ w.pred = y.before in
      decided_unique x.inits x.events x.rows t q w.succ w.pred need scratch order
      (broken_in x t q w.succ w.pred) w.decided
      (rw (e, f) at v.decided)

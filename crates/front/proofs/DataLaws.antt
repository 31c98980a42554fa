-- The data of an event, byte by byte in the sheet. Assumes nothing.
--     saw_byte, wrote_byte          the byte seen, the byte written, of an access that covers it
use mathlib.Core.Path.{◌≡◌, ap, ◌∙◌}
use mathlib.Core.Logic.{◌⊎◌, inl, inr}
use mathlib.Core.Bool.{Bool, true, false, cond}
use mathlib.Core.List.{List}
use Prim.Native.Nat.{ℕ, ◌+◌, ◌-◌}
use native.Mathlib.Omega.{arith}
use borrow.Author.Tests.{eqb-true, ne_eqb}
use lib.Dec.{eqb}
use lib.ListN.{get_or}
use lib.Seq.{get_or-drop}
use Rattle.basis.proofs.BoolLaws.{or_either}
use Rattle.format.specs.declared.Shape.{Shape}
use Rattle.format.specs.Shape.{reads, writes, covers}
use Rattle.format.specs.Event.{saw, wrote}
use Rattle.format.specs.Field.{field_bytes, rest_at}
use Rattle.format.specs.Layout.{event_bytes, shape_of, event_of}
use Rattle.format.proofs.LayoutLaws.{saw_some, wrote_write, wrote_both}
use Rattle.row_data.specs.RowData.{data_at, passed}

module _ (s : List ℕ) (p edition n : ℕ) where
  abbrev v : List ℕ
  v = rest_at s p

  abbrev b : Shape
  b = shape_of edition v

  module _ (c : covers b n ≡ true) where
    pub saw_byte : reads b ≡ true → saw (event_of edition v) n ≡ get_or s (data_at edition p b n) 0
    saw_byte r = saw_some edition v n c r ∙ get_or-drop (p + field_bytes) s (event_bytes edition + (n - b.start)) 0 ∙ ap (λ (i : ℕ). get_or s i 0) (omega arith)

    pub wrote_byte : writes b ≡ true → wrote (event_of edition v) n ≡ get_or s (data_at edition p b n + passed b) 0
    unfolding writes
    wrote_byte r = go (or_either (eqb b.kind 2) (eqb b.kind 3) r)
      where
        go : (eqb b.kind 2 ≡ true) ⊎ (eqb b.kind 3 ≡ true) → wrote (event_of edition v) n ≡ get_or s (data_at edition p b n + passed b) 0
        go (inl e) =
            let q = eqb-true b.kind 2 e in
            let f : eqb b.kind 3 ≡ false = ne_eqb b.kind 3 (λ (d : b.kind ≡ 3). omega arith) in
            let g : passed b ≡ 0 = ap (λ (t : Bool). cond t b.width 0) f in
            wrote_write edition v n c e ∙ get_or-drop (p + field_bytes) s (event_bytes edition + (n - b.start)) 0 ∙ ap (λ (i : ℕ). get_or s i 0) (omega (arith, g))
        go (inr e) =
            let g : passed b ≡ b.width = ap (λ (t : Bool). cond t b.width 0) e in
            wrote_both edition v n c e ∙ get_or-drop (p + field_bytes) s (event_bytes edition + (n - b.start) + b.width) 0 ∙ ap (λ (i : ℕ). get_or s i 0) (omega (arith, g))

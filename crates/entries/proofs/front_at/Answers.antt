-- `entries::front_at` meets its contract: as many bytes as the edition has before the data, or all that is left where these are fewer. Assumes nothing.
use mathlib.Core.Path.{◌≡◌, sym, ap, ◌∙◌}
use Prim.Native.Nat.{ℕ, ◌+◌, ◌-◌}
use native.Mathlib.Omega.{arith}
use lib.ListN.{take, length-drop}
use lib.Seq.{take_all}
use Rattle.format.specs.Field.{rest_at}
use Rattle.format.specs.Layout.{event_bytes}
use Rattle.entries.proofs.front_at.Goals as goal

pub returns-then-end-s : goal.returns-then-end-s
returns-then-end-s c =
    let a = c.args in
    let e = c.event_bytes.ensures in
    let n : a.at + 3 + c.event_bytes.result - (a.at + 3) ≡ event_bytes a.edition = omega arith in
    ap (λ (k : ℕ). take k (rest_at a.s.now a.at)) n

pub returns : goal.returns
returns c =
    let a = c.args in
    let e = c.event_bytes.ensures in
    let h = c.if-end-s.false in
    c.rest_at.ensures ∙ sym (take_all (event_bytes a.edition) (rest_at a.s.now a.at) (simp length-drop (omega arith)))

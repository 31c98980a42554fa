-- What specs/Demands.antt claims. Assumes nothing.
use mathlib.Core.Path.{◌≡◌, refl}
use Prim.Native.Nat.{◌≤◌}
use native.Mathlib.Omega.{arith}
use borrow.Author.Tests.{le-ltb}
use lib.ListN.{length}
use Rattle.parse.proofs.PromiseLaws.{promise}
use Rattle.answer.proofs.ReadLaws.{kind_in_lem, number_in_lem, place_in_lem}
use Rattle.lend.specs.Demands.{LendsTheTable, RefusedKeeps, ShortOfWhole, AmpleRoom, LendingAgree, TableFitsWord, RefusedWord}
use Rattle.encode.specs.Table.{table_of}
use Rattle.encode.specs.Lend.{Slices, slices_of}
use Rattle.encode.proofs.RoomLaws.{events_room, data_room, rows_room, pairs_room}
use Rattle.lend.specs.Lending.{unlent, given, no_buffer, short_by, short_of}
use Rattle.lend.proofs.LendingLaws.{lending_unique}
use Rattle.lend.proofs.WaysLaws.{lending_ways, refused_kept, refused_small, short_whole, table_back, table_fits}

pub lends_the_table : LendsTheTable
lends_the_table s entry exit e d r p w = table_back (lending_ways s entry exit (given e d r p) w) refl

pub refused_keeps : RefusedKeeps
refused_keeps s entry exit n p w = refused_kept (lending_ways s entry exit (unlent n p) w) refl

pub short_of_whole : ShortOfWhole
short_of_whole s entry exit k w = short_whole (lending_ways s entry exit (unlent 15 k) w) refl

nothing_short : (l b : Slices) → length l.head ≤ length b.head → length l.events ≤ length b.events → length l.bytes ≤ length b.bytes
    → length l.rows ≤ length b.rows → length l.pairs ≤ length b.pairs → short_of l b ≡ no_buffer
unfolding short_by
nothing_short l b h e d r p =
    rw (le-ltb (length b.head) (length l.head) h)
    (rw (le-ltb (length b.events) (length l.events) e)
    (rw (le-ltb (length b.bytes) (length l.bytes) d)
    (rw (le-ltb (length b.rows) (length l.rows) r)
    (rw (le-ltb (length b.pairs) (length l.pairs) p) refl))))

pub ample_room : AmpleRoom
unfolding table_of
ample_room s entry exit k a w =
    let z = short_of_whole s entry exit k w in
    let x = z.execution in
    let v = promise s x z.says in
    let e = events_room x v in
    let d = data_room x v in
    let r = rows_room x v in
    let p = pairs_room x v in
    let f =
    nothing_short (slices_of (table_of x)) entry a.head (omega (arith, e, a.events)) (omega (arith, d, a.bytes)) (omega (arith, r, a.rows)) (omega (arith, p, a.pairs)) in
    omega (arith, f, z.names, z.one)

pub agree : LendingAgree
agree s entry q r exit exit' a b = lending_unique a b

pub fits_word : TableFitsWord
fits_word s entry exit e d r p w = table_fits (lending_ways s entry exit (given e d r p) w) refl

pub refused_word : RefusedWord
refused_word s entry exit n p w =
    let b = refused_small (lending_ways s entry exit (unlent n p) w) refl in
    (kind_in_lem 1 n p (omega arith) b.0 b.1, number_in_lem 1 n p (omega arith) b.0 b.1, place_in_lem 1 n p (omega arith) b.0 b.1)

-- What reading standard input comes to. No contract can say which bytes a call of C's reads, so this says only where they stand.
--     Within got buf     the bytes read stand at the front of buf, those before a read that failed too
-- Assumes nothing.
use Rattle.std.specs.Prelude.{◌≡◌, List, ℕ, ◌≤◌, length, take, Result, Ok, Err}
use Rattle.stdin_bytes.specs.declared.Cut.{Cut}

abbrev pub Within : Result ℕ Cut → List ℕ → Type 0
Within (Ok n) buf = (n ≤ length buf) × (n ≡ length (take n buf))
Within (Err c) buf = c.read ≤ length buf

-- `stdin_bytes::read_full` is safe, ends and stays within the buffer. The invariant: n bytes of it are read. The measure is what is left of it: each
-- turn reads a byte or more. Rests on the read of std.
use mathlib.Core.Path.{sym}
use lib.Seq.{length-take-le}
use borrow.Author.Rules.{rules}
use Rattle.stdin_bytes.proofs.read_full.Goals as goal

pub returns : goal.returns
returns c = (search rules, sym (length-take-le _ _ (search rules)))

-- More entries in the form of specs/Litmus.antt: those of 01's litmus table that are not marked (P), its "Mistakes that look right", and ours, which
-- see faults in the rules that 01's table does not. Tested by one statement in proofs/AllEntries.antt. The rows are printed by tests/make, as those of
-- specs/Litmus.antt. Assumes nothing.
--     further     the table
use Rattle.std.specs.Prelude.{List, [], ◌∷◌, replicate}
use Rattle.answer.specs.declared.Names.TheVariants.{Row as OfRow, Event as OfEvent, Between, Nobody, Torn}
use Rattle.answer.specs.declared.Settled.TheVariants.{Orderly, Unsettled}
use Rattle.answer.specs.declared.Answer.TheVariants.{Refused, Broken, Consistent}
use Rattle.model.specs.Litmus.{sheet, head, unordered, sc, init, read, write, modify, marker, head_2, tear, row, pair, Entry, lending, judged, example}

unfoldable pub further : List Entry
further =
    -- 05-message-passing: 5. x reads 1: orderly, 0 1 2 3 4. (As 4 otherwise.)
    judged (sheet (head 2 2 ∷ init 0 (0 ∷ 0 ∷ []) ∷ write 1 unordered 0 (1 ∷ []) ∷ write 1 sc 1 (1 ∷ []) ∷ read 2 sc 1 (1 ∷ []) ∷ read 2 unordered 0 (1 ∷ []) ∷ row 3 1 2 ∷ row 4 0 1 ∷ [])) (Consistent Orderly) (0 ∷ 1 ∷ 2 ∷ 3 ∷ 4 ∷ [])
    -- 06-message-passing-unordered: 6. As 4, all unordered: unsettled 1 4, order 0 1 2 3 4.
    ∷ judged (sheet (head 2 2 ∷ init 0 (0 ∷ 0 ∷ []) ∷ write 1 unordered 0 (1 ∷ []) ∷ write 1 unordered 1 (1 ∷ []) ∷ read 2 unordered 1 (1 ∷ []) ∷ read 2 unordered 0 (0 ∷ []) ∷ row 3 1 2 ∷ row 4 0 0 ∷ [])) (Consistent (Unsettled 1 4)) (0 ∷ 1 ∷ 2 ∷ 3 ∷ 4 ∷ [])
    -- 13-may-tear: 13. At 1, memory 3: unsettled 1 2, order 0 1 2 3. (As 12 otherwise.)
    ∷ judged (sheet (head 3 3 ∷ init 0 (0 ∷ 0 ∷ 0 ∷ []) ∷ write 1 unordered 1 (1 ∷ 1 ∷ []) ∷ write 2 unordered 1 (2 ∷ 2 ∷ []) ∷ read 3 unordered 1 (1 ∷ 2 ∷ []) ∷ row 3 1 1 ∷ row 3 2 2 ∷ [])) (Consistent (Unsettled 1 2)) (0 ∷ 1 ∷ 2 ∷ 3 ∷ [])
    -- 16a-eighteen-others: 16, as 02 §6 moves it. 18 other events with 32,768 bytes of scratch: judged; with 32,767: refused 12. (Each of eight agents writes its own byte and reads it, the last one twice. The program always lends 32,768 bytes; 32,767 are tried by the harness's tests.)
    ∷ judged (sheet (head 8 8 ∷ init 0 (replicate 8 0) ∷ write 1 unordered 0 (1 ∷ []) ∷ read 1 unordered 0 (1 ∷ []) ∷ write 2 unordered 1 (2 ∷ []) ∷ read 2 unordered 1 (2 ∷ []) ∷ write 3 unordered 2 (3 ∷ []) ∷ read 3 unordered 2 (3 ∷ []) ∷ write 4 unordered 3 (4 ∷ []) ∷ read 4 unordered 3 (4 ∷ []) ∷ write 5 unordered 4 (5 ∷ []) ∷ read 5 unordered 4 (5 ∷ []) ∷ write 6 unordered 5 (6 ∷ []) ∷ read 6 unordered 5 (6 ∷ []) ∷ write 7 unordered 6 (7 ∷ []) ∷ read 7 unordered 6 (7 ∷ []) ∷ write 8 unordered 7 (8 ∷ []) ∷ read 8 unordered 7 (8 ∷ []) ∷ write 8 unordered 7 (9 ∷ []) ∷ read 8 unordered 7 (9 ∷ []) ∷ row 2 0 1 ∷ row 4 1 3 ∷ row 6 2 5 ∷ row 8 3 7 ∷ row 10 4 9 ∷ row 12 5 11 ∷ row 14 6 13 ∷ row 16 7 15 ∷ row 18 7 17 ∷ [])) (Consistent Orderly) (0 ∷ 1 ∷ 2 ∷ 3 ∷ 4 ∷ 5 ∷ 6 ∷ 7 ∷ 8 ∷ 9 ∷ 10 ∷ 11 ∷ 12 ∷ 13 ∷ 14 ∷ 15 ∷ 16 ∷ 17 ∷ 18 ∷ [])
    -- 16a-eighteen-others, lent a scratch of 32767 and an order buffer of 22
    ∷ lending 32767 22 (sheet (head 8 8 ∷ init 0 (replicate 8 0) ∷ write 1 unordered 0 (1 ∷ []) ∷ read 1 unordered 0 (1 ∷ []) ∷ write 2 unordered 1 (2 ∷ []) ∷ read 2 unordered 1 (2 ∷ []) ∷ write 3 unordered 2 (3 ∷ []) ∷ read 3 unordered 2 (3 ∷ []) ∷ write 4 unordered 3 (4 ∷ []) ∷ read 4 unordered 3 (4 ∷ []) ∷ write 5 unordered 4 (5 ∷ []) ∷ read 5 unordered 4 (5 ∷ []) ∷ write 6 unordered 5 (6 ∷ []) ∷ read 6 unordered 5 (6 ∷ []) ∷ write 7 unordered 6 (7 ∷ []) ∷ read 7 unordered 6 (7 ∷ []) ∷ write 8 unordered 7 (8 ∷ []) ∷ read 8 unordered 7 (8 ∷ []) ∷ write 8 unordered 7 (9 ∷ []) ∷ read 8 unordered 7 (9 ∷ []) ∷ row 2 0 1 ∷ row 4 1 3 ∷ row 6 2 5 ∷ row 8 3 7 ∷ row 10 4 9 ∷ row 12 5 11 ∷ row 14 6 13 ∷ row 16 7 15 ∷ row 18 7 17 ∷ [])) (Refused 12 0) []
    -- 16a-eighteen-others, lent a scratch of 32767 and an order buffer of 18
    ∷ lending 32767 18 (sheet (head 8 8 ∷ init 0 (replicate 8 0) ∷ write 1 unordered 0 (1 ∷ []) ∷ read 1 unordered 0 (1 ∷ []) ∷ write 2 unordered 1 (2 ∷ []) ∷ read 2 unordered 1 (2 ∷ []) ∷ write 3 unordered 2 (3 ∷ []) ∷ read 3 unordered 2 (3 ∷ []) ∷ write 4 unordered 3 (4 ∷ []) ∷ read 4 unordered 3 (4 ∷ []) ∷ write 5 unordered 4 (5 ∷ []) ∷ read 5 unordered 4 (5 ∷ []) ∷ write 6 unordered 5 (6 ∷ []) ∷ read 6 unordered 5 (6 ∷ []) ∷ write 7 unordered 6 (7 ∷ []) ∷ read 7 unordered 6 (7 ∷ []) ∷ write 8 unordered 7 (8 ∷ []) ∷ read 8 unordered 7 (8 ∷ []) ∷ write 8 unordered 7 (9 ∷ []) ∷ read 8 unordered 7 (9 ∷ []) ∷ row 2 0 1 ∷ row 4 1 3 ∷ row 6 2 5 ∷ row 8 3 7 ∷ row 10 4 9 ∷ row 12 5 11 ∷ row 14 6 13 ∷ row 16 7 15 ∷ row 18 7 17 ∷ [])) (Refused 12 0) []
    -- 16a-eighteen-others, lent a scratch of 32768 and an order buffer of 18
    ∷ lending 32768 18 (sheet (head 8 8 ∷ init 0 (replicate 8 0) ∷ write 1 unordered 0 (1 ∷ []) ∷ read 1 unordered 0 (1 ∷ []) ∷ write 2 unordered 1 (2 ∷ []) ∷ read 2 unordered 1 (2 ∷ []) ∷ write 3 unordered 2 (3 ∷ []) ∷ read 3 unordered 2 (3 ∷ []) ∷ write 4 unordered 3 (4 ∷ []) ∷ read 4 unordered 3 (4 ∷ []) ∷ write 5 unordered 4 (5 ∷ []) ∷ read 5 unordered 4 (5 ∷ []) ∷ write 6 unordered 5 (6 ∷ []) ∷ read 6 unordered 5 (6 ∷ []) ∷ write 7 unordered 6 (7 ∷ []) ∷ read 7 unordered 6 (7 ∷ []) ∷ write 8 unordered 7 (8 ∷ []) ∷ read 8 unordered 7 (8 ∷ []) ∷ write 8 unordered 7 (9 ∷ []) ∷ read 8 unordered 7 (9 ∷ []) ∷ row 2 0 1 ∷ row 4 1 3 ∷ row 6 2 5 ∷ row 8 3 7 ∷ row 10 4 9 ∷ row 12 5 11 ∷ row 14 6 13 ∷ row 16 7 15 ∷ row 18 7 17 ∷ [])) (Refused 13 0) []
    -- 16b-nineteenth-event: 16. (..) a 19th event: refused 9. (16a with a 19th event: head 6 bytes, init 16, eighteen events of 9, so its tag is at 184.)
    ∷ judged (sheet (head 8 8 ∷ init 0 (replicate 8 0) ∷ write 1 unordered 0 (1 ∷ []) ∷ read 1 unordered 0 (1 ∷ []) ∷ write 2 unordered 1 (2 ∷ []) ∷ read 2 unordered 1 (2 ∷ []) ∷ write 3 unordered 2 (3 ∷ []) ∷ read 3 unordered 2 (3 ∷ []) ∷ write 4 unordered 3 (4 ∷ []) ∷ read 4 unordered 3 (4 ∷ []) ∷ write 5 unordered 4 (5 ∷ []) ∷ read 5 unordered 4 (5 ∷ []) ∷ write 6 unordered 5 (6 ∷ []) ∷ read 6 unordered 5 (6 ∷ []) ∷ write 7 unordered 6 (7 ∷ []) ∷ read 7 unordered 6 (7 ∷ []) ∷ write 8 unordered 7 (8 ∷ []) ∷ read 8 unordered 7 (8 ∷ []) ∷ write 8 unordered 7 (9 ∷ []) ∷ read 8 unordered 7 (9 ∷ []) ∷ write 8 unordered 7 (10 ∷ []) ∷ row 2 0 1 ∷ row 4 1 3 ∷ row 6 2 5 ∷ row 8 3 7 ∷ row 10 4 9 ∷ row 12 5 11 ∷ row 14 6 13 ∷ row 16 7 15 ∷ row 18 7 17 ∷ [])) (Refused 9 184) []
    -- 16c-head-alone: 16. (..) The head alone: refused 10 at 6.
    ∷ judged (sheet (head 1 1 ∷ [])) (Refused 10 6) []
    -- 16d-agents-8-memory-64: 16. (..) Agents 8 and memory 64 pass (Each agent reads the last byte.)
    ∷ judged (sheet (head 8 64 ∷ init 0 (replicate 64 0) ∷ read 1 sc 63 (0 ∷ []) ∷ read 2 sc 63 (0 ∷ []) ∷ read 3 sc 63 (0 ∷ []) ∷ read 4 sc 63 (0 ∷ []) ∷ read 5 sc 63 (0 ∷ []) ∷ read 6 sc 63 (0 ∷ []) ∷ read 7 sc 63 (0 ∷ []) ∷ read 8 sc 63 (0 ∷ []) ∷ row 1 63 0 ∷ row 2 63 0 ∷ row 3 63 0 ∷ row 4 63 0 ∷ row 5 63 0 ∷ row 6 63 0 ∷ row 7 63 0 ∷ row 8 63 0 ∷ [])) (Consistent Orderly) (0 ∷ 1 ∷ 2 ∷ 3 ∷ 4 ∷ 5 ∷ 6 ∷ 7 ∷ 8 ∷ [])
    -- 16e-agents-9: 16. (..) 9 and 65 are refused 5.
    ∷ judged (sheet (head 9 64 ∷ init 0 (0 ∷ []) ∷ read 1 sc 0 (0 ∷ []) ∷ row 1 0 0 ∷ [])) (Refused 5 0) []
    -- 16f-memory-65: 16. (..) 9 and 65 are refused 5.
    ∷ judged (sheet (head 8 65 ∷ init 0 (0 ∷ []) ∷ read 1 sc 0 (0 ∷ []) ∷ row 1 0 0 ∷ [])) (Refused 5 0) []
    -- 17-equal-starts-are-not-equal-ranges: Mistakes that look right: calling equal starts equal ranges. An sc write of width 2 at 0 by A1 and an sc read of width 1 at 0 seeing 0 by A2 is `consistent unsettled 1 2 then 0 1 2`.
    ∷ judged (sheet (head 2 2 ∷ init 0 (0 ∷ 0 ∷ []) ∷ write 1 sc 0 (1 ∷ 1 ∷ []) ∷ read 2 sc 0 (0 ∷ []) ∷ row 2 0 0 ∷ [])) (Consistent (Unsettled 1 2)) (0 ∷ 1 ∷ 2 ∷ [])
    -- 21-synchronised-row: Beside 01's table, where no entry needs (a): A1 x=1 sc, A2 x=2 sc, A3 x reads 1 sc.
    ∷ judged (sheet (head 3 1 ∷ init 0 (0 ∷ []) ∷ write 1 sc 0 (1 ∷ []) ∷ write 2 sc 0 (2 ∷ []) ∷ read 3 sc 0 (1 ∷ []) ∷ row 3 0 1 ∷ [])) (Consistent Orderly) (0 ∷ 1 ∷ 3 ∷ 2 ∷ [])
    -- 22-two-readers-disagree: Beside 01's table: the same two writes as 21, A3 reads x 1 then 2, A4 reads x 2 then 1, all sc.
    ∷ judged (sheet (head 4 1 ∷ init 0 (0 ∷ []) ∷ write 1 sc 0 (1 ∷ []) ∷ write 2 sc 0 (2 ∷ []) ∷ read 3 sc 0 (1 ∷ []) ∷ read 3 sc 0 (2 ∷ []) ∷ read 4 sc 0 (2 ∷ []) ∷ read 4 sc 0 (1 ∷ []) ∷ row 3 0 1 ∷ row 4 0 2 ∷ row 5 0 2 ∷ row 6 0 1 ∷ [])) (Broken 26 Nobody) []
    -- 23-torn-between-write-and-init: Beside 01's table: A1 writes 01 01 unordered at 0 width 2, A2 reads 01 00 (second byte from the init).
    ∷ judged (sheet (head 2 2 ∷ init 0 (0 ∷ 0 ∷ []) ∷ write 1 unordered 0 (1 ∷ 1 ∷ []) ∷ read 2 unordered 0 (1 ∷ 0 ∷ []) ∷ row 2 0 1 ∷ row 2 1 0 ∷ [])) (Consistent (Unsettled 1 2)) (0 ∷ 1 ∷ 2 ∷ [])
    -- 24-apart: Beside 01's table: A1 x=1 unordered, A2 y reads 0 unordered.
    ∷ judged (sheet (head 2 2 ∷ init 0 (0 ∷ 0 ∷ []) ∷ write 1 unordered 0 (1 ∷ []) ∷ read 2 unordered 1 (0 ∷ []) ∷ row 2 1 0 ∷ [])) (Consistent Orderly) (0 ∷ 1 ∷ 2 ∷ [])
    -- f02-write-sc-read-unordered: Further entry 2: A1 x=1 sc, A2 x reads 0 unordered
    ∷ judged (sheet (head 2 1 ∷ init 0 (0 ∷ []) ∷ write 1 sc 0 (1 ∷ []) ∷ read 2 unordered 0 (0 ∷ []) ∷ row 2 0 0 ∷ [])) (Consistent (Unsettled 1 2)) (0 ∷ 1 ∷ 2 ∷ [])
    -- f03-write-unordered-read-sc: Further entry 3: A1 x=1 unordered, A2 x reads 1 sc
    ∷ judged (sheet (head 2 1 ∷ init 0 (0 ∷ []) ∷ write 1 unordered 0 (1 ∷ []) ∷ read 2 sc 0 (1 ∷ []) ∷ row 2 0 1 ∷ [])) (Consistent (Unsettled 1 2)) (0 ∷ 1 ∷ 2 ∷ [])
    -- f04-two-reads: Further entry 4: A1 x reads 0, A2 x reads 0, unordered
    ∷ judged (sheet (head 2 1 ∷ init 0 (0 ∷ []) ∷ read 1 unordered 0 (0 ∷ []) ∷ read 2 unordered 0 (0 ∷ []) ∷ row 1 0 0 ∷ row 2 0 0 ∷ [])) (Consistent Orderly) (0 ∷ 1 ∷ 2 ∷ [])
    -- f05-message-passing-agents-exchanged: Further entry 5: 5 with the agents exchanged
    ∷ judged (sheet (head 2 2 ∷ init 0 (0 ∷ 0 ∷ []) ∷ read 1 sc 1 (1 ∷ []) ∷ read 1 unordered 0 (1 ∷ []) ∷ write 2 unordered 0 (1 ∷ []) ∷ write 2 sc 1 (1 ∷ []) ∷ row 1 1 4 ∷ row 2 0 3 ∷ [])) (Consistent Orderly) (0 ∷ 3 ∷ 4 ∷ 1 ∷ 2 ∷ [])
    -- f06-markers-without-first-pair: Further entry 6: 15 without its first pair
    ∷ judged (sheet (head 3 1 ∷ init 0 (0 ∷ []) ∷ write 1 sc 0 (1 ∷ []) ∷ marker 1 ∷ write 2 sc 0 (2 ∷ []) ∷ marker 2 ∷ marker 3 ∷ read 3 unordered 0 (1 ∷ []) ∷ row 6 0 1 ∷ pair 4 5 ∷ [])) (Consistent (Unsettled 1 6)) (0 ∷ 1 ∷ 2 ∷ 3 ∷ 4 ∷ 5 ∷ 6 ∷ [])
    -- f07-markers-without-second-pair: Further entry 7: 15 without its second pair
    ∷ judged (sheet (head 3 1 ∷ init 0 (0 ∷ []) ∷ write 1 sc 0 (1 ∷ []) ∷ marker 1 ∷ write 2 sc 0 (2 ∷ []) ∷ marker 2 ∷ marker 3 ∷ read 3 unordered 0 (1 ∷ []) ∷ row 6 0 1 ∷ pair 2 5 ∷ [])) (Consistent (Unsettled 3 6)) (0 ∷ 1 ∷ 2 ∷ 3 ∷ 4 ∷ 5 ∷ 6 ∷ [])
    -- f08-markers-first-write-unordered: Further entry 8: 15, first write unordered
    ∷ judged (sheet (head 3 1 ∷ init 0 (0 ∷ []) ∷ write 1 unordered 0 (1 ∷ []) ∷ marker 1 ∷ write 2 sc 0 (2 ∷ []) ∷ marker 2 ∷ marker 3 ∷ read 3 unordered 0 (1 ∷ []) ∷ row 6 0 1 ∷ pair 2 5 ∷ pair 4 5 ∷ [])) (Consistent (Unsettled 1 3)) (0 ∷ 1 ∷ 2 ∷ 3 ∷ 4 ∷ 5 ∷ 6 ∷ [])
    -- f09-markers-second-write-unordered: Further entry 9: 15, second write unordered
    ∷ judged (sheet (head 3 1 ∷ init 0 (0 ∷ []) ∷ write 1 sc 0 (1 ∷ []) ∷ marker 1 ∷ write 2 unordered 0 (2 ∷ []) ∷ marker 2 ∷ marker 3 ∷ read 3 unordered 0 (1 ∷ []) ∷ row 6 0 1 ∷ pair 2 5 ∷ pair 4 5 ∷ [])) (Consistent (Unsettled 1 3)) (0 ∷ 1 ∷ 2 ∷ 3 ∷ 4 ∷ 5 ∷ 6 ∷ [])
    -- f10-markers-second-write-wider: Further entry 10: 15, second write of width 2
    ∷ judged (sheet (head 3 2 ∷ init 0 (0 ∷ 0 ∷ []) ∷ write 1 sc 0 (1 ∷ []) ∷ marker 1 ∷ write 2 sc 0 (2 ∷ 2 ∷ []) ∷ marker 2 ∷ marker 3 ∷ read 3 unordered 0 (1 ∷ []) ∷ row 6 0 1 ∷ pair 2 5 ∷ pair 4 5 ∷ [])) (Consistent (Unsettled 1 3)) (0 ∷ 1 ∷ 2 ∷ 3 ∷ 4 ∷ 5 ∷ 6 ∷ [])
    -- f11-markers-both-writes-wider: Further entry 11: 15, both writes of width 2
    ∷ judged (sheet (head 3 2 ∷ init 0 (0 ∷ 0 ∷ []) ∷ write 1 sc 0 (1 ∷ 1 ∷ []) ∷ marker 1 ∷ write 2 sc 0 (2 ∷ 2 ∷ []) ∷ marker 2 ∷ marker 3 ∷ read 3 unordered 0 (1 ∷ []) ∷ row 6 0 1 ∷ pair 2 5 ∷ pair 4 5 ∷ [])) (Consistent Orderly) (0 ∷ 3 ∷ 1 ∷ 2 ∷ 4 ∷ 5 ∷ 6 ∷ [])
    -- f12-unordered-then-sc-write: Further entry 12: A1 x=1 unordered, x=2 sc; A2 x reads 1 sc
    ∷ judged (sheet (head 2 1 ∷ init 0 (0 ∷ []) ∷ write 1 unordered 0 (1 ∷ []) ∷ write 1 sc 0 (2 ∷ []) ∷ read 2 sc 0 (1 ∷ []) ∷ row 3 0 1 ∷ [])) (Consistent (Unsettled 1 3)) (0 ∷ 1 ∷ 2 ∷ 3 ∷ [])
    -- f13-unordered-write-marker-sc-read: Further entry 13: A1 x=1 unordered, marker; A2 x=2 sc; A3 marker, x reads 1 sc; pair
    ∷ judged (sheet (head 3 1 ∷ init 0 (0 ∷ []) ∷ write 1 unordered 0 (1 ∷ []) ∷ marker 1 ∷ write 2 sc 0 (2 ∷ []) ∷ marker 3 ∷ read 3 sc 0 (1 ∷ []) ∷ row 5 0 1 ∷ pair 2 4 ∷ [])) (Consistent (Unsettled 1 3)) (0 ∷ 1 ∷ 2 ∷ 3 ∷ 4 ∷ 5 ∷ [])
    -- f14-synchronised-row-wider-write: Further entry 14: as 21, second write of width 2
    ∷ judged (sheet (head 3 2 ∷ init 0 (0 ∷ 0 ∷ []) ∷ write 1 sc 0 (1 ∷ []) ∷ write 2 sc 0 (2 ∷ 2 ∷ []) ∷ read 3 sc 0 (1 ∷ []) ∷ row 3 0 1 ∷ [])) (Consistent (Unsettled 1 2)) (0 ∷ 1 ∷ 2 ∷ 3 ∷ [])
    -- f15-synchronised-row-unordered-write: Further entry 15: as 21, second write unordered
    ∷ judged (sheet (head 3 1 ∷ init 0 (0 ∷ []) ∷ write 1 sc 0 (1 ∷ []) ∷ write 2 unordered 0 (2 ∷ []) ∷ read 3 sc 0 (1 ∷ []) ∷ row 3 0 1 ∷ [])) (Consistent (Unsettled 1 2)) (0 ∷ 1 ∷ 2 ∷ 3 ∷ [])
    -- f16-two-readers-agree: Further entry 16: A1 x=1 sc, A2 and A3 x read 1 sc
    ∷ judged (sheet (head 3 1 ∷ init 0 (0 ∷ []) ∷ write 1 sc 0 (1 ∷ []) ∷ read 2 sc 0 (1 ∷ []) ∷ read 3 sc 0 (1 ∷ []) ∷ row 2 0 1 ∷ row 3 0 1 ∷ [])) (Consistent Orderly) (0 ∷ 1 ∷ 2 ∷ 3 ∷ [])
    -- f17-torn-between-init-and-write: Further entry 17: init and one write of width 2, read torn between them
    ∷ judged (sheet (head 2 2 ∷ init 0 (0 ∷ 0 ∷ []) ∷ write 1 unordered 0 (1 ∷ 1 ∷ []) ∷ read 2 unordered 0 (0 ∷ 1 ∷ []) ∷ row 2 0 0 ∷ row 2 1 1 ∷ [])) (Consistent (Unsettled 1 2)) (0 ∷ 1 ∷ 2 ∷ [])
    -- f18-torn-between-widths: Further entry 18: write of width 2, write of width 1, read of width 2 from both
    ∷ judged (sheet (head 3 2 ∷ init 0 (0 ∷ 0 ∷ []) ∷ write 1 unordered 0 (1 ∷ 1 ∷ []) ∷ write 2 unordered 1 (2 ∷ []) ∷ read 3 unordered 0 (1 ∷ 2 ∷ []) ∷ row 3 0 1 ∷ row 3 1 2 ∷ [])) (Consistent (Unsettled 1 2)) (0 ∷ 1 ∷ 2 ∷ 3 ∷ [])
    -- f19-width-8-unordered-read: Further entry 19: width 8: two sc writes, an unordered read of both
    ∷ judged (sheet (head 3 8 ∷ init 0 (replicate 8 0) ∷ write 1 sc 0 (replicate 8 1) ∷ write 2 sc 0 (replicate 8 2) ∷ read 3 unordered 0 (1 ∷ 2 ∷ 2 ∷ 2 ∷ 2 ∷ 2 ∷ 2 ∷ 2 ∷ []) ∷ row 3 0 1 ∷ row 3 1 2 ∷ row 3 2 2 ∷ row 3 3 2 ∷ row 3 4 2 ∷ row 3 5 2 ∷ row 3 6 2 ∷ row 3 7 2 ∷ [])) (Consistent (Unsettled 1 3)) (0 ∷ 1 ∷ 2 ∷ 3 ∷ [])
    -- f20-width-8-sc-read: Further entry 20: width 8: an sc and an unordered write, an sc read of both
    ∷ judged (sheet (head 3 8 ∷ init 0 (replicate 8 0) ∷ write 1 sc 0 (replicate 8 1) ∷ write 2 unordered 0 (replicate 8 2) ∷ read 3 sc 0 (1 ∷ 2 ∷ 2 ∷ 2 ∷ 2 ∷ 2 ∷ 2 ∷ 2 ∷ []) ∷ row 3 0 1 ∷ row 3 1 2 ∷ row 3 2 2 ∷ row 3 3 2 ∷ row 3 4 2 ∷ row 3 5 2 ∷ row 3 6 2 ∷ row 3 7 2 ∷ [])) (Consistent (Unsettled 1 2)) (0 ∷ 1 ∷ 2 ∷ 3 ∷ [])
    -- f21-second-byte-newer: Further entry 21: A1 y=1, then reads x and y with width 2, x from the init and y from its write.
    ∷ judged (sheet (head 1 2 ∷ init 0 (0 ∷ 0 ∷ []) ∷ write 1 unordered 1 (1 ∷ []) ∷ read 1 unordered 0 (0 ∷ 1 ∷ []) ∷ row 2 0 0 ∷ row 2 1 1 ∷ [])) (Consistent Orderly) (0 ∷ 1 ∷ 2 ∷ [])
    -- f22-second-byte-stale: Further entry 22: as further entry 21, y from the init: 24 at byte 1.
    ∷ judged (sheet (head 1 2 ∷ init 0 (0 ∷ 0 ∷ []) ∷ write 1 unordered 1 (1 ∷ []) ∷ read 1 unordered 0 (0 ∷ 0 ∷ []) ∷ row 2 0 0 ∷ row 2 1 0 ∷ [])) (Broken 24 (Between 2 0 1 1)) []
    -- f23-a-read-between: Further entry 23: a read between write and read does not break 24
    ∷ judged (sheet (head 1 1 ∷ init 0 (0 ∷ []) ∷ write 1 unordered 0 (1 ∷ []) ∷ read 1 unordered 0 (1 ∷ []) ∷ read 1 unordered 0 (1 ∷ []) ∷ row 2 0 1 ∷ row 3 0 1 ∷ [])) (Consistent Orderly) (0 ∷ 1 ∷ 2 ∷ 3 ∷ [])
    -- f24-cycle-and-wrong-byte: Further entry 24: a cycle and a wrong byte: 21 first
    ∷ judged (sheet (head 2 2 ∷ init 0 (0 ∷ 0 ∷ []) ∷ read 1 sc 0 (1 ∷ []) ∷ write 1 sc 1 (1 ∷ []) ∷ read 2 sc 1 (9 ∷ []) ∷ write 2 sc 0 (1 ∷ []) ∷ row 1 0 4 ∷ row 3 1 2 ∷ [])) (Broken 21 (OfRow 3 2 1)) []
    -- f25-cycle-and-future: Further entry 25: a cycle, and the later read before its writer: 22 first
    ∷ judged (sheet (head 2 2 ∷ init 0 (0 ∷ 0 ∷ []) ∷ read 1 sc 0 (1 ∷ []) ∷ write 1 sc 0 (1 ∷ []) ∷ read 1 sc 1 (1 ∷ []) ∷ write 2 sc 1 (1 ∷ []) ∷ row 1 0 2 ∷ row 3 1 4 ∷ [])) (Broken 22 (OfEvent 1)) []
    -- f26-future-before-stale: Further entry 26: 23 and 24 in one sheet, 24 in an earlier row
    ∷ judged (sheet (head 1 2 ∷ init 0 (0 ∷ 0 ∷ []) ∷ write 1 unordered 0 (1 ∷ []) ∷ read 1 unordered 0 (0 ∷ []) ∷ read 1 unordered 1 (1 ∷ []) ∷ write 1 unordered 1 (1 ∷ []) ∷ row 2 0 0 ∷ row 3 1 4 ∷ [])) (Broken 23 (OfRow 3 4 1)) []
    -- f27-stale-before-torn: Further entry 27: 24 and 25 in one sheet
    ∷ judged (sheet (head 3 2 ∷ init 0 (0 ∷ 0 ∷ []) ∷ write 1 unordered 0 (1 ∷ 1 ∷ []) ∷ write 2 unordered 0 (2 ∷ 2 ∷ []) ∷ read 3 unordered 0 (1 ∷ 2 ∷ []) ∷ write 3 unordered 0 (3 ∷ 3 ∷ []) ∷ read 3 unordered 0 (0 ∷ 3 ∷ []) ∷ row 3 0 1 ∷ row 3 1 2 ∷ row 5 0 0 ∷ row 5 1 4 ∷ [])) (Broken 24 (Between 5 0 4 0)) []
    -- f28-first-row-lowest-v: Further entry 28: two broken rows of 24, the first row named, and its lowest V
    ∷ judged (sheet (head 1 1 ∷ init 0 (0 ∷ []) ∷ write 1 unordered 0 (1 ∷ []) ∷ write 1 unordered 0 (2 ∷ []) ∷ read 1 unordered 0 (0 ∷ []) ∷ read 1 unordered 0 (1 ∷ []) ∷ row 3 0 0 ∷ row 4 0 1 ∷ [])) (Broken 24 (Between 3 0 1 0)) []
    -- f29-read-modify-write-between: Further entry 29: a read-modify-write as the V of 24.
    ∷ judged (sheet (head 1 1 ∷ init 0 (0 ∷ []) ∷ modify 1 0 (0 ∷ []) (1 ∷ []) ∷ read 1 unordered 0 (0 ∷ []) ∷ row 1 0 0 ∷ row 2 0 0 ∷ [])) (Broken 24 (Between 2 0 1 0)) []
    -- f30-two-inits: Further entry 30: two inits
    ∷ judged (sheet (head 2 2 ∷ init 0 (0 ∷ []) ∷ init 1 (0 ∷ []) ∷ write 1 unordered 1 (1 ∷ []) ∷ read 2 unordered 0 (0 ∷ []) ∷ row 3 0 0 ∷ [])) (Consistent Orderly) (0 ∷ 1 ∷ 2 ∷ 3 ∷ [])
    -- f31-read-modify-write-chain: Further entry 31: a read-modify-write chain: A1 x 0->1, A2 x 1->2, A3 x reads 2 unordered
    ∷ judged (sheet (head 3 1 ∷ init 0 (0 ∷ []) ∷ modify 1 0 (0 ∷ []) (1 ∷ []) ∷ modify 2 0 (1 ∷ []) (2 ∷ []) ∷ read 3 unordered 0 (2 ∷ []) ∷ row 1 0 0 ∷ row 2 0 1 ∷ row 3 0 2 ∷ [])) (Consistent (Unsettled 1 3)) (0 ∷ 1 ∷ 2 ∷ 3 ∷ [])
    -- f32-width-4-torn: Further entry 32: 12 with width 4
    ∷ judged (sheet (head 3 4 ∷ init 0 (replicate 4 0) ∷ write 1 unordered 0 (replicate 4 1) ∷ write 2 unordered 0 (replicate 4 2) ∷ read 3 unordered 0 (1 ∷ 2 ∷ 2 ∷ 2 ∷ []) ∷ row 3 0 1 ∷ row 3 1 2 ∷ row 3 2 2 ∷ row 3 3 2 ∷ [])) (Broken 25 (Torn 3 1 2)) []
    -- f33-width-8-all-sc-torn: Further entry 33: width 8, all sc, an sc read of both writes
    ∷ judged (sheet (head 3 8 ∷ init 0 (replicate 8 0) ∷ write 1 sc 0 (replicate 8 1) ∷ write 2 sc 0 (replicate 8 2) ∷ read 3 sc 0 (1 ∷ 2 ∷ 2 ∷ 2 ∷ 2 ∷ 2 ∷ 2 ∷ 2 ∷ []) ∷ row 3 0 1 ∷ row 3 1 2 ∷ row 3 2 2 ∷ row 3 3 2 ∷ row 3 4 2 ∷ row 3 5 2 ∷ row 3 6 2 ∷ row 3 7 2 ∷ [])) (Broken 25 (Torn 3 1 2)) []
    -- s1a-log-of-the-third-agent-lost: 02 §1: the log of the third agent is lost (A1 x=1 sc, A2 x reads 1 sc; the head promises three agents)
    ∷ judged (sheet (head 3 1 ∷ init 0 (0 ∷ []) ∷ write 1 sc 0 (1 ∷ []) ∷ read 2 sc 0 (1 ∷ []) ∷ row 2 0 1 ∷ [])) (Refused 14 39) []
    -- s1b-an-agent-with-only-a-marker: 02 §1: "A marker counts as an event."
    ∷ judged (sheet (head 3 1 ∷ init 0 (0 ∷ []) ∷ write 1 sc 0 (1 ∷ []) ∷ read 2 sc 0 (1 ∷ []) ∷ marker 3 ∷ row 2 0 1 ∷ [])) (Consistent Orderly) (0 ∷ 1 ∷ 2 ∷ 3 ∷ [])
    -- s1c-nothing-reads-and-an-agent-is-missing: 02 §1: 10 before 14
    ∷ judged (sheet (head 2 1 ∷ init 0 (0 ∷ []) ∷ write 1 unordered 0 (1 ∷ []) ∷ [])) (Refused 10 24) []
    -- s1d-an-agent-and-a-row-are-missing: 02 §1: 14 before 11
    ∷ judged (sheet (head 2 1 ∷ init 0 (0 ∷ []) ∷ read 1 unordered 0 (0 ∷ []) ∷ [])) (Refused 14 24) []
    -- s1e-last-of-eight-agents-missing: 02 §1: of eight agents the last is missing
    ∷ judged (sheet (head 8 1 ∷ init 0 (0 ∷ []) ∷ read 1 sc 0 (0 ∷ []) ∷ read 2 sc 0 (0 ∷ []) ∷ read 3 sc 0 (0 ∷ []) ∷ read 4 sc 0 (0 ∷ []) ∷ read 5 sc 0 (0 ∷ []) ∷ read 6 sc 0 (0 ∷ []) ∷ read 7 sc 0 (0 ∷ []) ∷ row 1 0 0 ∷ row 2 0 0 ∷ row 3 0 0 ∷ row 4 0 0 ∷ row 5 0 0 ∷ row 6 0 0 ∷ row 7 0 0 ∷ [])) (Refused 14 120) []
    -- s1f-eight-agents-in-falling-order: 02 §1: agents 1 to 8 are all there, the last one first
    ∷ judged (sheet (head 8 1 ∷ init 0 (0 ∷ []) ∷ read 8 sc 0 (0 ∷ []) ∷ read 7 sc 0 (0 ∷ []) ∷ read 6 sc 0 (0 ∷ []) ∷ read 5 sc 0 (0 ∷ []) ∷ read 4 sc 0 (0 ∷ []) ∷ read 3 sc 0 (0 ∷ []) ∷ read 2 sc 0 (0 ∷ []) ∷ read 1 sc 0 (0 ∷ []) ∷ row 1 0 0 ∷ row 2 0 0 ∷ row 3 0 0 ∷ row 4 0 0 ∷ row 5 0 0 ∷ row 6 0 0 ∷ row 7 0 0 ∷ row 8 0 0 ∷ [])) (Consistent Orderly) (0 ∷ 1 ∷ 2 ∷ 3 ∷ 4 ∷ 5 ∷ 6 ∷ 7 ∷ 8 ∷ [])
    -- s1g-first-agent-missing: 02 §1: of two agents the first is missing
    ∷ judged (sheet (head 2 1 ∷ init 0 (0 ∷ []) ∷ read 2 unordered 0 (0 ∷ []) ∷ row 1 0 0 ∷ [])) (Refused 14 30) []
    -- s4a-the-example-at-edition-2: 02 §4: 01's example at edition 2: "a sixth byte to each event before the data"
    ∷ judged (sheet (head_2 1 1 ∷ tear 0 (init 0 (0 ∷ [])) ∷ tear 1 (read 1 unordered 0 (0 ∷ [])) ∷ row 1 0 0 ∷ [])) (Consistent Orderly) (0 ∷ 1 ∷ [])
    -- s4b-torn-at-edition-2: 02 §4: litmus 12 at edition 2, all three tear-free
    ∷ judged (sheet (head_2 3 2 ∷ tear 0 (init 0 (0 ∷ 0 ∷ [])) ∷ tear 1 (write 1 unordered 0 (1 ∷ 1 ∷ [])) ∷ tear 1 (write 2 unordered 0 (2 ∷ 2 ∷ [])) ∷ tear 1 (read 3 unordered 0 (1 ∷ 2 ∷ [])) ∷ row 3 0 1 ∷ row 3 1 2 ∷ [])) (Broken 25 (Torn 3 1 2)) []
    -- s4c-the-reader-may-tear: 02 §4: litmus 12 at edition 2, the reader may tear (a Float32Array's or a DataView's read)
    ∷ judged (sheet (head_2 3 2 ∷ tear 0 (init 0 (0 ∷ 0 ∷ [])) ∷ tear 1 (write 1 unordered 0 (1 ∷ 1 ∷ [])) ∷ tear 1 (write 2 unordered 0 (2 ∷ 2 ∷ [])) ∷ tear 0 (read 3 unordered 0 (1 ∷ 2 ∷ [])) ∷ row 3 0 1 ∷ row 3 1 2 ∷ [])) (Consistent (Unsettled 1 2)) (0 ∷ 1 ∷ 2 ∷ 3 ∷ [])
    -- s4d-the-lower-writer-may-tear: 02 §4: litmus 12 at edition 2, the first writer may tear
    ∷ judged (sheet (head_2 3 2 ∷ tear 0 (init 0 (0 ∷ 0 ∷ [])) ∷ tear 0 (write 1 unordered 0 (1 ∷ 1 ∷ [])) ∷ tear 1 (write 2 unordered 0 (2 ∷ 2 ∷ [])) ∷ tear 1 (read 3 unordered 0 (1 ∷ 2 ∷ [])) ∷ row 3 0 1 ∷ row 3 1 2 ∷ [])) (Consistent (Unsettled 1 2)) (0 ∷ 1 ∷ 2 ∷ 3 ∷ [])
    -- s4e-the-higher-writer-may-tear: 02 §4: litmus 12 at edition 2, the second writer may tear
    ∷ judged (sheet (head_2 3 2 ∷ tear 0 (init 0 (0 ∷ 0 ∷ [])) ∷ tear 1 (write 1 unordered 0 (1 ∷ 1 ∷ [])) ∷ tear 0 (write 2 unordered 0 (2 ∷ 2 ∷ [])) ∷ tear 1 (read 3 unordered 0 (1 ∷ 2 ∷ [])) ∷ row 3 0 1 ∷ row 3 1 2 ∷ [])) (Consistent (Unsettled 1 2)) (0 ∷ 1 ∷ 2 ∷ 3 ∷ [])
    -- s4f-all-may-tear: 02 §4: litmus 12 at edition 2, all three may tear
    ∷ judged (sheet (head_2 3 2 ∷ tear 0 (init 0 (0 ∷ 0 ∷ [])) ∷ tear 0 (write 1 unordered 0 (1 ∷ 1 ∷ [])) ∷ tear 0 (write 2 unordered 0 (2 ∷ 2 ∷ [])) ∷ tear 0 (read 3 unordered 0 (1 ∷ 2 ∷ [])) ∷ row 3 0 1 ∷ row 3 1 2 ∷ [])) (Consistent (Unsettled 1 2)) (0 ∷ 1 ∷ 2 ∷ 3 ∷ [])
    -- s4g-sc-with-0: 02 §4: "1 for sc reads, writes and read-modify-writes": an sc read with 0
    ∷ judged (sheet (head_2 1 1 ∷ tear 0 (init 0 (0 ∷ [])) ∷ tear 0 (read 1 sc 0 (0 ∷ [])) ∷ row 1 0 0 ∷ [])) (Refused 6 16) []
    -- s4h-width-8-with-1: 02 §4: "0 for all else": an unordered read of width 8 with 1
    ∷ judged (sheet (head_2 1 8 ∷ tear 0 (init 0 (replicate 8 0)) ∷ tear 1 (read 1 unordered 0 (replicate 8 0)) ∷ row 1 0 0 ∷ row 1 1 0 ∷ row 1 2 0 ∷ row 1 3 0 ∷ row 1 4 0 ∷ row 1 5 0 ∷ row 1 6 0 ∷ row 1 7 0 ∷ [])) (Refused 6 23) []
    -- s4i-odd-start-with-1: 02 §4: "0 for all else": an unordered read of width 2 at start 1 with 1
    ∷ judged (sheet (head_2 1 3 ∷ tear 0 (init 0 (0 ∷ 0 ∷ 0 ∷ [])) ∷ tear 1 (read 1 unordered 1 (0 ∷ 0 ∷ [])) ∷ row 1 1 0 ∷ row 1 2 0 ∷ [])) (Refused 6 18) []
    -- s4j-odd-start-with-0: 02 §4: the same with 0
    ∷ judged (sheet (head_2 1 3 ∷ tear 0 (init 0 (0 ∷ 0 ∷ 0 ∷ [])) ∷ tear 0 (read 1 unordered 1 (0 ∷ 0 ∷ [])) ∷ row 1 1 0 ∷ row 1 2 0 ∷ [])) (Consistent Orderly) (0 ∷ 1 ∷ [])
    -- s4k-marker-with-1: 02 §4: "0 for all else": a marker with 1
    ∷ judged (sheet (head_2 1 1 ∷ tear 0 (init 0 (0 ∷ [])) ∷ tear 1 (marker 1) ∷ tear 1 (read 1 unordered 0 (0 ∷ [])) ∷ row 2 0 0 ∷ [])) (Refused 6 16) []
    -- s4l-init-with-1: 02 §4: "0 for all else": an init with 1
    ∷ judged (sheet (head_2 1 1 ∷ tear 1 (init 0 (0 ∷ [])) ∷ tear 1 (read 1 unordered 0 (0 ∷ [])) ∷ row 1 0 0 ∷ [])) (Refused 6 6) []
    -- s4m-tear-byte-2: 02 §4: "0 may tear, 1 tear-free": neither
    ∷ judged (sheet (head_2 1 1 ∷ tear 0 (init 0 (0 ∷ [])) ∷ tear 2 (read 1 unordered 0 (0 ∷ [])) ∷ row 1 0 0 ∷ [])) (Refused 6 16) []
    -- s4n-five-bytes: 02 §4: "The 'under five bytes' test is six for edition 2": a marker of five bytes
    ∷ judged (sheet (head_2 1 1 ∷ (2 ∷ 0 ∷ 5 ∷ 1 ∷ 4 ∷ 2 ∷ 0 ∷ 0 ∷ []) ∷ [])) (Refused 4 6) []
    -- s4o-tear-byte-before-the-exact-length: 02 §4: the tear byte is content, tested before the exact length: an sc read with 0 and no data
    ∷ judged (sheet (head_2 1 1 ∷ (2 ∷ 0 ∷ 6 ∷ 1 ∷ 1 ∷ 2 ∷ 0 ∷ 1 ∷ 0 ∷ []) ∷ [])) (Refused 6 6) []
    -- s4p-edition-3: 02 §4: the head's edition is 1 or 2
    ∷ judged (sheet ((1 ∷ 0 ∷ 3 ∷ 3 ∷ 1 ∷ 1 ∷ []) ∷ [])) (Refused 5 0) []
    -- s4q-read-modify-writes-at-edition-2: 02 §4: litmus 14 at edition 2, with a marker
    ∷ judged (sheet (head_2 2 1 ∷ tear 0 (init 0 (0 ∷ [])) ∷ tear 1 (modify 1 0 (0 ∷ []) (1 ∷ [])) ∷ tear 0 (marker 2) ∷ tear 1 (modify 2 0 (0 ∷ []) (2 ∷ [])) ∷ row 1 0 0 ∷ row 3 0 0 ∷ [])) (Broken 26 Nobody) []
    -- s6a-twenty-two-events-the-last-first: 02 §6: four inits and 18 others at edition 2: A1 x reads 1 sc, fifteen markers, x reads 1 sc, A2 x=1 sc, which is before them
    ∷ judged (sheet (head_2 2 4 ∷ tear 0 (init 0 (0 ∷ [])) ∷ tear 0 (init 1 (0 ∷ [])) ∷ tear 0 (init 2 (0 ∷ [])) ∷ tear 0 (init 3 (0 ∷ [])) ∷ tear 1 (read 1 sc 0 (1 ∷ [])) ∷ tear 0 (marker 1) ∷ tear 0 (marker 1) ∷ tear 0 (marker 1) ∷ tear 0 (marker 1) ∷ tear 0 (marker 1) ∷ tear 0 (marker 1) ∷ tear 0 (marker 1) ∷ tear 0 (marker 1) ∷ tear 0 (marker 1) ∷ tear 0 (marker 1) ∷ tear 0 (marker 1) ∷ tear 0 (marker 1) ∷ tear 0 (marker 1) ∷ tear 0 (marker 1) ∷ tear 0 (marker 1) ∷ tear 1 (read 1 sc 0 (1 ∷ [])) ∷ tear 1 (write 2 sc 0 (1 ∷ [])) ∷ row 4 0 21 ∷ row 20 0 21 ∷ [])) (Consistent Orderly) (0 ∷ 1 ∷ 2 ∷ 3 ∷ 21 ∷ 4 ∷ 5 ∷ 6 ∷ 7 ∷ 8 ∷ 9 ∷ 10 ∷ 11 ∷ 12 ∷ 13 ∷ 14 ∷ 15 ∷ 16 ∷ 17 ∷ 18 ∷ 19 ∷ 20 ∷ [])
    -- s6a-twenty-two-events-the-last-first, lent a scratch of 32767 and an order buffer of 22
    ∷ lending 32767 22 (sheet (head_2 2 4 ∷ tear 0 (init 0 (0 ∷ [])) ∷ tear 0 (init 1 (0 ∷ [])) ∷ tear 0 (init 2 (0 ∷ [])) ∷ tear 0 (init 3 (0 ∷ [])) ∷ tear 1 (read 1 sc 0 (1 ∷ [])) ∷ tear 0 (marker 1) ∷ tear 0 (marker 1) ∷ tear 0 (marker 1) ∷ tear 0 (marker 1) ∷ tear 0 (marker 1) ∷ tear 0 (marker 1) ∷ tear 0 (marker 1) ∷ tear 0 (marker 1) ∷ tear 0 (marker 1) ∷ tear 0 (marker 1) ∷ tear 0 (marker 1) ∷ tear 0 (marker 1) ∷ tear 0 (marker 1) ∷ tear 0 (marker 1) ∷ tear 0 (marker 1) ∷ tear 1 (read 1 sc 0 (1 ∷ [])) ∷ tear 1 (write 2 sc 0 (1 ∷ [])) ∷ row 4 0 21 ∷ row 20 0 21 ∷ [])) (Refused 12 0) []
    -- s6a-twenty-two-events-the-last-first, lent a scratch of 32768 and an order buffer of 21
    ∷ lending 32768 21 (sheet (head_2 2 4 ∷ tear 0 (init 0 (0 ∷ [])) ∷ tear 0 (init 1 (0 ∷ [])) ∷ tear 0 (init 2 (0 ∷ [])) ∷ tear 0 (init 3 (0 ∷ [])) ∷ tear 1 (read 1 sc 0 (1 ∷ [])) ∷ tear 0 (marker 1) ∷ tear 0 (marker 1) ∷ tear 0 (marker 1) ∷ tear 0 (marker 1) ∷ tear 0 (marker 1) ∷ tear 0 (marker 1) ∷ tear 0 (marker 1) ∷ tear 0 (marker 1) ∷ tear 0 (marker 1) ∷ tear 0 (marker 1) ∷ tear 0 (marker 1) ∷ tear 0 (marker 1) ∷ tear 0 (marker 1) ∷ tear 0 (marker 1) ∷ tear 0 (marker 1) ∷ tear 1 (read 1 sc 0 (1 ∷ [])) ∷ tear 1 (write 2 sc 0 (1 ∷ [])) ∷ row 4 0 21 ∷ row 20 0 21 ∷ [])) (Refused 13 0) []
    -- s6b-no-order-of-eighteen: 02 §6: litmus 7 behind fourteen markers of A1: A1 x=1 sc, y reads 0 sc, A2 y=1 sc, x reads 0 sc
    ∷ judged (sheet (head 2 2 ∷ init 0 (0 ∷ 0 ∷ []) ∷ marker 1 ∷ marker 1 ∷ marker 1 ∷ marker 1 ∷ marker 1 ∷ marker 1 ∷ marker 1 ∷ marker 1 ∷ marker 1 ∷ marker 1 ∷ marker 1 ∷ marker 1 ∷ marker 1 ∷ marker 1 ∷ write 1 sc 0 (1 ∷ []) ∷ read 1 sc 1 (0 ∷ []) ∷ write 2 sc 1 (1 ∷ []) ∷ read 2 sc 0 (0 ∷ []) ∷ row 16 1 0 ∷ row 18 0 0 ∷ [])) (Broken 26 Nobody) []
    -- s6c-a-nineteenth-event-behind-four-inits: 02 §6: refusal 9 comes at the 19th: head 6 bytes, four inits of 9, eighteen markers of 8, so at 186
    ∷ judged (sheet (head 1 4 ∷ init 0 (0 ∷ []) ∷ init 1 (0 ∷ []) ∷ init 2 (0 ∷ []) ∷ init 3 (0 ∷ []) ∷ marker 1 ∷ marker 1 ∷ marker 1 ∷ marker 1 ∷ marker 1 ∷ marker 1 ∷ marker 1 ∷ marker 1 ∷ marker 1 ∷ marker 1 ∷ marker 1 ∷ marker 1 ∷ marker 1 ∷ marker 1 ∷ marker 1 ∷ marker 1 ∷ marker 1 ∷ marker 1 ∷ marker 1 ∷ [])) (Refused 9 186) []
    -- s6d-a-nineteenth-event-of-bad-content: 02 §6: 6 before 9: the 19th event is a read of agent 2, whom the head does not promise
    ∷ judged (sheet (head 1 1 ∷ init 0 (0 ∷ []) ∷ marker 1 ∷ marker 1 ∷ marker 1 ∷ marker 1 ∷ marker 1 ∷ marker 1 ∷ marker 1 ∷ marker 1 ∷ marker 1 ∷ marker 1 ∷ marker 1 ∷ marker 1 ∷ marker 1 ∷ marker 1 ∷ marker 1 ∷ marker 1 ∷ marker 1 ∷ marker 1 ∷ read 2 sc 0 (0 ∷ []) ∷ [])) (Refused 6 159) []
    -- 01-example, lent a scratch of 1 and an order buffer of 2
    ∷ lending 1 2 example (Consistent Orderly) (0 ∷ 1 ∷ [])
    -- 01-example, lent a scratch of 0 and an order buffer of 2
    ∷ lending 0 2 example (Refused 12 0) []
    ∷ []

-- Each claim of specs/Demands.antt. Assumes nothing.
use mathlib.Core.Path.{◌≡◌, refl, sym, ap, ◌∙◌, subst}
use mathlib.Core.Logic.{inl, inr, ⊎_elim}
use mathlib.Core.List.{List}
use Prim.Native.Nat.{ℕ}
use native.Mathlib.Omega.{arith}
use lib.ListN.{length, take, drop}
use lib.Seq.{take-append_seam}
use Rattle.format.specs.declared.Head.{Head}
use Rattle.format.specs.Execution.{Execution, with_head, at_edition}
use Rattle.parse.specs.Parse.{whole, parse}
use Rattle.parse.proofs.WellSheetLaws.{accepted_well}
use Rattle.answer.specs.declared.Answer.{Answer}
use Rattle.answer.specs.declared.Answer.TheVariants.{Refused, Broken, Consistent}
use Rattle.answer.specs.declared.Settled.{Settled}
use Rattle.answer.specs.declared.Settled.TheVariants.{Orderly, Unsettled}
use Rattle.answer.specs.NameOf.{names_of, pair_of}
use Rattle.answer.specs.Number.{settled_number}
use Rattle.answer.specs.Fit.{Fits}
use Rattle.answer.proofs.WordLaws.{four_more, four_below, settled_below}
use Rattle.answer.specs.Read.{kind_in, number_in, place_in, answer_in}
use Rattle.answer.specs.Word.{four_bytes, word, packed}
use Rattle.answer.proofs.ReadLaws.{answer_in_lem, kind_in_lem, number_in_lem, place_in_lem}
use Rattle.encode.specs.Table.{Table, table_of}
use Rattle.encode.specs.Encode.{encode}
use Rattle.encode.specs.Lend.{Slices, table_in}
use Rattle.encode.specs.Copy.{table_at, slices_at, copy_of}
use Rattle.encode.proofs.CopyLaws.{slices_at_lem, copies}
use Rattle.writer.specs.Written.{Written, Wrote}
use Rattle.writer.specs.Word.{written_word, written_in}
use Rattle.writer.proofs.Demands.{reads_back, writes_back, fits_word}
use Rattle.lend.specs.Lending.{Lent, Lending}
use Rattle.lend.specs.Word.{lent_word}
use Rattle.lend.specs.Demands.{TableOf}
use Rattle.lend.proofs.Demands.{lends_the_table, refused_word}
use Rattle.lend.proofs.Demands.{fits_word as fits-lent}
use Rattle.model.specs.Judged.{Judged}
use Rattle.model.specs.Memory.{Explains}
use Rattle.model.proofs.FitLaws.{judged_fits}
use Rattle.model.proofs.Editions.{by_record}
use Rattle.plimdrong.specs.JudgedWord.{JudgedWord}
use Rattle.plimdrong.specs.WrittenWord.{WrittenWord}
use Rattle.log_check.specs.declared.Reply.TheVariants.{Listed}
use Rattle.std.specs.Prelude.{Ok, Err}
use Rattle.log_check.specs.Checked.{Checked}
use Rattle.log_check.specs.Word.{checked_word, reply_in}
use Rattle.log_check.proofs.Demands.{reported_accepted, accepted_consistent, replays}
use Rattle.log_check.proofs.Demands.{fits_word as fits-reply}
use Rattle.plimdrong.specs.TableWord.{TableWord, fronts_in}
use Rattle.plimdrong.specs.CheckedWord.{CheckedWord}
use Rattle.why.specs.declared.Explanation.{Explanation}
use Rattle.why.specs.Explained.{Explained}
use Rattle.why.specs.Word.{why_word, explanation_in}
use Rattle.why.specs.Demands.{IsKept, Alike}
use Rattle.why.proofs.Demands.{as_the_judge}
use Rattle.why.proofs.Demands.{fits_word as fits-why}
use Rattle.plimdrong.specs.WhyWord.{WhyWord}
use Rattle.plimdrong.specs.Demands.{WordTells, SameAnswer, WriteTells, WriteThenTable, TableThenWrite, SameVerdict, CopyJudged, CheckTells, ReportedChecked, CheckedJudged, CheckedReplays, WhyTells, Beside, same, kept, small, short_order, WhyBeside}

read : (s scratch order : List ℕ) (r : ℕ) (scratch' order' : List ℕ) (e : JudgedWord s scratch order r scratch' order') → answer_in r ≡ e.answer
read s scratch order r scratch' order' e =
    ap answer_in e.word ∙ answer_in_lem e.answer (judged_fits s scratch order e.answer scratch' order' e.judged)

pub word_tells : WordTells
word_tells s scratch order r scratch' order' e =
    subst (λ (a : Answer). Judged s scratch order a scratch' order') (sym (read s scratch order r scratch' order' e)) e.judged

pub same_answer : SameAnswer
same_answer s scratch order t room places r scratch' order' room' places' e f =
    sym (read s scratch order r scratch' order' e) ∙ read t room places r room' places' f

-- ---- the writer

written_read : (l : Slices) (out : List ℕ) (r : ℕ) (out' : List ℕ) (w : WrittenWord l out r out') → written_in r ≡ w.answer
written_read l out r out' w = ap written_in w.word ∙ fits_word (encode (table_in l)) out w.answer out' w.wrote

pub write_tells : WriteTells
write_tells l out r out' w = subst (λ (a : Written). Wrote (encode (table_in l)) out a out') (sym (written_read l out r out' w)) w.wrote

-- a word of kind 5 is that of a sheet, and its place is the length
written_sheet : (l : Slices) (out : List ℕ) (r : ℕ) (out' : List ℕ) → WrittenWord l out r out' → kind_in r ≡ 5 → Wrote (encode (table_in l)) out (Ok (place_in r)) out'
unfolding written_in
written_sheet l out r out' w k =
    let e : written_in r ≡ Ok (place_in r) = rw k refl in
    subst (λ (a : Written). Wrote (encode (table_in l)) out a out') e (write_tells l out r out' w)

-- ---- a sheet's table

-- a word of kind 14 is that of a table, whose counts it has
lent_table : (s : List ℕ) (entry exit : Slices) (w : ℕ) → TableWord s entry w exit → kind_in w ≡ 14 → TableOf s (fronts_in w exit)
lent_table s entry exit w t k = go t.answer t.lending t.word
  where
    go : (a : Lent) → Lending s entry a exit → w ≡ lent_word a → TableOf s (fronts_in w exit)
    go (Err u) l e = let z : ◌≡◌ {A = ℕ} 1 14 = sym (refused_word s entry exit u.number u.place l).0 ∙ ap kind_in (sym e) ∙ k in absurd (omega arith)
    go (Ok n) l e =
        let f = fits-lent s entry exit n.events n.bytes n.rows n.pairs l in
        subst (λ (u : ℕ). TableOf s (fronts_in u exit)) (sym e)
        (rw (f.events, f.bytes, f.rows, f.pairs) (lends_the_table s entry exit n.events n.bytes n.rows n.pairs l))

same_execution : (s : List ℕ) (x y : Execution) → parse s ≡ whole x → parse s ≡ whole y → x ≡ y
same_execution s x y e f = let z : whole x ≡ whole y = sym e ∙ f in cc

pub write_then_table : WriteThenTable
write_then_table l out r out' w k entry exit v t j =
    let b = reads_back (table_in l) out (place_in r) out' (written_sheet l out r out' w k) in
    let o = lent_table (take (place_in r) out') entry exit v t j in
    o.back ∙ ap table_of (same_execution (take (place_in r) out') o.execution b.0 o.says b.1) ∙ b.2

pub table_then_write : TableThenWrite
table_then_write s entry exit w t k out out' r h v =
    let o = lent_table s entry exit w t k in
    let u : Wrote (encode (table_of o.execution)) out v.answer out' = subst (λ (d : Table). Wrote (encode d) out v.answer out') o.back v.wrote in
    let b = writes_back s o.execution out v.answer out' (accepted_well s o.execution o.says) h u in
    (v.word ∙ ap written_word b.0, b.1)

-- ---- a sheet's copy at edition 2

-- two sheets with the same events, rows and pairs
same_verdict : (s t : List ℕ) (x : Execution) (h : Head) → parse s ≡ whole x → parse t ≡ whole (with_head x h) → SameVerdict s t
same_verdict s t x h d e scratch order a b p q p' q' j k =
    let w = by_record s t x h (accepted_well s x d) (accepted_well t (with_head x h) e) scratch order j.answer k.answer p q p' q' j.judged k.judged in
    (j.word ∙ ap packed w.0 ∙ sym k.word, w.1, w.2)

pub copy_judged : CopyJudged
unfolding table_of
copy_judged s entry exit w t k out out' r h v =
    let o = lent_table s entry exit w t k in
    let x = o.execution in
    let c : List ℕ = copy_of x in
    let e : parse c ≡ whole (with_head x (at_edition 2 x.head)) = copies s x o.says in
    let well = accepted_well c (with_head x (at_edition 2 x.head)) e in
    let l = well.short in
    let q : table_in (slices_at 2 (fronts_in w exit)) ≡ table_at 2 (table_of x) = slices_at_lem 2 (fronts_in w exit) ∙ ap (table_at 2) o.back in
    let u : Wrote c out v.answer out' = subst (λ (d : Table). Wrote (encode d) out v.answer out') q v.wrote in
    let b = writes_back c (with_head x (at_edition 2 x.head)) out v.answer out' well (omega arith) u in
    let n : r ≡ word 5 0 (length c) = v.word ∙ ap written_word b.0 in
    let i : place_in r ≡ length c = ap place_in n ∙ place_in_lem 5 0 (length c) (omega arith) (omega arith) (omega arith) in
    let f : take (place_in r) out' ≡ c = ap (λ (j : ℕ). take j out') i ∙ ap (take (length c)) b.1 ∙ take-append_seam c (drop (length c) out) in
    (ap kind_in n ∙ kind_in_lem 5 0 (length c) (omega arith) (omega arith) (omega arith), subst (SameVerdict s) (sym f) (same_verdict s c x (at_edition 2 x.head) o.says e))

-- ---- a list

reply_read : (s l : List ℕ) (r : ℕ) (c : CheckedWord s l r) → reply_in r ≡ c.reply
reply_read s l r c = ap reply_in c.word ∙ fits-reply s l c.reply c.checked

pub check_tells : CheckTells
check_tells s l r c = subst (Checked s l) (sym (reply_read s l r c)) c.checked

accepted_reply : (s l : List ℕ) → CheckedWord s l (word 6 0 0) → Checked s l (Listed (Ok tt))
unfolding reply_in
accepted_reply s l c = check_tells s l (word 6 0 0) c

-- the kind of an answer's word
refused_kind : (n p : ℕ) → Fits 255 (Refused n p) → kind_in (packed (Refused n p)) ≡ 1
refused_kind n p h = kind_in_lem 1 n p (omega arith) h.0 h.1

broken_kind : (n : ℕ) (names : _) → Fits 255 (Broken n names) → kind_in (packed (Broken n names)) ≡ 2
broken_kind n names h = kind_in_lem 2 n (four_bytes (names_of names)) (omega arith) h.0 (four_below (names_of names) (four_more (names_of names) h.1))

module _ (t : Settled) (h : Fits 255 (Consistent t)) where
  consistent_kind : kind_in (packed (Consistent t)) ≡ 3
  consistent_kind = kind_in_lem 3 (settled_number t) (four_bytes (pair_of t)) (omega arith) (settled_below t) (four_below (pair_of t) (four_more (pair_of t) h))

  consistent_number : number_in (packed (Consistent t)) ≡ settled_number t
  consistent_number = number_in_lem 3 (settled_number t) (four_bytes (pair_of t)) (omega arith) (settled_below t) (four_below (pair_of t) (four_more (pair_of t) h))

-- a word of kind 3 is that of a consistent answer
consistent_word : (s scratch order : List ℕ) (r : ℕ) (scratch' order' : List ℕ) → JudgedWord s scratch order r scratch' order' → kind_in r ≡ 3
    → (t : Settled) × Judged s scratch order (Consistent t) scratch' order' × (number_in r ≡ settled_number t)
consistent_word s scratch order r scratch' order' j k = go j.answer j.judged j.word
  where
    go : (a : Answer) → Judged s scratch order a scratch' order' → r ≡ packed a → (t : Settled) × Judged s scratch order (Consistent t) scratch' order' × (number_in r ≡ settled_number t)
    go (Refused n p) d e = let z : ◌≡◌ {A = ℕ} 1 3 = sym (refused_kind n p (judged_fits s scratch order (Refused n p) scratch' order' d)) ∙ ap kind_in (sym e) ∙ k in absurd (omega arith)
    go (Broken n names) d e = let z : ◌≡◌ {A = ℕ} 2 3 = sym (broken_kind n names (judged_fits s scratch order (Broken n names) scratch' order' d)) ∙ ap kind_in (sym e) ∙ k in absurd (omega arith)
    go (Consistent t) d e = (t, d, ap number_in e ∙ consistent_number t (judged_fits s scratch order (Consistent t) scratch' order' d))

pub reported_checked : ReportedChecked
reported_checked s scratch order r scratch' order' j k x w u c =
    let a = consistent_word s scratch order r scratch' order' j k in
    c.word ∙ ap checked_word (reported_accepted s scratch order a.0 scratch' order' x c.reply w a.1 c.checked)

pub checked_judged : CheckedJudged
checked_judged s l scratch order r scratch' order' c j here =
    let a = accepted_consistent s l scratch order j.answer scratch' order' (accepted_reply s l c) j.judged
    (λ f. here (ap kind_in (j.word ∙ ap packed f.2) ∙ refused_kind f.0 f.1 (subst (Fits 255) f.2 (judged_fits s scratch order j.answer scratch' order' j.judged)))) in
    ap kind_in (j.word ∙ ap packed a.1) ∙ consistent_kind a.0 (subst (Fits 255) a.1 (judged_fits s scratch order j.answer scratch' order' j.judged))

pub checked_replays : CheckedReplays
checked_replays s l scratch order r scratch' order' c j k n x w m =
    let a = consistent_word s scratch order r scratch' order' j k in
    go a.0 a.1 (sym a.2 ∙ n)
  where
    go : (t : Settled) → Judged s scratch order (Consistent t) scratch' order' → settled_number t ≡ 0 → Explains x m l
    go Orderly d e = replays.judged s l scratch order scratch' order' x w d (accepted_reply s l c) m
    go (Unsettled e d) f z = absurd (omega (arith, z))

-- ---- why no order exists

pub why_tells : WhyTells
why_tells s scratch bars r p q w =
    subst (λ (a : Explanation). Explained s scratch bars a p q) (sym (ap explanation_in w.word ∙ fits-why s scratch bars w.explanation p q w.explained)) w.explained

-- the words of two answers that are alike
kept_beside : {r w : ℕ} (names : _) (x : Explanation) → r ≡ packed (Broken 26 names) → w ≡ why_word x → IsKept x → Beside r w
kept_beside names x e f (inl (n, k)) = kept names n e (f ∙ ap why_word k)
kept_beside names x e f (inr k) = small names e (f ∙ ap why_word k)

beside : {r w : ℕ} (a : Answer) (x : Explanation) → r ≡ packed a → w ≡ why_word x → Alike a x → Beside r w
beside (Refused n p) x e f k =
    ⊎_elim (λ i. same (f ∙ ap why_word i ∙ sym e)) (λ i. short_order p (e ∙ ap (λ (m : ℕ). packed (Refused m p)) i)) k
beside (Broken n names) x e f k =
    ⊎_elim (λ i. same (f ∙ ap why_word i ∙ sym e)) (λ i. kept_beside names x (e ∙ ap (λ (m : ℕ). packed (Broken m names)) i.0) f i.1) k
beside (Consistent t) x e f k = same (f ∙ ap why_word k ∙ sym e)

pub why_beside : WhyBeside
why_beside s scratch order bars r w p q p' q' j k =
    beside j.answer k.explanation j.word k.word (as_the_judge s scratch order bars j.answer p q k.explanation p' q' j.judged k.explained)

-- The replies of specs/Examples.antt, computed from the definitions by one statement, and the law that makes each a `Checked`. Assumes nothing.
--     reply_to s l          the reply as it computes, happens-before by a table of truth values (model/proofs/Outcome.antt)
--     replied              it is the one that is Checked
--     right                the examples
use mathlib.Core.Path.{◌≡◌, refl, sym, subst}
use mathlib.Core.Bool.{Bool}
use mathlib.Core.List.{List, Memᴰ, head-eq_of_cons-eq, tail-eq_of_cons-eq}
use mathlib.Core.Option.{Option, none, some}
use Prim.Native.Nat.{ℕ}
use Rattle.basis.specs.Test.{◌and◌, ◌or◌, non, any, all, number, keep, find, ◌else◌, mapped, each, across, from}
use Rattle.format.specs.Shape.{reads, writes, marks, initial, unordered, sc, tear_free, covers, overlap, equal, both_sc, divides, unbroken, tear_of}
use Rattle.format.specs.Event.{lookup, access_at, shape_at, reads_at, writes_at, saw, wrote, is_init, reads_some, is_marker, meets}
use Rattle.format.specs.Execution.{event_no, event, inits, others, row_below, pair_below}
use Rattle.format.specs.Field.{value_at}
use Rattle.format.specs.Layout.{head_bytes, event_bytes, tear_by, data_bytes, seen_of, written_of, row_bytes}
use Rattle.content.specs.Content.{within, head_fits, inside, init_formed, sized, kind_fits, other_formed, formed, tear_fits, alone, stands_first, event_fits, room_in, joins, row_rises, row_fits, parts, pair_rises, pair_fits}
use Rattle.parse.specs.Parse.{place_of, allowed, head_fault, event_fault_by, row_fault, pair_fault, value_fault_by, fault_by, taken, after, is_row, lacks, lowest_lacking, appears, missing, completed, finish, fields_from, parse}
use Rattle.model.specs.Events.{numbers, at_row, any_two}
use Rattle.model.specs.Happens.{agent_order, row_syncs, synchronises, init_first, step}
use Rattle.model.specs.Rules.{breaks21, breaks22, breaks23, breaks24, untorn, untorn_from, breaks25, fault21, fault22, fault23, fault24, fault25, fault}
use Rattle.model.specs.Bar.{bar_a, bar_b, bar_c, row_bars}
use Rattle.model.proofs.Outcome.{table, look, through, warshall, hb_table}
use Rattle.format.specs.Execution.{Execution}
use Rattle.parse.specs.Parse.{Parsed, refused, whole}
use Rattle.parse.proofs.PromiseLaws.{promise}
use Rattle.model.specs.Rules.{Fault}
use Rattle.model.proofs.Sound.{sound}
use Rattle.model.proofs.ClosureLaws.{table_tests}
use Rattle.log_order.specs.Listed.{stood, ahead_in, bad_at, early_at, barred_at, length_fault, number_fault, early_fault, bar_fault, list_fault, said_of}
use Rattle.log_check.specs.declared.Reply.{Reply}
use Rattle.log_check.specs.declared.Reply.TheVariants.{Refused, Broken, Listed}
use Rattle.log_check.specs.Checked.{trial, Checked}
use Rattle.log_check.specs.Examples.{Example, examples, Right}

-- ---- the reply, computed

unfoldable pub reply_by : Execution → (ℕ → ℕ → Bool) → List ℕ → Option Fault → Reply
reply_by x hb l none = Listed (said_of (list_fault (trial x hb) l))
reply_by x hb l (some f) = Broken f.number f.names

unfoldable pub reply_in : Parsed → List ℕ → Reply
reply_in (refused n p) l = Refused n p
reply_in (whole x) l = let t = hb_table x in reply_by x (look t) l (fault x (look t))

abbrev pub reply_to : List ℕ → List ℕ → Reply
reply_to s l = reply_in (parse s) l

pub replied : (s l : List ℕ) → Checked s l (reply_to s l)
unfolding reply_by reply_in
replied s l = go (parse s) refl
  where
    by : (x : Execution) → parse s ≡ whole x → (o : Option Fault) → fault x (look (hb_table x)) ≡ o → Checked s l (reply_by x (look (hb_table x)) l o)
    by x e none f =
        record { execution = x; describes = e; hb = look (hb_table x); tests = table_tests x (sound x (promise s x e)); unbroken = f; says = refl }
    by x e (some g) f = record { execution = x; describes = e; hb = look (hb_table x); tests = table_tests x (sound x (promise s x e)); breaks = f }

    go : (o : Parsed) → parse s ≡ o → Checked s l (reply_in o l)
    go (refused n p) e = record { says = e }
    go (whole x) e = by x e (fault x (look (hb_table x))) refl

-- ---- the examples

-- with all that they compute with open: a new definition on the way joins this list, or `refl` fails in `computed`
unfoldable pub told : Example → Reply
unfolding ◌and◌ ◌or◌ non any all number keep find ◌else◌ mapped each across from reads writes marks initial unordered sc tear_free covers overlap equal both_sc divides unbroken tear_of lookup access_at shape_at reads_at writes_at saw wrote is_init reads_some is_marker meets event_no event inits others row_below pair_below value_at head_bytes event_bytes tear_by data_bytes seen_of written_of row_bytes within head_fits inside init_formed sized kind_fits other_formed formed tear_fits alone stands_first event_fits room_in joins row_rises row_fits parts pair_rises pair_fits place_of allowed head_fault event_fault_by row_fault pair_fault value_fault_by fault_by taken after is_row lacks lowest_lacking appears missing completed finish fields_from parse numbers at_row any_two agent_order row_syncs synchronises init_first step breaks21 breaks22 breaks23 breaks24 untorn untorn_from breaks25 fault21 fault22 fault23 fault24 fault25 fault bar_a bar_b bar_c row_bars table look through warshall hb_table stood ahead_in bad_at early_at barred_at length_fault number_fault early_fault bar_fault list_fault said_of reply_by reply_in
told e = reply_to e.sheet e.list

pub computed : each told examples ≡ each (λ (e : Example). e.reply) examples
unfolding each examples told
computed = refl

each_right : (e : Example) (l : List Example) → each told l ≡ each (λ (e : Example). e.reply) l → Memᴰ e l → Checked e.sheet e.list e.reply
unfolding each told
each_right e l t (Memᴰ.head {x = f} q) =
    subst (λ (d : Example). Checked d.sheet d.list d.reply) (sym q) (subst (Checked f.sheet f.list) (head-eq_of_cons-eq t) (replied f.sheet f.list))
each_right e l t (Memᴰ.tail {xs = k} m) = each_right e k (tail-eq_of_cons-eq t) m

pub right : Right
right e = each_right e examples computed

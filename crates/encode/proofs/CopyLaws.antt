-- The laws of specs/Copy.antt: a well-formed execution is well-formed at edition 2, where every tear byte that the rule gives may stand, so that it can
-- be written there. Assumes nothing.
--     slices_at_lem      what the slices with another first byte of the head lend
--     well_there     a well-formed execution at edition 2
--     copies         the claim Copies
use mathlib.Core.Path.{◌≡◌, refl}
use Prim.Native.Nat.{ℕ}
use native.Mathlib.Omega.{arith}
use lib.Seq.{get_or-drop}
use Rattle.format.specs.declared.Head.{Head}
use Rattle.format.specs.Event.{Event}
use Rattle.format.specs.Execution.{Execution, with_head, at_edition, event}
use Rattle.format.specs.Layout.{row_bytes}
use Rattle.parse.specs.Promise.{WellEvent, WellFormed}
use Rattle.parse.proofs.PromiseLaws.{promise}
use Rattle.encode.specs.Table.{table_of}
use Rattle.encode.specs.Lent.{lent}
use Rattle.encode.specs.Lend.{Slices, table_in}
use Rattle.encode.specs.Copy.{table_at, slices_at, Copies}
use Rattle.encode.proofs.ShortLaws.{well_written}

pub slices_at_lem : (n : ℕ) (l : Slices) → table_in (slices_at n l) ≡ table_at n (table_in l)
unfolding lent row_bytes
slices_at_lem n l = rw (get_or-drop 1 l.head 0 0, get_or-drop 1 l.head 1 0) refl

-- what is asked of an event by its edition is asked at edition 1 only
event_there : (h : Head) (d : Event) → WellEvent h d → WellEvent (at_edition 2 h) d
event_there h d w =
    record {
      access = w.access;
      one_access = w.one_access;
      init_agent = w.init_agent;
      init_kind = w.init_kind;
      init_width = w.init_width;
      agent = w.agent;
      kind = w.kind;
      mode = w.mode;
      both_sc_lem = w.both_sc_lem;
      width = w.width;
      aligned = w.aligned;
      marker = w.marker;
      inside = w.inside;
      seen = w.seen;
      written = w.written;
      tear = w.tear;
      tear_sc = w.tear_sc;
      tear_else = w.tear_else;
      tear_rule = λ n. absurd (n refl);
    }

pub well_there : (x : Execution) → WellFormed x → WellFormed (with_head x (at_edition 2 x.head))
unfolding event
well_there x w =
    record {
      edition = (omega arith, omega arith);
      agents = w.agents;
      size = w.size;
      events = λ e h. event_there x.head (event x e) (w.events e h);
      inits_first = w.inits_first;
      inits_apart = w.inits_apart;
      inits_few = w.inits_few;
      others_few = w.others_few;
      row_reads = w.row_reads;
      row_writes = w.row_writes;
      row_differs = w.row_differs;
      rows_rise = w.rows_rise;
      row_for_each = λ e n t. (let r = w.row_for_each e n t in record { number = r.number; there = r.there; reader = r.reader; address = r.address; only = r.only });
      pair_markers = w.pair_markers;
      pair_agents = w.pair_agents;
      pairs_rise = w.pairs_rise;
      pairs_few = w.pairs_few;
      each_appears = w.each_appears;
      some_read = w.some_read;
    }

pub copies : Copies
unfolding table_of
copies s x e = well_written (with_head x (at_edition 2 x.head)) (well_there x (promise s x e))

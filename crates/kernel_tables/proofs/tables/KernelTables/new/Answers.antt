use Rattle.std.proofs.Common.{◌≡◌, ◌∙◌, ap, List, [], replicate, sym, subst}
use Rattle.process_core.specs.Tables.{tables_of}
use Rattle.process_core.specs.Starts.{first_beside, first_table}
use Rattle.process_core.proofs.Starts.{tables_start}
use Rattle.queue_table.specs.Lists.{Entry}
use Rattle.semaphores.specs.Counts.{Counts, beside}
use Rattle.xinu_model.specs.Boot.{null_tables}
use Rattle.xinu_model.specs.Sound.Tables.{IsInside}
use Rattle.table_laws.proofs.Tables.Starts.{inside_null}
use Rattle.delta_clock.specs.Wakeups.{WakesLater}
use Rattle.kernel_tables.specs.KernelTables.{kernel_tables}
use Rattle.kernel_tables.proofs.tables.KernelTables.new.Goals as goal

-- they are the tables at the start
starts : (c : goal.After-new-5)
    → kernel_tables (record { lists = c.in_ok-lists.lists; procs = c.in_ok-procs.procs; sems = c.in_ok-sems.sems; slots = c.in_ok-slots.slots; clock = c.new-5.result }) ≡ null_tables
starts c =
    let b : beside c.in_ok-sems.sems c.in_ok-slots.slots c.new-5.result ≡ first_beside
    = ap (λ m. beside c.in_ok-sems.sems m c.new-5.result) c.in_ok-slots.ensures.starts
    ∙ ap (beside c.in_ok-sems.sems null_tables.messages) c.new-5.ensures.starts ∙ c.in_ok-sems.ensures.beside in
    rw (c.in_ok-lists.ensures.empty, c.in_ok-procs.ensures.starts) (ap (tables_of (replicate 130 []) first_table) b ∙ tables_start)

pub invariant_of-result : goal.invariant_of-result
invariant_of-result c =
    let C : List (List Entry) → Type 0 = λ ls. Counts ls c.in_ok-sems.sems.entries in
    let e = starts c in
    record {
      inside = subst IsInside (sym e) inside_null;
      queues = record {
        counts = subst C (sym c.in_ok-lists.ensures.empty) c.in_ok-sems.ensures.counts;
        later = subst WakesLater
            (sym c.in_ok-lists.ensures.empty) c.new-5.ensures.later;
      };
    }

pub returns : goal.returns
returns c = record { starts = starts c }

use Rattle.std.proofs.Common.{◌∙◌, length, sym, ap, rules, arith, w32}
use Rattle.std.proofs.lemmas.Int.{to_z-of_z}
use Rattle.std.proofs.lemmas.List.{drop_all, take_all}
use mir.Val.{SFits}
use Rattle.queue_table.specs.Lists.{list_at}
use Rattle.queue_table.specs.Table.{lists}
use Rattle.xinu_model.specs.Process.Scheduling.{ready_all}
use Rattle.xinu_model.specs.Semaphores.Counts.{with_tokens}
use Rattle.process_core.proofs.Lengths.{short}
use Rattle.process_core.specs.Tables.{numbers, tables_of}
use Rattle.semaphores.specs.Counts.{beside, entry_at, tokens_of}
use Rattle.semaphores.proofs.Counting.{counts_changed, length-numbers, none_waiting, recounted, used_count, waiters_at}
use Rattle.semaphores.proofs.sems.Sems.release_all.Goals as goal

pub returns-clause-released : goal.returns-clause-released
returns-clause-released c m ticks =
    let ls = lists c.args.lists.now in
    let l = list_at ls c.args.sem in
    c.release_first-released.ensures.released
    ∙ take_all 64 (numbers l) (omega (arith, length-numbers l, short c.args.lists.now c.args.sem))
    ∙ sym (waiters_at ls c.args.procs.now c.args.self.now c.args.sem m ticks c.requires.counts.size c.set_count.ensures.within)

pub returns-clause-reset : goal.returns-clause-reset
returns-clause-reset c m ticks =
    let ls = lists c.args.lists.now in
    let s = c.args.procs.now in
    let k = c.args.self.now in
    let sem = c.args.sem in
    let b = c.set_count.ensures.within in
    let t = tables_of ls s (beside k m ticks) in
    let l = list_at ls sem in
    let r = c.release_first-released in
    let f : SFits w32 c.args.count = search rules in
    rw (c.set_count.ensures.sems, to_z-of_z w32 c.args.count f)
    (recounted (lists r.new.lists) r.new.procs k sem c.args.count m ticks c.requires.counts.size b
    ∙ ap (with_tokens sem (tokens_of c.args.count)) (r.ensures.readied (beside k m ticks))
    ∙ ap (λ ws. with_tokens sem (tokens_of c.args.count) (ready_all ws t))
    (take_all 64 (numbers l) (omega (arith, length-numbers l, short c.args.lists.now sem))
    ∙ sym (waiters_at ls s k sem m ticks c.requires.counts.size b)))

pub returns-clause-empty : goal.returns-clause-empty
returns-clause-empty c =
    c.release_first-released.ensures.rest ∙ drop_all 64 (list_at (lists c.args.lists.now) c.args.sem) (short c.args.lists.now c.args.sem)

pub returns-clause-counts : goal.returns-clause-counts
returns-clause-counts c =
    let ls = lists c.args.lists.now in
    let k = c.args.self.now in
    let sem = c.args.sem in
    let r = c.release_first-released in
    let f : SFits w32 c.args.count = search rules in
    let e = ap length (r.ensures.rest ∙ drop_all 64 (list_at ls sem) (short c.args.lists.now sem)) in
    rw (c.set_count.ensures.sems, to_z-of_z w32 c.args.count f)
    (counts_changed ls (lists r.new.lists) k.entries sem
    (record (entry_at k.entries sem) { count = c.args.count }) c.requires.counts c.set_count.ensures.within
    (e ∙ sym (none_waiting c.args.count c.requires.tokens)) (used_count (entry_at k.entries sem).owner _ c.requires.used)
    (λ q lq ne. r.ensures.others q ne (λ x. omega (arith, x, lq))))

use Rattle.std.proofs.Common.{◌≡◌, ◌∙◌, List, true, false, cond, set, sym, ap, subst, refl, rules, arith}
use Rattle.queue_table.specs.Lists.{Entry, IsByKey, all_without, list_at, with_list}
use Rattle.queue_table.specs.Table.{lists}
use Rattle.queue_table.proofs.Laws.{IsByKey-filter, disjoint, list_at-other, list_at_without, place_without_same, queues_of}
use Rattle.xinu_base.specs.Insert.{ready_insert}
use Rattle.xinu_model.specs.Process.Calls.{is_ready}
use Rattle.xinu_model.specs.Tables.{InReady, message_at, move_to}
use Rattle.process_core.specs.Tables.{process_in, tables_of, with_process}
use Rattle.process_core.proofs.Fitting.{fits_reinserted, length_without}
use Rattle.process_core.proofs.Moves.{then_ready}
use Rattle.process_core.proofs.Removals.{reinserted, taken_quietly}
use Rattle.process_core.proofs.procs.Procs.set_priority.Goals as goal
use Rattle.xinu_model.proofs.States.{is_ready_of}

pub insert-requires : goal.insert-requires
insert-requires c =
    let t = c.args.lists.now in
    let B : List Entry → Type 0 = λ l. IsByKey l in
    rw (c.remove.ensures.lists, c.index.ensures.index, c.index-then-is_ready.ensures.index) (
      omega arith,
      (
        omega (arith, c.index.ensures.index, c.index.ensures.bound),
        (
          omega arith,
          (
            place_without_same (lists t) c.args.p,
            subst B (sym (list_at_without (lists t) c.args.p 128)) (IsByKey-filter _ (list_at (lists t) 128) c.requires.fits.by_key),
          ),
        ),
      ),
    )

pub returns-then-is_ready-clause-lists : goal.returns-then-is_ready-clause-lists
returns-then-is_ready-clause-lists c =
    let t = c.args.lists.now in
    let p = c.args.p in
    let ws = all_without p (lists t) in
    let r : is_ready (process_in c.args.self.now.processes p).state ≡ true = sym c.is_ready-is_ready.ensures.ready ∙ c.if-is_ready.true in
    let l : lists c.insert.new.self ≡ with_list ws 128 (ready_insert p c.args.n (list_at ws 128)) = search rules in
    rw (l, r) (reinserted t p c.args.n (c.requires.fits.ready p (is_ready_of _ r)))

pub returns-then-is_ready-clause-prioritized : goal.returns-then-is_ready-clause-prioritized
unfolding tables_of
returns-then-is_ready-clause-prioritized c b =
    let t = c.args.lists.now in
    let s = c.args.self.now in
    let p = c.args.p in
    let ws = all_without p (lists t) in
    let x = record (process_in s.processes p) { priority = c.args.n } in
    let u = tables_of (lists t) s b in
    let r : is_ready (process_in s.processes p).state ≡ true = sym c.is_ready-is_ready.ensures.ready ∙ c.if-is_ready.true in
    let l : lists c.insert.new.self ≡ with_list ws 128 (ready_insert p c.args.n (list_at ws 128)) = search rules in
    let e : c.set_key_priority.new.self ≡ with_process p x s = search rules in
    rw (l, e)
    (then_ready ws (with_process p x s) b u p x (message_at u p) c.args.n (length_without p (lists t) ∙ queues_of t) refl
    (taken_quietly (lists t) s b p x (disjoint t p 128 129 (c.requires.fits.ready p (is_ready_of _ r)) (λ e. omega arith)))
    ∙ sym (ap (λ d. cond d (move_to p x (message_at u p) InReady u) (record u { processes = set u.processes p x })) r))

pub returns-then-is_ready-clause-others : goal.returns-then-is_ready-clause-others
returns-then-is_ready-clause-others c q n =
    let t = c.args.lists.now in
    let p = c.args.p in
    let ws = all_without p (lists t) in
    let r : is_ready (process_in c.args.self.now.processes p).state ≡ true = sym c.is_ready-is_ready.ensures.ready ∙ c.if-is_ready.true in
    let l : lists c.insert.new.self ≡ with_list ws 128 (ready_insert p c.args.n (list_at ws 128)) = search rules in
    rw l (ap (λ ls. list_at ls q) (reinserted t p c.args.n (c.requires.fits.ready p (is_ready_of _ r))) ∙ list_at-other (lists t) 128 _ q n)

pub returns-then-is_ready-clause-fits : goal.returns-then-is_ready-clause-fits
returns-then-is_ready-clause-fits c =
    let t = c.args.lists.now in
    let s = c.args.self.now in
    let p = c.args.p in
    let ws = all_without p (lists t) in
    let x = record (process_in s.processes p) { priority = c.args.n } in
    let r : is_ready (process_in s.processes p).state ≡ true = sym c.is_ready-is_ready.ensures.ready ∙ c.if-is_ready.true in
    let l : lists c.insert.new.self ≡ with_list ws 128 (ready_insert p c.args.n (list_at ws 128)) = search rules in
    let e : c.set_key_priority.new.self ≡ with_process p x s = search rules in
    rw (l, e)
    (fits_reinserted (lists t) s.processes p x c.args.n c.requires.fits (queues_of t) (omega (arith, c.index.ensures.index, c.index.ensures.bound)) (is_ready_of _ r))

pub returns-else-is_ready-clause-prioritized : goal.returns-else-is_ready-clause-prioritized
unfolding tables_of
returns-else-is_ready-clause-prioritized c b =
    let s = c.args.self.now in
    let p = c.args.p in
    let x = record (process_in s.processes p) { priority = c.args.n } in
    let u = tables_of (lists c.args.lists.now) s b in
    let r : is_ready (process_in s.processes p).state ≡ false = sym c.is_ready-is_ready.ensures.ready ∙ c.if-is_ready.false in
    let e : c.set_key_priority.new.self ≡ with_process p x s = search rules in
    rw e (sym (ap (λ d. cond d (move_to p x (message_at u p) InReady u) (record u { processes = set u.processes p x })) r))

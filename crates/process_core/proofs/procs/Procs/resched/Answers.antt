use Rattle.std.proofs.Common.{◌≡◌, ◌∙◌, ℕ, Some, None, Option, true, false, cond, int_lt, IsSome, sym, ap, subst, refl, rules, arith}
use Rattle.queue_table.specs.Lists.{list_at, first_process}
use Rattle.queue_table.specs.Table.{lists}
use Rattle.queue_table.proofs.Laws.{queues_of, list_at-same, list_at-other}
use Rattle.process_core.specs.Tables.{process_in, tables_of}
use Rattle.process_core.proofs.Rescheds.{keeps_by_key, keeps_alone, resched_keeps, resched_switches, preempt_running, preempt_stopped, first_with_key, first_inserted, none_if_some, some_is}
use Rattle.xinu_model.specs.Process.Scheduling as model
use Rattle.process_core.proofs.procs.Procs.resched.Goals as goal
use Rattle.process_core.proofs.procs.Procs.resched.Goals.{then-is_running+else-is_above, else-is_running}

pub returns-in_default-clause-resched : goal.returns-in_default-clause-resched
unfolding tables_of
returns-in_default-clause-resched c b =
    let t = tables_of (lists c.args.lists.now) c.args.self.now b in
    resched_keeps t (keeps_alone t (list_at (lists c.args.lists.now) 128) c.in_default.ensures.key)

pub returns-in_default-clause-answer : goal.returns-in_default-clause-answer
unfolding tables_of
returns-in_default-clause-answer c b =
    let t = tables_of (lists c.args.lists.now) c.args.self.now b in
    sym (ap (λ d. cond d None (Some c.args.self.now.current)) (keeps_alone t (list_at (lists c.args.lists.now) 128) c.in_default.ensures.key))

pub returns-then-is_above-clause-resched : goal.returns-then-is_above-clause-resched
unfolding tables_of
returns-then-is_above-clause-resched c b =
    let s = c.args.self.now in
    let t = tables_of (lists c.args.lists.now) s b in
    let r : model.is_current (process_in s.processes s.current).state ≡ true = sym c.is_running.ensures.running ∙ c.if-is_running.true in
    let a : int_lt c.in-Some.key (process_in s.processes s.current).priority ≡ true = search rules in
    resched_keeps t (keeps_by_key t (list_at (lists c.args.lists.now) 128) c.in-Some.key c.in-Some.ensures.key ∙ rw (r, a) refl)

pub returns-then-is_above-clause-answer : goal.returns-then-is_above-clause-answer
unfolding tables_of
returns-then-is_above-clause-answer c b =
    let s = c.args.self.now in
    let t = tables_of (lists c.args.lists.now) s b in
    let r : model.is_current (process_in s.processes s.current).state ≡ true = sym c.is_running.ensures.running ∙ c.if-is_running.true in
    let a : int_lt c.in-Some.key (process_in s.processes s.current).priority ≡ true = search rules in
    let k : model.keeps_cpu (list_at (lists c.args.lists.now) 128) t ≡ true
    = keeps_by_key t (list_at (lists c.args.lists.now) 128) c.in-Some.key c.in-Some.ensures.key ∙ rw (r, a) refl in
    sym (ap (λ d. cond d None (Some s.current)) k)

pub returns-clause-resched : goal.returns-clause-resched
unfolding tables_of
returns-clause-resched c b =
    let l0 = lists c.args.lists.now in
    let s = c.args.self.now in
    let t = tables_of l0 s b in
    let k = keeps_by_key t (list_at l0 128) c.in-Some.key c.in-Some.ensures.key in
    let m = tables_of (lists c.if-is_running.lists) c.if-is_running.self b in
    elim c.if-is_running.branch [
      | then-is_running+else-is_above w ↦ (
          let r : model.is_current (process_in s.processes s.current).state ≡ true
          = sym c.is_running.ensures.running ∙ w.if-is_running.true in
          let a : int_lt c.in-Some.key (process_in s.processes s.current).priority ≡ false = search rules in
          c.dispatch_first.ensures.dispatches b
          ∙ resched_switches t m (k ∙ rw (r, a) refl)
          (rw (w.self-is, w.lists-is) (w.ready_defer.ensures.readied b ∙ ap (λ p. model.ready p t) w.current-current.ensures.current) ∙ preempt_running t r))
      | else-is_running w ↦ (
          let r : model.is_current (process_in s.processes s.current).state ≡ false
          = sym c.is_running.ensures.running ∙ w.if-is_running.false in
          c.dispatch_first.ensures.dispatches b
          ∙ resched_switches t m (k ∙ rw r refl) (rw (w.self-is, w.lists-is) refl ∙ preempt_stopped t r))
    ]

-- the ready list at the switch has a first process
some_first : (c : goal.After-dispatch_first) → IsSome (first_process (list_at (lists c.if-is_running.lists) 128))
some_first c = elim c.if-is_running.branch [
  | then-is_running+else-is_above w ↦
      rw (w.lists-is, w.ready_defer.ensures.lists, list_at-same (lists c.args.lists.now) 128 _ (omega (arith, queues_of c.args.lists.now)))
      (first_inserted w.current-current.result (process_in c.args.self.now.processes w.current-current.result).priority (list_at (lists c.args.lists.now) 128))
  | else-is_running w ↦ rw w.lists-is (first_with_key (list_at (lists c.args.lists.now) 128) c.in-Some.key c.in-Some.ensures.key)
]

-- so the switch answers a process
some_answer : (c : goal.After-dispatch_first) → IsSome c.dispatch_first.result
some_answer c = let F : Option ℕ → Type 0 = λ o. IsSome o in subst F (sym c.dispatch_first.ensures.first) (some_first c)

pub returns-clause-answer : goal.returns-clause-answer
unfolding tables_of
returns-clause-answer c b =
    let l0 = lists c.args.lists.now in
    let s = c.args.self.now in
    let t = tables_of l0 s b in
    let k = keeps_by_key t (list_at l0 128) c.in-Some.key c.in-Some.ensures.key in
    let keeps : model.keeps_cpu (list_at l0 128) t ≡ false = elim c.if-is_running.branch [
      | then-is_running+else-is_above w ↦ (
          let r : model.is_current (process_in s.processes s.current).state ≡ true
          = sym c.is_running.ensures.running ∙ w.if-is_running.true in
          let a : int_lt c.in-Some.key (process_in s.processes s.current).priority ≡ false = search rules in
          k ∙ rw (r, a) refl)
      | else-is_running w ↦ (
          let r : model.is_current (process_in s.processes s.current).state ≡ false
          = sym c.is_running.ensures.running ∙ w.if-is_running.false in
          k ∙ rw r refl)
    ] in
    some_is c.dispatch_first.result c.dispatch_first.new.self.current (some_answer c) c.dispatch_first.ensures.switched
    ∙ sym (ap (λ d. cond d None (Some c.dispatch_first.new.self.current)) keeps)

pub returns-clause-stayed : goal.returns-clause-stayed
returns-clause-stayed c = none_if_some c.dispatch_first.result _ (some_answer c)

pub returns-clause-same_lists : goal.returns-clause-same_lists
returns-clause-same_lists c = none_if_some c.dispatch_first.result _ (some_answer c)

pub returns-clause-others : goal.returns-clause-others
returns-clause-others c q n =
    rw c.dispatch_first.ensures.lists (list_at-other (lists c.if-is_running.lists) 128 _ q n ∙ elim c.if-is_running.branch [
      | then-is_running+else-is_above w ↦ rw (w.lists-is, w.ready_defer.ensures.lists) (list_at-other (lists c.args.lists.now) 128 _ q n)
      | else-is_running w ↦ rw w.lists-is refl
    ])

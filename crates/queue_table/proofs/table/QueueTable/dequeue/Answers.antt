-- `dequeue`: the entry after the head is taken out, if it is a process.
use Rattle.std.proofs.Common.{◌≡◌, ◌∙◌, List, [], ap, subst, sym, arith}
use Rattle.std.proofs.lemmas.List.{set-get_or}
use Rattle.queue_table.specs.declared.links.Links.{Links}
use Rattle.queue_table.specs.Lists.{first_process, list_at, rest_of, with_list}
use Rattle.queue_table.specs.Table.{lists}
use Rattle.queue_table.specs.Entries.{Chained}
use Rattle.queue_table.proofs.Paths.{Chained-read}
use Rattle.queue_table.proofs.Tables.{Chained-self, chained_of, head_none, head_split, take_at}
use Rattle.queue_table.proofs.Linked.{linked_of}
use Rattle.queue_table.proofs.table.QueueTable.dequeue.Goals as goal

pub unlink-requires-clause-next_in : goal.unlink-requires-clause-next_in
unlink-requires-clause-next_in g c =
    let t = c.args.self.now in
    let s = head_split t c.args.q c.links-first.result.next c.requires.q_in (ap (λ (r : Links). r.next) c.links-first.ensures.entry) c.if-first.true in
    omega (arith, (take_at t c.links-first.result.next c.args.q [] s.0 s.1 c.requires.q_in s.2).2, (chained_of t).size)

pub unlink-requires-clause-prev_in : goal.unlink-requires-clause-prev_in
unlink-requires-clause-prev_in g c =
    let t = c.args.self.now in
    let s = head_split t c.args.q c.links-first.result.next c.requires.q_in (ap (λ (r : Links). r.next) c.links-first.ensures.entry) c.if-first.true in
    omega (arith, (take_at t c.links-first.result.next c.args.q [] s.0 s.1 c.requires.q_in s.2).3, (chained_of t).size)

pub invariant_of-self : goal.invariant_of-self
invariant_of-self g c =
    let t = c.args.self.now in
    let s = head_split t c.args.q c.links-first.result.next c.requires.q_in (ap (λ (r : Links). r.next) c.links-first.ensures.entry) c.if-first.true in
    let F : List Links → Type 0 = λ es. Chained g.row.P g.row.Q es (with_list (lists t) c.args.q s.1) in
    record { linked = ∣ Chained-self g.row.P g.row.Q _ _ (subst F (sym c.unlink.ensures.written) (take_at t c.links-first.result.next c.args.q [] s.0 s.1 c.requires.q_in s.2).0) ∣₁ }

pub returns-then-first-clause-first : goal.returns-then-first-clause-first
returns-then-first-clause-first g c =
    let t = c.args.self.now in
    let s = head_split t c.args.q c.links-first.result.next c.requires.q_in (ap (λ (r : Links). r.next) c.links-first.ensures.entry) c.if-first.true in
    sym (ap first_process s.2)

pub returns-then-first-clause-lists : goal.returns-then-first-clause-lists
unfolding lists
returns-then-first-clause-lists g c =
    let t = c.args.self.now in
    let s = head_split t c.args.q c.links-first.result.next c.requires.q_in (ap (λ (r : Links). r.next) c.links-first.ensures.entry) c.if-first.true in
    let F : List Links → Type 0 = λ es. Chained g.row.P g.row.Q es (with_list (lists t) c.args.q s.1) in
    Chained-read g.row.P g.row.Q _ _ (subst F (sym c.unlink.ensures.written) (take_at t c.links-first.result.next c.args.q [] s.0 s.1 c.requires.q_in s.2).0)
    ∙ ap (λ l. with_list (lists t) c.args.q (rest_of l)) (sym s.2)

pub returns-else-first-clause-first : goal.returns-else-first-clause-first
returns-else-first-clause-first g c =
    let t = c.args.self.now in
    sym (ap first_process (head_none t c.args.q c.links-first.result.next c.requires.q_in (ap (λ (r : Links). r.next) c.links-first.ensures.entry) c.if-first.false))

pub returns-else-first-clause-lists : goal.returns-else-first-clause-lists
returns-else-first-clause-lists g c =
    let t = c.args.self.now in
    let e : list_at (lists t) c.args.q ≡ [] = head_none t c.args.q c.links-first.result.next c.requires.q_in (ap (λ (r : Links). r.next) c.links-first.ensures.entry) c.if-first.false in
    sym (ap (λ l. with_list (lists t) c.args.q (rest_of l)) e ∙ ap (λ l. with_list (lists t) c.args.q l) (sym e) ∙ set-get_or (lists t) c.args.q [])

pub returns-then-first-clause-linked : goal.returns-then-first-clause-linked
returns-then-first-clause-linked g c = linked_of _

pub returns-else-first-clause-linked : goal.returns-else-first-clause-linked
returns-else-first-clause-linked g c = linked_of _

-- `remove_delta`: the entry after p takes over its key, and p is taken out.
use Rattle.std.proofs.Common.{◌≡◌, ◌∙◌, List, ap, subst, sym, arith, w32, to_z, of_z, rules}
use Rattle.std.proofs.lemmas.Int.{ints, to_z-of_z}
use mir.Val.{SFits}
use Rattle.queue_table.specs.declared.links.Links.{Links}
use Rattle.queue_table.specs.Lists.{all_delta_without}
use Rattle.queue_table.specs.Table.{lists}
use Rattle.queue_table.specs.Entries.{Chained, key_at}
use Rattle.queue_table.proofs.Paths.{Chained-read}
use Rattle.queue_table.proofs.Tables.{Chained-self, chained_of, take_placed}
use Rattle.queue_table.proofs.Linked.{linked_of}
use Rattle.queue_table.proofs.DeltaTables.{delta_taken, key_behind}
use Rattle.queue_table.proofs.table.QueueTable.remove_delta.Goals as goal

pub shift_key-requires-clause-at_in : goal.shift_key-requires-clause-at_in
shift_key-requires-clause-at_in g c =
    let e : c.links-next.result.next ≡ _ = ap (λ (r : Links). r.next) c.links-next.ensures.entry in
    omega (arith, e, (take_placed c.args.self.now c.args.p c.requires.present).1, (chained_of c.args.self.now).size)

pub shift_key-requires-clause-raised : goal.shift_key-requires-clause-raised
shift_key-requires-clause-raised g c = λ lt le.
    let t = c.args.self.now in
    let k = key_behind t c.args.p c.links-next.result.next c.requires.present c.requires.delta (ap (λ (r : Links). r.next) c.links-next.ensures.entry) lt in
    let fit : SFits w32 c.links-next.result.key = search rules in
    let key : to_z w32 (of_z w32 c.links-next.result.key) ≡ key_at t.entries.items c.args.p = to_z-of_z w32 c.links-next.result.key fit ∙ ap (λ (r : Links). r.key) c.links-next.ensures.entry in
    omega (arith, ints, k.2, key)

pub shift_key-requires-clause-lowered : goal.shift_key-requires-clause-lowered
shift_key-requires-clause-lowered g c = λ lt le.
    let t = c.args.self.now in
    let k = key_behind t c.args.p c.links-next.result.next c.requires.present c.requires.delta (ap (λ (r : Links). r.next) c.links-next.ensures.entry) lt in
    let fit : SFits w32 c.links-next.result.key = search rules in
    let key : to_z w32 (of_z w32 c.links-next.result.key) ≡ key_at t.entries.items c.args.p = to_z-of_z w32 c.links-next.result.key fit ∙ ap (λ (r : Links). r.key) c.links-next.ensures.entry in
    omega (arith, ints, k.0, k.1, key)

pub unlink-requires-clause-p_in : goal.unlink-requires-clause-p_in
unlink-requires-clause-p_in g c =
    let fit : SFits w32 c.links-next.result.key = search rules in
    let u = delta_taken c.args.self.now c.args.p c.links-next.result _ _ c.requires.present c.links-next.ensures.entry (to_z-of_z w32 c.links-next.result.key fit) c.shift_key.ensures.written in
    omega (arith, u.3)

pub unlink-requires-clause-next_in : goal.unlink-requires-clause-next_in
unlink-requires-clause-next_in g c =
    let fit : SFits w32 c.links-next.result.key = search rules in
    let u = delta_taken c.args.self.now c.args.p c.links-next.result _ _ c.requires.present c.links-next.ensures.entry (to_z-of_z w32 c.links-next.result.key fit) c.shift_key.ensures.written in
    omega (arith, u.1, u.3)

pub unlink-requires-clause-prev_in : goal.unlink-requires-clause-prev_in
unlink-requires-clause-prev_in g c =
    let fit : SFits w32 c.links-next.result.key = search rules in
    let u = delta_taken c.args.self.now c.args.p c.links-next.result _ _ c.requires.present c.links-next.ensures.entry (to_z-of_z w32 c.links-next.result.key fit) c.shift_key.ensures.written in
    omega (arith, u.2, u.3)

pub invariant_of-self : goal.invariant_of-self
invariant_of-self g c =
    let fit : SFits w32 c.links-next.result.key = search rules in
    let u = delta_taken c.args.self.now c.args.p c.links-next.result _ _ c.requires.present c.links-next.ensures.entry (to_z-of_z w32 c.links-next.result.key fit) c.shift_key.ensures.written in
    let F : List Links → Type 0 = λ es. Chained g.row.P g.row.Q es (all_delta_without c.args.p (lists c.args.self.now)) in
    record { linked = ∣ Chained-self g.row.P g.row.Q _ _ (subst F (sym c.unlink.ensures.written) u.0) ∣₁ }

pub returns-clause-lists : goal.returns-clause-lists
unfolding lists
returns-clause-lists g c =
    let fit : SFits w32 c.links-next.result.key = search rules in
    let u = delta_taken c.args.self.now c.args.p c.links-next.result _ _ c.requires.present c.links-next.ensures.entry (to_z-of_z w32 c.links-next.result.key fit) c.shift_key.ensures.written in
    let F : List Links → Type 0 = λ es. Chained g.row.P g.row.Q es (all_delta_without c.args.p (lists c.args.self.now)) in
    Chained-read g.row.P g.row.Q _ _ (subst F (sym c.unlink.ensures.written) u.0)

pub returns-clause-linked : goal.returns-clause-linked
returns-clause-linked g c = linked_of _

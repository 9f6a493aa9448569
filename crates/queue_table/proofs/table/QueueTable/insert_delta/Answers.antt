-- `insert_delta`: the entry at which the walk stopped gets less by what is left of the delay, and p goes in ahead of it.
use Rattle.std.proofs.Common.{◌≡◌, ◌∙◌, ◌++◌, ℤ, pos, neg_ℤ, ◌-ℤ◌, List, ap, subst, arith, rules, w32, to_z, of_z, length}
use Rattle.std.proofs.lemmas.Int.{to_z-of_z, ints}
use mir.Val.{SFits}
use Rattle.queue_table.specs.declared.links.Links.{Links}
use Rattle.queue_table.specs.Lists.{Entry, IsDelta, list_at}
use Rattle.queue_table.specs.Table.{lists}
use Rattle.queue_table.specs.Entries.{tail_of}
use Rattle.queue_table.specs.Walks.{FirstAbove, GoesAtDelay}
use Rattle.queue_table.proofs.Paths.{Chained-read}
use Rattle.queue_table.proofs.Tables.{Chained-self, chained_of}
use Rattle.queue_table.proofs.Walks.{place_between}
use Rattle.queue_table.proofs.Linked.{linked_of}
use Rattle.queue_table.proofs.DeltaTables.{behind_is, delta_put, key_bound, shifted-size}
use Rattle.queue_table.proofs.table.QueueTable.insert_delta.Goals as goal

pub links-before-requires : goal.links-before-requires
links-before-requires g c =
    let i = c.first_later-after.ensures.place in
    let b = place_between c.args.self.now c.args.q i.0 i.1 c.first_later-after.result.0 c.requires.q_in i.2 i.3 in
    (omega arith, b.1)

pub shift_key-requires-clause-at_in : goal.shift_key-requires-clause-at_in
shift_key-requires-clause-at_in g c =
    let i = c.first_later-after.ensures.place in
    let b = place_between c.args.self.now c.args.q i.0 i.1 c.first_later-after.result.0 c.requires.q_in i.2 i.3 in
    omega (arith, b.1, (chained_of c.args.self.now).size)

pub shift_key-requires-clause-raised : goal.shift_key-requires-clause-raised
shift_key-requires-clause-raised g c = λ lt le.
    let t = c.args.self.now in
    let i = c.first_later-after.ensures.place in
    let b = (behind_is t c.args.q i.0 i.1 c.first_later-after.result.0 c.requires.q_in i.2 i.3).1 lt in
    let D : List Entry → Type 0 = λ l. IsDelta l in
    let k = key_bound i.0 b.0 b.1 (subst D (i.2 ∙ ap (λ l. i.0 ++ l) b.2) c.requires.delta) in
    let A : List Entry → Type 0 = λ l. FirstAbove c.first_later-after.result.1 l in
    let above = subst A b.2 i.6 in
    let f : SFits w32 c.first_later-after.result.1 = search rules in
    omega (arith, ints, k.0, k.1, b.3, above, i.4)

pub shift_key-requires-clause-lowered : goal.shift_key-requires-clause-lowered
shift_key-requires-clause-lowered g c = λ lt le.
    let t = c.args.self.now in
    let i = c.first_later-after.ensures.place in
    let b = (behind_is t c.args.q i.0 i.1 c.first_later-after.result.0 c.requires.q_in i.2 i.3).1 lt in
    let D : List Entry → Type 0 = λ l. IsDelta l in
    let k = key_bound i.0 b.0 b.1 (subst D (i.2 ∙ ap (λ l. i.0 ++ l) b.2) c.requires.delta) in
    let A : List Entry → Type 0 = λ l. FirstAbove c.first_later-after.result.1 l in
    let above = subst A b.2 i.6 in
    let f : SFits w32 c.first_later-after.result.1 = search rules in
    omega (arith, ints, k.0, k.1, b.3, above, i.4)

pub link_between-requires-clause-p_in : goal.link_between-requires-clause-p_in
link_between-requires-clause-p_in g c =
    let t = c.args.self.now in
    let z = ap length c.shift_key.ensures.written ∙ shifted-size t.entries.items c.first_later-after.result.0 _ g.row.P in
    omega (arith, (chained_of t).size, z)

pub link_between-requires-clause-before_in : goal.link_between-requires-clause-before_in
link_between-requires-clause-before_in g c =
    let t = c.args.self.now in
    let z = ap length c.shift_key.ensures.written ∙ shifted-size t.entries.items c.first_later-after.result.0 _ g.row.P in
    let i = c.first_later-after.ensures.place in
    let b = place_between t c.args.q i.0 i.1 c.first_later-after.result.0 c.requires.q_in i.2 i.3 in
    let e : c.links-before.result.prev ≡ _ = ap (λ (r : Links). r.prev) c.links-before.ensures.entry in
    omega (arith, e, b.2, (chained_of t).size, z)

pub link_between-requires-clause-after_in : goal.link_between-requires-clause-after_in
link_between-requires-clause-after_in g c =
    let t = c.args.self.now in
    let z = ap length c.shift_key.ensures.written ∙ shifted-size t.entries.items c.first_later-after.result.0 _ g.row.P in
    let i = c.first_later-after.ensures.place in
    let b = place_between t c.args.q i.0 i.1 c.first_later-after.result.0 c.requires.q_in i.2 i.3 in
    omega (arith, b.1, (chained_of t).size, z)

pub invariant_of-self : goal.invariant_of-self
invariant_of-self g c =
    let i = c.first_later-after.ensures.place in
    let left : ℤ = c.first_later-after.result.1 in
    let f : SFits w32 left = search rules in
    let same : to_z w32 (of_z w32 left) ≡ left = to_z-of_z w32 left f in
    let by : to_z w32 (of_z w32 (pos 0 -ℤ to_z w32 (of_z w32 left))) ≡ neg_ℤ left = omega (arith, ints, same, f, i.4) in
    let goes : GoesAtDelay (list_at (lists c.args.self.now) c.args.q) c.args.delay (tail_of g.row.P c.args.q) c.first_later-after.result.0 left =
    (i.0, i.1, i.2, i.3, i.4, omega (arith, ints, i.5, c.ranges.delay), i.6) in
    let k = delta_put c.args.self.now c.args.p c.args.q c.args.delay _ _ _ _ c.links-before.result _ _
    c.requires.p_in c.requires.q_in c.requires.absent c.requires.delta goes c.links-before.ensures.entry by same c.shift_key.ensures.written c.link_between.ensures.written in
    record { linked = ∣ Chained-self g.row.P g.row.Q _ _ k ∣₁ }

pub returns-clause-lists : goal.returns-clause-lists
unfolding lists
returns-clause-lists g c =
    let i = c.first_later-after.ensures.place in
    let left : ℤ = c.first_later-after.result.1 in
    let f : SFits w32 left = search rules in
    let same : to_z w32 (of_z w32 left) ≡ left = to_z-of_z w32 left f in
    let by : to_z w32 (of_z w32 (pos 0 -ℤ to_z w32 (of_z w32 left))) ≡ neg_ℤ left = omega (arith, ints, same, f, i.4) in
    let goes : GoesAtDelay (list_at (lists c.args.self.now) c.args.q) c.args.delay (tail_of g.row.P c.args.q) c.first_later-after.result.0 left =
    (i.0, i.1, i.2, i.3, i.4, omega (arith, ints, i.5, c.ranges.delay), i.6) in
    let k = delta_put c.args.self.now c.args.p c.args.q c.args.delay _ _ _ _ c.links-before.result _ _
    c.requires.p_in c.requires.q_in c.requires.absent c.requires.delta goes c.links-before.ensures.entry by same c.shift_key.ensures.written c.link_between.ensures.written in
    Chained-read g.row.P g.row.Q _ _ k

pub returns-clause-linked : goal.returns-clause-linked
returns-clause-linked g c = linked_of _

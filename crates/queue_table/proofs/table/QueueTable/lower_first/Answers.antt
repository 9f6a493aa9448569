-- `lower_first`: the first key, which all delays count, falls by one.
use Rattle.std.proofs.Common.{◌≡◌, ◌∙◌, Some, [], refl, sym, ap, arith}
use Rattle.std.proofs.lemmas.Int.{ints}
use Rattle.queue_table.specs.declared.links.Links.{Links}
use Rattle.queue_table.specs.Lists.{first_key_of, list_at}
use Rattle.queue_table.specs.Table.{lists}
use Rattle.queue_table.proofs.Paths.{Chained-read}
use Rattle.queue_table.proofs.Tables.{Chained-self, chained_of, next_of}
use Rattle.queue_table.proofs.Linked.{linked_of}
use Rattle.queue_table.proofs.DeltaTables.{behind_is, delta_lowered, some_and}
use Rattle.queue_table.proofs.table.QueueTable.lower_first.Goals as goal

pub shift_key-requires-clause-at_in : goal.shift_key-requires-clause-at_in
shift_key-requires-clause-at_in g c =
    let t = c.args.self.now in
    let b = behind_is t c.args.q [] (list_at (lists t) c.args.q) c.links-first.result.next c.requires.q_in refl (ap (λ (r : Links). r.next) c.links-first.ensures.entry ∙ next_of t c.args.q c.requires.q_in) in
    omega (arith, b.0, (chained_of t).size)

pub shift_key-requires-clause-raised : goal.shift_key-requires-clause-raised
shift_key-requires-clause-raised g c = λ lt le. absurd (omega (arith, ints, le))

pub shift_key-requires-clause-lowered : goal.shift_key-requires-clause-lowered
shift_key-requires-clause-lowered g c = λ lt le.
    let t = c.args.self.now in
    let b = behind_is t c.args.q [] (list_at (lists t) c.args.q) c.links-first.result.next c.requires.q_in refl (ap (λ (r : Links). r.next) c.links-first.ensures.entry ∙ next_of t c.args.q c.requires.q_in) in
    let d = b.1 lt in
    let k = some_and _ _ c.requires.due in
    let first : Some d.0.1 ≡ Some k.0 = sym (ap first_key_of d.2) ∙ k.1 in
    let same : d.0.1 ≡ k.0 = cc in
    omega (arith, ints, k.2, d.3, same)

pub invariant_of-self : goal.invariant_of-self
invariant_of-self g c =
    let t = c.args.self.now in
    record { linked = ∣ Chained-self g.row.P g.row.Q _ _ (delta_lowered t c.args.q c.links-first.result.next (some_and _ _ c.requires.due).0 _ c.requires.q_in (some_and _ _ c.requires.due).1 (ap (λ (r : Links). r.next) c.links-first.ensures.entry) c.shift_key.ensures.written) ∣₁ }

pub returns-clause-lists : goal.returns-clause-lists
unfolding lists
returns-clause-lists g c =
    let t = c.args.self.now in
    Chained-read g.row.P g.row.Q _ _ (delta_lowered t c.args.q c.links-first.result.next (some_and _ _ c.requires.due).0 _ c.requires.q_in (some_and _ _ c.requires.due).1 (ap (λ (r : Links). r.next) c.links-first.ensures.entry) c.shift_key.ensures.written)

pub returns-clause-linked : goal.returns-clause-linked
returns-clause-linked g c = linked_of _

-- `first_later`: the walk passes the delays that are not greater, and stops at the first that is, or at the tail.
use Rattle.std.proofs.Common.{◌≡◌, ◌∙◌, ◌++◌, List, [], ◌∷◌, ap, subst, sym, refl, arith, rules, w32, to_z}
use Rattle.std.proofs.lemmas.Int.{ints}
use mir.Val.{SFits}
use Rattle.queue_table.specs.declared.links.Links.{Links}
use Rattle.queue_table.specs.Lists.{Entry, list_at}
use Rattle.queue_table.specs.Table.{lists}
use Rattle.queue_table.specs.Entries.{key_at, next_at}
use Rattle.queue_table.specs.Walks.{FirstAbove}
use Rattle.queue_table.proofs.Deltas.{key_sum-append}
use Rattle.queue_table.proofs.Tables.{next_of}
use Rattle.queue_table.proofs.Walks.{at_tail, step}
use Rattle.queue_table.proofs.DeltaTables.{key_at_step}
use Rattle.queue_table.proofs.table.QueueTable.first_later.Goals as goal

pub loop-at-init : goal.loop-at-init
loop-at-init g c =
    let t = c.args.self.now in
    let fit : SFits w32 c.args.delay = c.ranges.delay in
    ([], list_at (lists t) c.args.q, refl, ap (λ (r : Links). r.next) c.links-at.ensures.entry ∙ next_of t c.args.q c.requires.q_in, omega (arith, ints), omega (arith, ints))

pub overflow_sub-left : goal.overflow_sub-left
overflow_sub-left g c =
    let t = c.args.self.now in
    let i = c.loop-at.invariant in
    let s = key_at_step t c.args.q i.0 i.1 c.loop-at.at c.requires.q_in c.requires.delta i.2 i.3 c.loop-at-test.true in
    let k1 : c.links.result.key ≡ key_at t.entries.items c.loop-at.at = ap (λ (r : Links). r.key) c.links.ensures.entry in
    let k2 : c.links-left.result.key ≡ key_at t.entries.items c.loop-at.at = ap (λ (r : Links). r.key) c.links-left.ensures.entry in
    let f1 : SFits w32 c.links.result.key = search rules in
    let f2 : SFits w32 c.links-left.result.key = search rules in
    omega (arith, ints, s, k1, k2, i.4)

pub loop-at-smaller : goal.loop-at-smaller
loop-at-smaller g c =
    let t = c.args.self.now in
    let i = c.loop-at.invariant in
    let s = step t c.args.q i.0 i.1 c.loop-at.at c.requires.q_in i.2 i.3 c.loop-at-test.true in
    let e : c.links-at-in-loop-at.result.next ≡ next_at t.entries.items c.loop-at.at = ap (λ (r : Links). r.next) c.links-at-in-loop-at.ensures.entry in
    rw e s.falls

pub loop-at-preserved : goal.loop-at-preserved
loop-at-preserved g c =
    let t = c.args.self.now in
    let i = c.loop-at.invariant in
    let s = step t c.args.q i.0 i.1 c.loop-at.at c.requires.q_in i.2 i.3 c.loop-at-test.true in
    let z = key_at_step t c.args.q i.0 i.1 c.loop-at.at c.requires.q_in c.requires.delta i.2 i.3 c.loop-at-test.true in
    let e : c.links-at-in-loop-at.result.next ≡ next_at t.entries.items c.loop-at.at = ap (λ (r : Links). r.next) c.links-at-in-loop-at.ensures.entry in
    let k1 : c.links.result.key ≡ key_at t.entries.items c.loop-at.at = ap (λ (r : Links). r.key) c.links.ensures.entry in
    let k2 : c.links-left.result.key ≡ key_at t.entries.items c.loop-at.at = ap (λ (r : Links). r.key) c.links-left.ensures.entry in
    let f1 : SFits w32 c.links.result.key = search rules in
    let f2 : SFits w32 c.links-left.result.key = search rules in
    (i.0 ++ s.entry ∷ [], s.rest, s.list_is, e ∙ s.next_is, omega (arith, ints, z, k1, k2, i.4), omega (arith, ints, z, k1, k2, i.4, i.5, s.key_is, key_sum-append i.0 (s.entry ∷ [])))

pub returns-else-links-left : goal.returns-else-links-left
returns-else-links-left g c =
    let t = c.args.self.now in
    let i = c.loop-at.invariant in
    let s = step t c.args.q i.0 i.1 c.loop-at.at c.requires.q_in i.2 i.3 c.loop-at-test.true in
    let k1 : c.links.result.key ≡ key_at t.entries.items c.loop-at.at = ap (λ (r : Links). r.key) c.links.ensures.entry in
    let f1 : SFits w32 c.links.result.key = search rules in
    let A : List Entry → Type 0 = λ l. FirstAbove (to_z w32 c.loop-at.left-bits) l in
    record { place = (i.0, i.1, i.2, i.3, i.4, omega (arith, ints, i.5, c.ranges.delay), subst A (sym s.post_is) (omega (arith, ints, k1, s.key_is))) }

pub returns-after-loop-at : goal.returns-after-loop-at
returns-after-loop-at g c =
    let t = c.args.self.now in
    let i = c.loop-at.invariant in
    let nil = at_tail t c.args.q i.0 i.1 c.loop-at.at c.requires.q_in i.2 i.3 c.loop-at-test.false in
    let A : List Entry → Type 0 = λ l. FirstAbove (to_z w32 c.loop-at.left-bits) l in
    record { place = (i.0, i.1, i.2, i.3, i.4, omega (arith, ints, i.5, c.ranges.delay), subst A (sym nil) tt) }

-- `first_below`: the walk passes the keys that are not less, and stops at the first that is, or at the tail.
use Rattle.std.proofs.Common.{◌≡◌, ◌∙◌, ◌++◌, ℤ, ◌≤ℤ◌, ◌<ℤ◌, List, [], ◌∷◌, ap, subst, sym, refl, arith, w32, to_z, of_z}
use Rattle.std.proofs.lemmas.Int.{to_z-of_z, ints}
use Rattle.queue_table.specs.declared.links.Links.{Links}
use Rattle.queue_table.specs.Lists.{Entry, KeysAtLeast, KeysBelow, list_at}
use Rattle.queue_table.specs.Table.{lists}
use Rattle.queue_table.specs.Entries.{next_at}
use Rattle.queue_table.proofs.Orders.{KeysAtLeast-push}
use Rattle.queue_table.proofs.Tables.{next_of}
use Rattle.queue_table.proofs.Walks.{at_tail, step, stop_at_key}
use Rattle.queue_table.proofs.table.QueueTable.first_below.Goals as goal

pub loop-at-init : goal.loop-at-init
loop-at-init g c =
    let t = c.args.self.now in
    ([], list_at (lists t) c.args.q, refl, tt, ap (λ (r : Links). r.next) c.links-at.ensures.entry ∙ next_of t c.args.q c.requires.q_in)

pub loop-at-smaller : goal.loop-at-smaller
loop-at-smaller g c =
    let t = c.args.self.now in
    let i = c.loop-at.invariant in
    let s = step t c.args.q i.0 i.1 c.loop-at.at c.requires.q_in i.2 i.4 c.loop-at-test.true in
    let e : c.links-at-in-loop-at.result.next ≡ next_at t.entries.items c.loop-at.at = ap (λ (r : Links). r.next) c.links-at-in-loop-at.ensures.entry in
    rw e s.falls

pub loop-at-preserved : goal.loop-at-preserved
loop-at-preserved g c =
    let t = c.args.self.now in
    let i = c.loop-at.invariant in
    let kk : to_z w32 (of_z w32 c.args.key) ≡ c.args.key = to_z-of_z w32 c.args.key c.ranges.key in
    let K : ℤ → Type 0 = λ k. KeysAtLeast k c.loop-at.invariant.0 in
    let i3 : KeysAtLeast c.args.key c.loop-at.invariant.0 = subst K kk c.loop-at.invariant.3 in
    let s = step t c.args.q i.0 i.1 c.loop-at.at c.requires.q_in i.2 i.4 c.loop-at-test.true in
    let e : c.links-at-in-loop-at.result.next ≡ next_at t.entries.items c.loop-at.at = ap (λ (r : Links). r.next) c.links-at-in-loop-at.ensures.entry in
    let k : c.links.result.key ≡ s.entry.1 = ap (λ (r : Links). r.key) c.links.ensures.entry ∙ s.key_is in
    let L : ℤ → Type 0 = λ j. c.args.key ≤ℤ j in
    let K' : ℤ → Type 0 = λ k. KeysAtLeast k (i.0 ++ s.entry ∷ []) in
    (i.0 ++ s.entry ∷ [], s.rest, s.list_is, subst K' (sym kk) (KeysAtLeast-push c.args.key i.0 s.entry i3 (subst L k (omega (arith, ints)))), e ∙ s.next_is)

pub returns-else-links-key : goal.returns-else-links-key
returns-else-links-key g c =
    let t = c.args.self.now in
    let i = c.loop-at.invariant in
    let kk : to_z w32 (of_z w32 c.args.key) ≡ c.args.key = to_z-of_z w32 c.args.key c.ranges.key in
    let K : ℤ → Type 0 = λ k. KeysAtLeast k c.loop-at.invariant.0 in
    let i3 : KeysAtLeast c.args.key c.loop-at.invariant.0 = subst K kk c.loop-at.invariant.3 in
    let L : ℤ → Type 0 = λ j. j <ℤ c.args.key in
    record { place = (i.0, i.1, i.2, i3, stop_at_key t c.args.q i.0 i.1 c.loop-at.at c.args.key c.requires.q_in i.2 i.4 c.loop-at-test.true c.requires.by_key (subst L (ap (λ (r : Links). r.key) c.links.ensures.entry) (omega (arith, ints))), i.4) }

pub returns-after-loop-at : goal.returns-after-loop-at
returns-after-loop-at g c =
    let t = c.args.self.now in
    let i = c.loop-at.invariant in
    let kk : to_z w32 (of_z w32 c.args.key) ≡ c.args.key = to_z-of_z w32 c.args.key c.ranges.key in
    let K : ℤ → Type 0 = λ k. KeysAtLeast k c.loop-at.invariant.0 in
    let i3 : KeysAtLeast c.args.key c.loop-at.invariant.0 = subst K kk c.loop-at.invariant.3 in
    let B : List Entry → Type 0 = λ l. KeysBelow c.args.key l in
    record { place = (i.0, i.1, i.2, i3, subst B (sym (at_tail t c.args.q i.0 i.1 c.loop-at.at c.requires.q_in i.2 i.4 c.loop-at-test.false)) tt, i.4) }

-- `place_of`: a process that is its own next is nowhere, and from any other the walk ends at the tail of its queue.
use Rattle.std.proofs.Common.{◌≡◌, ◌∙◌, ◌++◌, ◌-◌, ◌/◌, [], ◌∷◌, Some, ap, sym, refl, arith}
use Rattle.queue_table.specs.declared.links.Links.{Links}
use Rattle.queue_table.specs.Entries.{first_to, next_at, tail_of}
use Rattle.queue_table.proofs.Tables.{place_none-by_next, place_some-by_next, placed}
use Rattle.queue_table.proofs.Walks.{at_tail, step}
use Rattle.queue_table.proofs.table.QueueTable.place_of.Goals as goal

pub returns-then-links-p-clause-place : goal.returns-then-links-p-clause-place
returns-then-links-p-clause-place g c =
    let t = c.args.self.now in
    sym (place_none-by_next t c.args.p c.requires.p_in (sym (ap (λ (r : Links). r.next) c.links.ensures.entry) ∙ c.if-links-p.true))

pub loop-at-init : goal.loop-at-init
loop-at-init g c =
    let t = c.args.self.now in
    let s = place_some-by_next t c.args.p c.requires.p_in (λ e. c.if-links-p.false (ap (λ (r : Links). r.next) c.links.ensures.entry ∙ e)) in
    let d = placed t c.args.p s.0 s.1 in
    (s.0, d.before, (c.args.p, d.key) ∷ d.behind, s.1, d.is, refl)

pub loop-at-smaller : goal.loop-at-smaller
loop-at-smaller g c =
    let t = c.args.self.now in
    let i = c.loop-at.invariant in
    let s = step t i.0 i.1 i.2 c.loop-at.at (placed t c.args.p i.0 i.3).queue_in i.4 i.5 c.loop-at-test.true in
    let e : c.links-at.result.next ≡ next_at t.entries.items c.loop-at.at = ap (λ (r : Links). r.next) c.links-at.ensures.entry in
    rw e s.falls

pub loop-at-preserved : goal.loop-at-preserved
loop-at-preserved g c =
    let t = c.args.self.now in
    let i = c.loop-at.invariant in
    let s = step t i.0 i.1 i.2 c.loop-at.at (placed t c.args.p i.0 i.3).queue_in i.4 i.5 c.loop-at-test.true in
    (i.0, i.1 ++ s.entry ∷ [], s.rest, i.3, s.list_is, ap (λ (r : Links). r.next) c.links-at.ensures.entry ∙ s.next_is)

pub returns-clause-place : goal.returns-clause-place
returns-clause-place g c =
    let t = c.args.self.now in
    let i = c.loop-at.invariant in
    let nil : i.2 ≡ [] = at_tail t i.0 i.1 i.2 c.loop-at.at (placed t c.args.p i.0 i.3).queue_in i.4 i.5 c.loop-at-test.false in
    let e : c.loop-at.at ≡ tail_of g.row.P i.0 = i.5 ∙ ap (λ l. first_to l (tail_of g.row.P i.0)) nil in
    let q : (c.loop-at.at - g.row.P) / 2 ≡ i.0 = omega arith in
    ap Some q ∙ sym i.3

pub returns-clause-below : goal.returns-clause-below
returns-clause-below g c =
    let t = c.args.self.now in
    let i = c.loop-at.invariant in
    let nil : i.2 ≡ [] = at_tail t i.0 i.1 i.2 c.loop-at.at (placed t c.args.p i.0 i.3).queue_in i.4 i.5 c.loop-at-test.false in
    let e : c.loop-at.at ≡ tail_of g.row.P i.0 = i.5 ∙ ap (λ l. first_to l (tail_of g.row.P i.0)) nil in
    omega (arith, (placed t c.args.p i.0 i.3).queue_in)

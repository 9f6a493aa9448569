-- `agrees`: the walk goes on while both lists do, and they differ if it stops before the tail.
use Rattle.std.proofs.Common.{◌≡◌, ◌∙◌, ℕ, ap, sym, subst, refl, w32, of_z, true, [], ◌+◌, ◌*◌, rules}
use Rattle.queue_table.specs.declared.links.Links.{Links}
use Rattle.queue_table.specs.Lists.{list_at}
use Rattle.queue_table.specs.Table.{lists}
use Rattle.queue_table.specs.Entries.{key_at, next_at, tail_of}
use Rattle.queue_table.proofs.Agreement.{AgreeSoFar, agree, go_on, same_first, same_here}
use Rattle.queue_table.proofs.Tables.{next_of}
use Rattle.queue_table.proofs.Walks.{step}
use Rattle.queue_table.proofs.table.QueueTable.agrees.Goals as goal
use Rattle.queue_table.proofs.table.QueueTable.agrees.Goals.{else-with_keys-via-then-with_keys+else-here-there, else-with_keys-via-else-with_keys}

pub returns-then-links-at : goal.returns-then-links-at
returns-then-links-at g c =
    let t = c.args.self.now in
    let u = c.args.other.now in
    let q = c.args.q in
    let here : c.links-at.result.next ≡ next_at t.entries.items (g.row.P + 2 * q) = ap (λ (r : Links). r.next) c.links-at.ensures.entry in
    let there : c.links.result.next ≡ next_at u.entries.items (g.row.P + 2 * q) = ap (λ (r : Links). r.next) c.links.ensures.entry in
    record {
      same = (
        λ no. absurd (search rules),
        λ same. absurd (c.if-links-at.true (there ∙ next_of u q c.requires.q_in
            ∙ sym (same_first c.args.with_keys (list_at (lists t) q) (list_at (lists u) q) (tail_of g.row.P q) same) ∙ sym (next_of t q c.requires.q_in) ∙ sym here)),
      );
    }

pub loop-at-init : goal.loop-at-init
loop-at-init g c =
    let t = c.args.self.now in
    let u = c.args.other.now in
    let q = c.args.q in
    let here : c.links-at.result.next ≡ next_at t.entries.items (g.row.P + 2 * q) = ap (λ (r : Links). r.next) c.links-at.ensures.entry in
    let there : c.links.result.next ≡ next_at u.entries.items (g.row.P + 2 * q) = ap (λ (r : Links). r.next) c.links.ensures.entry in
    record {
      pre = [];
      post = list_at (lists t) q;
      pre' = [];
      post' = list_at (lists u) q;
      list = refl;
      list' = refl;
      passed = refl;
      place = here ∙ next_of t q c.requires.q_in;
      place' = sym c.if-links-at.false ∙ there ∙ next_of u q c.requires.q_in;
    }

pub returns-then-here-there : goal.returns-then-here-there
returns-then-here-there g c =
    let t = c.args.self.now in
    let u = c.args.other.now in
    let here : c.links-here.result.key ≡ key_at t.entries.items c.loop-at.at = ap (λ (r : Links). r.key) c.links-here.ensures.entry in
    let there : c.links-there.result.key ≡ key_at u.entries.items c.loop-at.at = ap (λ (r : Links). r.key) c.links-there.ensures.entry in
    let differ : c.links-here.result.key ≡ c.links-there.result.key → ⊥ = λ e. c.if-here-there.true (ap (of_z w32) e) in
    record {
      same = (
        λ no. absurd (search rules),
        λ same. absurd (differ (here ∙ (same_here t u c.args.q c.args.with_keys c.loop-at.at c.requires.q_in c.loop-at.invariant c.loop-at-test.true same).0 c.if-with_keys.true ∙ sym there)),
      );
    }

pub returns-then-here-there-2 : goal.returns-then-here-there-2
returns-then-here-there-2 g c =
    let t = c.args.self.now in
    let u = c.args.other.now in
    let here : c.links-here.result.next ≡ next_at t.entries.items c.loop-at.at = ap (λ (r : Links). r.next) c.links-here.ensures.entry in
    let there : c.links-there.result.next ≡ next_at u.entries.items c.loop-at.at = ap (λ (r : Links). r.next) c.links-there.ensures.entry in
    record {
      same = (
        λ no. absurd (search rules),
        λ same. absurd (c.if-here-there-2.true (here ∙ (same_here t u c.args.q c.args.with_keys c.loop-at.at c.requires.q_in c.loop-at.invariant c.loop-at-test.true same).1 ∙ sym there)),
      );
    }

pub loop-at-smaller : goal.loop-at-smaller
loop-at-smaller g c =
    let t = c.args.self.now in
    let i = c.loop-at.invariant in
    let s = step t c.args.q i.pre i.post c.loop-at.at c.requires.q_in i.list i.place c.loop-at-test.true in
    let e : c.links-here.result.next ≡ next_at t.entries.items c.loop-at.at = ap (λ (r : Links). r.next) c.links-here.ensures.entry in
    rw e s.falls

pub loop-at-preserved : goal.loop-at-preserved
loop-at-preserved g c =
    let t = c.args.self.now in
    let u = c.args.other.now in
    let keys : c.args.with_keys ≡ true → c.links-here.result.key ≡ c.links-there.result.key =
    elim c.else-with_keys.branch [ else-with_keys-via-then-with_keys+else-here-there w ↦ λ y. search rules | else-with_keys-via-else-with_keys w ↦ λ y. absurd (search rules) ] in
    let here : c.links-here.result.next ≡ next_at t.entries.items c.loop-at.at = ap (λ (r : Links). r.next) c.links-here.ensures.entry in
    let there : c.links-there.result.next ≡ next_at u.entries.items c.loop-at.at = ap (λ (r : Links). r.next) c.links-there.ensures.entry in
    let key : c.args.with_keys ≡ true → key_at t.entries.items c.loop-at.at ≡ key_at u.entries.items c.loop-at.at =
    λ y. sym (ap (λ (r : Links). r.key) c.links-here.ensures.entry) ∙ keys y ∙ ap (λ (r : Links). r.key) c.links-there.ensures.entry in
    let A : ℕ → Type 0 = λ n. AgreeSoFar t u c.args.q c.args.with_keys n in
    subst A (sym here) (go_on t u c.args.q c.args.with_keys c.loop-at.at c.requires.q_in c.loop-at.invariant c.loop-at-test.true key (sym here ∙ c.if-here-there-2.false ∙ there))

pub returns : goal.returns
returns g c =
    record { same = (λ _. agree c.args.self.now c.args.other.now c.args.q c.args.with_keys c.loop-at.at c.requires.q_in c.loop-at.invariant (search rules), λ _. search rules) }

-- `unlink`: its three writes as one equation.
use Rattle.std.proofs.Common.{◌≡◌, ◌<◌, get_or, set, length, ap, subst, arith, rules}
use Rattle.std.proofs.lemmas.List.{get_or_read}
use Rattle.std.proofs.lemmas.Int.{to_z-of_z}
use mir.Syntax.{w32}
use mir.Val.{SFits}
use Rattle.queue_table.specs.declared.links.Links.{Links}
use Rattle.queue_table.specs.Entries.{blank, next_at, prev_at}
use Rattle.queue_table.specs.Writes.{rewired}
use Rattle.queue_table.proofs.Writes.{rewired-written}
use Rattle.queue_table.proofs.links.unlink.Goals as goal

pub returns : goal.returns
returns c =
    let es = c.args.entries.now in
    let i : Links = c.index.result.now in
    let fit : SFits w32 c.index.result.now.key = search rules in
    let e : c.index.result.now ≡ get_or es.items c.args.p blank = get_or_read es.items c.args.p _ (omega arith) c.index.ensures blank in
    let F : Links → Type 0 = λ r. set (set (set es.items i.prev (record { next = i.next; prev = c.index_mut.result.now.prev; key = c.index_mut.result.now.key })) i.next (record { next = c.index_mut-2.result.now.next; prev = i.prev; key = c.index_mut-2.result.now.key })) c.args.p (record { next = c.args.p; prev = c.args.p; key = i.key })
    ≡ rewired es.items r.prev r.next r.next r.prev c.args.p (record { next = c.args.p; prev = c.args.p; key = r.key }) in
    let ep : i.prev ≡ prev_at es.items c.args.p = ap (λ (r : Links). r.prev) e in
    let en : i.next ≡ next_at es.items c.args.p = ap (λ (r : Links). r.next) e in
    let in_prev : i.prev < length es.items = omega (arith, ep) in
    let in_next : i.next < length es.items = omega (arith, en) in
    record {
      written = rw (to_z-of_z w32 c.index.result.now.key fit)
          (subst F e (rewired-written es.items i.prev i.next i.next i.prev c.args.p _ c.index_mut.result.now c.index_mut-2.result.now in_prev in_next c.index_mut.ensures.value c.index_mut-2.ensures.value));
    }

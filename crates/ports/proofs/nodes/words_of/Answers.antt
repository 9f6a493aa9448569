use Rattle.std.proofs.Common.{◌+◌, ℕ, List, Option, refl, sym, subst, arith}
use Rattle.std.specs.Option.{IsSome}
use Rattle.arrayvec.specs.ArrayVec.{array_vec_len}
use Rattle.queue_table.specs.Lists.{list_at}
use Rattle.queue_table.specs.Table.{lists}
use Rattle.ports.proofs.Walking.{IsWalk, next_known, walk_goes_on}
use Rattle.ports.proofs.nodes.words_of.Goals as goal

pub offset_bounds-words-node : goal.offset_bounds-words-node
offset_bounds-words-node c =
    let W : Option ℕ → Type 0 = IsWalk c.args.words.now (list_at (lists c.args.links.now) c.args.queue) c.loop-next.found.items (array_vec_len c.loop-next.found) in
    let k = next_known c.args.links.now c.args.words.now c.args.queue c.loop-next.found.items (array_vec_len c.loop-next.found) c.in-Some.node
    (subst W c.in-Some.is c.loop-next.invariant) in
    let b = k.below in omega (arith, b)

pub bounds-words-node : goal.bounds-words-node
bounds-words-node c =
    let W : Option ℕ → Type 0 = IsWalk c.args.words.now (list_at (lists c.args.links.now) c.args.queue) c.loop-next.found.items (array_vec_len c.loop-next.found) in
    (next_known c.args.links.now c.args.words.now c.args.queue c.loop-next.found.items (array_vec_len c.loop-next.found) c.in-Some.node
    (subst W c.in-Some.is c.loop-next.invariant)).below

pub next_after-next-requires : goal.next_after-next-requires
next_after-next-requires c =
    let W : Option ℕ → Type 0 = IsWalk c.args.words.now (list_at (lists c.args.links.now) c.args.queue) c.loop-next.found.items (array_vec_len c.loop-next.found) in
    let k = next_known c.args.links.now c.args.words.now c.args.queue c.loop-next.found.items (array_vec_len c.loop-next.found) c.in-Some.node
    (subst W c.in-Some.is c.loop-next.invariant) in
    (omega arith, (k.below, subst IsSome (sym k.placed) refl))

pub loop-next-preserved : goal.loop-next-preserved
loop-next-preserved c =
    let l = list_at (lists c.args.links.now) c.args.queue in
    let W : Option ℕ → Type 0 = IsWalk c.args.words.now l c.loop-next.found.items (array_vec_len c.loop-next.found) in
    let A : List ℕ → Type 0 = λ found. IsWalk c.args.words.now l found (array_vec_len c.loop-next.found + 1) c.next_after-next.result in
    let B : ℕ → Type 0 = λ n. IsWalk c.args.words.now l c.push.new.self.items n c.next_after-next.result in
    subst B (sym c.push.ensures.len) (subst A (sym c.push.ensures.items)
    (walk_goes_on c.args.links.now c.args.words.now c.args.queue c.loop-next.found.items (array_vec_len c.loop-next.found) c.in-Some.node c.next_after-next.result
    (subst W c.in-Some.is c.loop-next.invariant) c.next_after-next.ensures.next))

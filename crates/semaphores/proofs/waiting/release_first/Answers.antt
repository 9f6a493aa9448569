use Rattle.std.proofs.Common.{◌+◌, ℕ, List, length, arith, sym, subst}
use Rattle.arrayvec.specs.ArrayVec.{array_vec_len}
use Rattle.queue_table.specs.Table.{lists}
use Rattle.semaphores.proofs.Releasing.{IsReleasing, none_released, released_one}
use Rattle.semaphores.proofs.waiting.release_first.Goals as goal

pub loop-sem-init : goal.loop-sem-init
loop-sem-init c =
    let t = c.args.lists.now in
    let s = c.args.procs.now in
    let A : List ℕ → Type 0 = λ d. IsReleasing (lists t) s c.args.sem c.args.most (lists t) s d (length d) in
    subst A (sym c.new-released.ensures) (none_released t s c.args.sem c.args.most c.requires.fits)

pub loop-sem-preserved : goal.loop-sem-preserved
loop-sem-preserved c =
    let ls0 = lists c.args.lists.now in
    let s0 = c.args.procs.now in
    let ls = lists c.release.new.lists in
    let s = c.release.new.procs in
    let done = c.loop-sem.released.items in
    let n = array_vec_len c.loop-sem.released in
    let A : List ℕ → Type 0 = λ d. IsReleasing ls0 s0 c.args.sem c.args.most ls s d (n + 1) in
    let B : ℕ → Type 0 = λ m. IsReleasing ls0 s0 c.args.sem c.args.most ls s c.push.new.self.items m in
    subst B (sym c.push.ensures.len) (subst A (sym c.push.ensures.items)
    (released_one ls0 s0 c.args.sem c.args.most (lists c.loop-sem.lists) c.loop-sem.procs done n ls s c.in-Some.p c.loop-sem.invariant
    (omega (arith, c.loop-sem-test.true, c.len.ensures.value))
    c.in-Some.ensures.first c.release.ensures.readied c.release.ensures.rest c.release.ensures.others c.release.ensures.fits))

use Rattle.std.proofs.Common.{◌+◌, ◌*◌, ◌≤◌, length, arith, subst}
use Rattle.xinu_model.specs.Machine.{CallState}
use Rattle.reference_ports.proofs.GrantedRange.{place_within}
use Rattle.reference_ports.proofs.new_pools.take_place.Goals as goal

pub returns-clause-within : goal.returns-clause-within
returns-clause-within c =
    let P : CallState → Type 0 = λ d. d.state.parts.heap.low + 8 * length d.state.parts.heap.cells ≤ 1048576 in
    let within = c.size_of.ensures.within in
    let cells = c.size_of.ensures.cells in
    place_within c.args.n c.args.m.now.state.parts.heap c.memory_taken.new.m.state.parts.heap c.memory_taken.result c.memory_taken.ensures.grants
    (subst P c.m.view_is (omega (arith, within, cells)))

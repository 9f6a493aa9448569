-- The list of all registers is that of the state.
use Rattle.std.proofs.Common.{ap}
use Rattle.gdb_answers.proofs.Places.{hart_at}
use Rattle.kernel_state.specs.Values.{KernelValue}
use Rattle.gdb_answers.proofs.answers.hart_of.Goals as goal

pub returns : goal.returns
returns c =
    let harts = ap (λ (v : KernelValue). v.call.state.harts) c.k.view_is in
    record { hart = hart_at _ _ _ _ _ harts c.index.ensures.index c.requires.harts.many c.index.ensures.bound }

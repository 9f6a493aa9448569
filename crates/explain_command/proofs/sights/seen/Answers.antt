use Rattle.std.proofs.Common.{ap, ◌∙◌}
use Rattle.kernel_state.specs.Values.{KernelValue}
use Rattle.explain_command.proofs.Registers.{seen_hart, seen_word}
use Rattle.explain_command.proofs.sights.seen.Goals as goal

pub returns-clause-state : goal.returns-clause-state
returns-clause-state c =
    let harts = ap (λ (v : KernelValue). v.call.state.harts) c.k.view_is in
    let memory = ap (λ (v : KernelValue). v.call.state.memory) c.k.view_is in
    let current = c.current-process.ensures.current ∙ ap (λ (v : KernelValue). v.call.state.tables.current) c.k.view_is in
    let hart = seen_hart _ _ _ _ _ harts (c.index.ensures.index ∙ current) c.requires.sound.harts.many c.index.ensures.bound in
    record { process = current; deed = c.deed_in.ensures.deed; hart = hart; word = seen_word _ _ _ _ _ hart memory c.read32-word.ensures; call = c.call_of.ensures.call }

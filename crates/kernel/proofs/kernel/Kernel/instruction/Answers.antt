use Rattle.std.proofs.Common.{◌≡◌, ◌≢◌, ap, rules, sym, subst}
use Rattle.kernel.specs.Kernels.{kernel_result}
use Rattle.part_laws.specs.Preserve.{KeepsAll}
use Rattle.kernel_state.specs.Results.{idle, IsIdle}
use Rattle.kernel.proofs.Kept.{executed_sound, idle_may_call, kept_idle}
use Rattle.xinu_model.specs.Events.{with_executed}
use Rattle.xinu_model.specs.Isa.Exec.{exec}
use Rattle.xinu_model.specs.Machine.{CallResult, CallState, current_hart}
use Rattle.xinu_model.specs.Sound.State.{IsSound}
use Rattle.kernel.proofs.Values.{came_is}
use Rattle.kernel.proofs.kernel.Kernel.instruction.Goals as goal

pub invariant_of-self : goal.invariant_of-self
invariant_of-self c =
    let h = c.args.self.now.came in
    let s = h.call.state in
    let old : KeepsAll h = subst KeepsAll (came_is c.self.view_is) c.self.invariant.keeps in
    let e : kernel_result (record { state = c.instruction.new.self; answer = c.self.inside.answer }) ≡ idle (with_executed (exec (current_hart s) s.memory) s) = search rules in
    record { keeps = subst KeepsAll (sym e) (kept_idle _ (executed_sound s (idle_may_call h c.requires.idle old c.requires.not_null))) }

pub returns-clause-sound : goal.returns-clause-sound
returns-clause-sound c =
    let h = kernel_result c.self.inside in
    let s = h.call.state in
    let i : IsIdle h = subst IsIdle (sym (came_is c.self.view_is)) c.requires.idle in
    let P : CallResult → Type 0 = λ h. h.call.state.tables.current ≢ 0 in
    let n = subst P (sym (came_is c.self.view_is)) c.requires.not_null in
    subst IsSound (sym (ap (λ (d : CallState). d.state) c.instruction.ensures.state)) (executed_sound s (idle_may_call h i c.self.invariant.keeps n))

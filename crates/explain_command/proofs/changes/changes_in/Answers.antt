-- A step of a process that lives on.
use Rattle.std.proofs.Common.{◌≡◌, ◌∙◌, ap, false, sym, None, if◌then◌else◌}
use Rattle.kernel_state.specs.Values.{KernelValue}
use Rattle.xinu_base.specs.declared.registers.Hart.{Hart}
use Rattle.xinu_base.specs.declared.processes.Process.{Process}
use Rattle.xinu_model.specs.Tables.{is_free, state_at}
use Rattle.explain_command.proofs.KeptRegisters.{change_of, not_free}
use Rattle.explain_command.proofs.Registers.{seen_hart}
use Rattle.explain_command.specs.Changes.{has_ended, stored_in}
use Rattle.explain_command.proofs.changes.changes_in.Goals.{in-Free, in_default}
use Rattle.explain_command.proofs.changes.changes_in.Goals as goal

pub returns : goal.returns
returns c =
    let s = c.args.k.now.call.state in
    let seen = c.args.seen.now in
    let state : c.process.result.now.state ≡ state_at s.tables seen.process = ap (λ (x : Process). x.state) c.process.ensures.process
    ∙ ap (λ (v : KernelValue). state_at v.call.state.tables seen.process) c.k.view_is in
    let lives : has_ended s seen ≡ false = elim c.match-matches.branch [
      | in-Free w ↦ cc (w.matches-is, c.if-matches.false)
      | in_default w ↦ ap is_free (sym state) ∙ not_free _ w.in_default.not-Free
    ] in
    let harts = ap (λ (v : KernelValue). v.call.state.harts) c.k.view_is in
    let hart = seen_hart _ _ _ _ _ harts c.index.ensures.index c.requires.sound.harts.many c.index.ensures.bound in
    let memory = stored_in seen.deed seen.word seen.hart s.memory in
    record {
      changed = record {
        register = change_of _ _ _ _ _ lives (ap (λ (h : Hart). h.regs) hart) c.changed.ensures.first;
        stored = c.stored_in.ensures.stored ∙ sym (ap (λ b. if b then None else memory) lives);
      };
    }

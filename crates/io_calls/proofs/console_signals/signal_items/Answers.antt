use Rattle.std.proofs.Common.{◌∙◌, ap, subst, sym}
use Rattle.kernel_state.specs.Results.{IsStart}
use Rattle.kernel_state.specs.States.{kernel_state}
use Rattle.kernel_state.specs.Values.{KernelValue}
use Rattle.xinu_base.specs.Constants.{OK}
use Rattle.xinu_model.specs.Console.Taking.{TY_ISEM}
use Rattle.xinu_model.specs.Machine.{start}
use Rattle.xinu_model.specs.Semaphores.Waiting.{signalled_times}
use Rattle.io_calls.proofs.ConsoleSignals.{signals_are}
use Rattle.kernel_state.proofs.Together.{releasing}
use Rattle.kernel_state.proofs.Values.{call_is}
use Rattle.io_calls.proofs.console_signals.signal_items.Goals as goal

pub returns : goal.returns
returns c =
    let k = kernel_state c.k.inside in
    let n = c.args.count in
    let sem = c.input_sem.result in
    let u = c.signaln-released.new.self in
    let i = subst IsStart (sym (call_is c.k.view_is)) c.requires.start in
    record {
      signalled = c.release.ensures.released
          ∙ ap (λ l. releasing OK l u k.state) c.as_slice.ensures.value
          ∙ signals_are k.state sem n c.signaln-released.result.items u c.signaln-released.ensures.released c.signaln-released.ensures.signalled
          ∙ ap (λ s. signalled_times s n (start k.state)) c.input_sem.ensures.input
          ∙ sym (ap (signalled_times TY_ISEM n) i.is)
          ∙ ap (signalled_times TY_ISEM n) (call_is c.k.view_is);
      image = c.release.ensures.image ∙ ap (λ (v : KernelValue). v.image) c.k.view_is;
    }

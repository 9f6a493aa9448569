use Rattle.std.proofs.Common.{◌≡◌, ◌∙◌, ◌≤◌, ap, subst, sym}
use Rattle.kernel_state.specs.Results.{IsStart}
use Rattle.kernel_state.specs.States.{kernel_state}
use Rattle.kernel_state.specs.Values.{KernelValue}
use Rattle.xinu_model.specs.Console.Receiving.{received}
use Rattle.xinu_model.specs.Console.Signals.{receiving}
use Rattle.xinu_model.specs.Console.State.{Console}
use Rattle.xinu_model.specs.Console.Taking.{console_of, TY_ISEM, with_console}
use Rattle.xinu_model.specs.Machine.{CallState, Silent}
use Rattle.xinu_model.specs.Semaphores.Waiting.{signalled_times}
use Rattle.xinu_model.specs.Sound.Console.{IsConsole}
use Rattle.io_calls.proofs.ConsoleSignals.{few_tokens}
use Rattle.kernel_state.proofs.Values.{call_is}
use Rattle.io_calls.proofs.console_signals.on_type.Goals as goal
use Rattle.part_laws.proofs.ConsoleRoom.{few_received}

pub signal_items-requires-clause-few : goal.signal_items-requires-clause-few
signal_items-requires-clause-few c =
    let d = c.args.k.now.call in
    let same : c.k.inside.tty ≡ console_of d.state = ap (λ (d : CallState). console_of d.state) (call_is c.k.view_is) in
    subst (λ n. n ≤ 128) (sym (c.receive-count.ensures.count ∙ ap (λ k. (received c.args.b k).count) same))
    (few_received c.args.b (console_of d.state) c.requires.console.itself)

pub signal_items-requires-clause-tokens : goal.signal_items-requires-clause-tokens
signal_items-requires-clause-tokens c =
    let k = kernel_state c.k.inside in
    let P : CallState → Type 0 = λ d. IsConsole d.state.tables (console_of d.state) in
    few_tokens k.state.tables (console_of k.state) (subst P (sym (call_is c.k.view_is)) c.requires.console)

pub returns : goal.returns
returns c =
    let k = kernel_state c.k.inside in
    let i = subst IsStart (sym (call_is c.k.view_is)) c.requires.start in
    let b = c.args.b in
    let now : Console → CallState → CallState = λ x d. record d { state = with_console x d.state } in
    record {
      received = ap (λ (d : CallState). record { call = d; answer = Silent })
          (c.signal_items.ensures.signalled
          ∙ ap (λ n. signalled_times TY_ISEM n (now c.receive-count.new.self k)) c.receive-count.ensures.count
          ∙ ap (λ x. signalled_times TY_ISEM (received b (console_of k.state)).count (now x k)) c.receive-count.ensures.console
          ∙ ap (λ d. signalled_times TY_ISEM (received b (console_of k.state)).count (now (received b (console_of k.state)).console d)) i.is)
          ∙ ap (λ (d : CallState). receiving b d.state) (call_is c.k.view_is);
      image = c.signal_items.ensures.image ∙ ap (λ (v : KernelValue). v.image) c.k.view_is;
    }

use Rattle.std.proofs.Common.{◌∙◌, ap, subst, sym}
use Rattle.std.proofs.lemmas.Bool.{ne_eqb}
use Rattle.io_calls.specs.Consoles.{Begins}
use Rattle.kernel_state.specs.States.{kernel_state}
use Rattle.kernel_state.specs.Values.{KernelValue}
use Rattle.xinu_base.specs.Constants.{OK}
use Rattle.xinu_model.specs.Console.Signals.{console_control}
use Rattle.xinu_model.specs.Console.Taking.{console_of}
use Rattle.xinu_model.specs.Machine.{CallState, Returns}
use Rattle.io_calls.proofs.ConsoleSignals.{control_done, control_missing, few_counted, few_tokens}
use Rattle.kernel_state.proofs.Values.{call_is}
use Rattle.io_calls.proofs.console_signals.console_control.Goals as goal

pub signal_items-requires-clause-few : goal.signal_items-requires-clause-few
signal_items-requires-clause-few c =
    let k = kernel_state c.k.inside in
    let b = subst Begins (sym (call_is c.k.view_is)) c.requires.begins in
    few_counted c.args.f c.in-Some.count (console_of k.state) b.console.itself (sym c.control.ensures.count ∙ c.in-Some.is)

pub signal_items-requires-clause-tokens : goal.signal_items-requires-clause-tokens
signal_items-requires-clause-tokens c =
    let k = kernel_state c.k.inside in
    let b = subst Begins (sym (call_is c.k.view_is)) c.requires.begins in
    few_tokens k.state.tables (console_of k.state) b.console

pub returns-in-Some : goal.returns-in-Some
returns-in-Some c =
    let k = kernel_state c.k.inside in
    let b = subst Begins (sym (call_is c.k.view_is)) c.requires.begins in
    record {
      control = ap (λ (d : CallState). record { call = d; answer = Returns OK }) c.signal_items.ensures.signalled
          ∙ control_done c.args.f c.in-Some.count k c.control.new.self b.starts (ne_eqb c.args.f 4 c.if-f-eq-TC_ICHARS.false)
          (sym c.control.ensures.count ∙ c.in-Some.is) c.control.ensures.console
          ∙ ap (λ (d : CallState). console_control c.args.f d.state) (call_is c.k.view_is);
      image = c.signal_items.ensures.image ∙ ap (λ (v : KernelValue). v.image) c.k.view_is;
    }

pub returns-in-None : goal.returns-in-None
returns-in-None c =
    let k = kernel_state c.k.inside in
    let b = subst Begins (sym (call_is c.k.view_is)) c.requires.begins in
    record {
      control = control_missing c.args.f k c.control.new.self b.starts (ne_eqb c.args.f 4 c.if-f-eq-TC_ICHARS.false)
          (sym c.control.ensures.count ∙ c.in-None.is) c.control.ensures.console
          ∙ ap (λ (d : CallState). console_control c.args.f d.state) (call_is c.k.view_is);
      image = ap (λ (v : KernelValue). v.image) c.k.view_is;
    }

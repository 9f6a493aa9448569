use Rattle.std.proofs.Common.{ℕ, [], ◌∷◌, List, ◌∙◌, ap, subst}
use Rattle.host_port.specs.Printing.{Prints}
use Rattle.kernel_state.specs.Beginnings.{BeginsAs}
use Rattle.machine.specs.FileEffects.{made_lines}
use Rattle.xinu_base.specs.declared.lines.TranscriptLine.{TranscriptLine}
use Rattle.xinu_base.specs.declared.lines.TranscriptLine.TheVariants as line
use Rattle.xinu_base.specs.declared.syscalls.Call.{Call}
use Rattle.xinu_model.specs.Calls.{called}
use Rattle.xinu_model.specs.Machine.{end_of_event}
use Rattle.xinu_model.specs.Text.{shown}
use Rattle.machine.proofs.Closing.{effect_as, lines_printed}
use Rattle.machine.proofs.FirstCalls.{call_began}
use Rattle.machine.proofs.ShownLines.{shown_both}
use Rattle.machine.proofs.events.make_call.Goals as goal

pub returns : goal.returns
returns g c =
    let s = c.args.kernel.now.came.call.state in
    let begun = c.begin_core-begun.result in
    let result = c.begin_core-begun.new.self.came in
    let first : ℕ → Call → List TranscriptLine = λ p call. line.Call p call ∷ made_lines begun p in
    let lines = shown_both _ _ _ _ _ _ (line.Call c.current-current.result c.call_of-call.result ∷ []) (made_lines begun c.current-current.result)
    c.print_line.ensures.prints c.print_made.ensures.prints in
    let P : ℕ → Call → Type 0 = λ p call. Prints c.args.out.now c.print_made.new.out (g.H.Host.view c.args.host.now) (g.H.Host.view c.print_made.new.host) (shown c.args.out.now.plain (first p call)) in
    let Q : Call → Type 0 = λ call. BeginsAs begun (called call.number call.args s) s result in
    let e = ap (λ (n : ℕ). end_of_event n [] result) c.current-current.ensures.current in
    record {
      effect = call_began begun s c.end_event.new.kernel.came.call.state result c.end_event.result _ _ _ _ (subst Q c.call_of-call.ensures.call c.begin_core-begun.ensures.called)
          (lines_printed s.tables.current _ result _ _ _ _ _ _ _ _
          (subst (P s.tables.current) c.call_of-call.ensures.call (subst (λ p. P p c.call_of-call.result) c.current-current.ensures.current lines))
          (effect_as _ _ _ _ _ _ _ _ e c.end_event.ensures.effect));
      idle = c.end_event.ensures.idle;
      sound = c.end_event.ensures.sound;
      image = c.end_event.ensures.image ∙ c.begin_core-begun.ensures.image;
    }

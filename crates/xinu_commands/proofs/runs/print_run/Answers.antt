use Rattle.std.proofs.Common.{◌∙◌, Some, ap, sym}
use Rattle.std.specs.Prelude.{option_map}
use Rattle.run_inputs.specs.Conversions.{host_refusal}
use Rattle.xinu_commands.proofs.Printed.{all_printed}
use Rattle.xinu_commands.proofs.RunSent.{transcript_sent}
use Rattle.xinu_commands.proofs.runs.print_run.Goals as goal

pub returns-in-None : goal.returns-in-None
returns-in-None g c =
    let s = c.args.machine.now.state in
    let printed = all_printed s c.args.schedule c.take_events-end.new.machine.state c.take_events-end.result _ _ _ _ _ _ _ _ _ _ c.start.ensures c.take_events-end.ensures c.dump.ensures c.print_end.ensures in
    record { prints = transcript_sent c.args.plain s c.args.schedule c.take_events-end.new.machine.state _ _ _ _ _ c.new-out.ensures.fresh printed (ap (option_map host_refusal) (sym c.in-None.is ∙ c.failed.ensures.failed)) }

pub returns : goal.returns
returns g c =
    let s = c.args.machine.now.state in
    let printed = all_printed s c.args.schedule c.take_events-end.new.machine.state c.take_events-end.result _ _ _ _ _ _ _ _ _ _ c.start.ensures c.take_events-end.ensures c.dump.ensures c.print_end.ensures in
    record { prints = transcript_sent c.args.plain s c.args.schedule c.take_events-end.new.machine.state _ _ _ _ _ c.new-out.ensures.fresh printed (ap Some c.from.ensures ∙ ap (option_map host_refusal) (sym c.in-Some.is ∙ c.failed.ensures.failed)) }

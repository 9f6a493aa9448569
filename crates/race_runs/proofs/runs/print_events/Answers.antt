use Rattle.std.proofs.Common.{◌∙◌, ◌&&◌, not, ap}
use Rattle.race_runs.proofs.Texts.{forced_by_text, text_of_run}
use Rattle.race_runs.proofs.runs.print_events.Goals as goal
use Rattle.race_runs.specs.Forced.{tells_files}

pub returns : goal.returns
returns c = record {
  prints = text_of_run c.args.machine.now.state c.take_events-end.new.machine.state c.args.events.now c.take_events-end.result.0 c.take_events-end.result.1 c.new-out.result _ _ _
      c.in_ok-text.text.items c.new-out.ensures.fresh c.new-host.ensures.empty c.in_ok-text.ensures.sent c.take_events-end.ensures.prints;
  forced = forced_by_text c.args.machine.now.state c.take_events-end.new.machine.state c.args.events.now c.take_events-end.result.0 c.take_events-end.result.1
      c.is_forced-is_forced.result c.new-out.result _ _ _ c.in_ok-text.text.items c.new-out.ensures.fresh c.new-host.ensures.empty c.in_ok-text.ensures.sent
      (c.is_forced-is_forced.ensures.forced ∙ ap (λ t. c.take_events-end.result.1 && not (tells_files t)) c.deref.ensures.value) c.take_events-end.ensures.prints;
  more = c.take_events-end.ensures.more;
}

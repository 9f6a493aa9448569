-- The line was printed.
use Rattle.std.proofs.Common.{◌∷◌, []}
use Rattle.replayed_run.proofs.Sent.{text-printed}
use Rattle.xinu_base.specs.declared.lines.TranscriptLine.TheVariants.{Switch}
use Rattle.xinu_model.specs.Text.{text}
use Rattle.replayed_run.proofs.events.start.Goals as goal

pub returns-in-Some-clause-printed : goal.returns-in-Some-clause-printed
returns-in-Some-clause-printed c =
    let lines = Switch c.args.machine.now.state.tables.current ∷ [] in
    c.in-Some.ensures.sent (text lines) (text-printed c.new-out.result _ _ _ lines c.new-out.ensures.fresh c.new-host.ensures.empty c.start.ensures)

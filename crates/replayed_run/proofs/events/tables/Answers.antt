-- The tables were printed.
use Rattle.replayed_run.proofs.Sent.{text-printed}
use Rattle.xinu_model.specs.Text.{tables_of, text}
use Rattle.replayed_run.proofs.events.tables.Goals as goal

pub returns-in-Some-clause-printed : goal.returns-in-Some-clause-printed
returns-in-Some-clause-printed c =
    let lines = tables_of c.args.machine.now.state in
    c.in-Some.ensures.sent (text lines) (text-printed c.new-out.result _ _ _ lines c.new-out.ensures.fresh c.new-host.ensures.empty c.dump.ensures)

use Rattle.explain_command.proofs.running.tell_at.Goals as goal

pub returns : goal.returns
returns c = record {
  tells = record {
    last = c.take_until.new.replay;
    inputs = c.in_ok-take_until.ensures.inputs;
    runs = c.runs.ensures.runs;
    reached = c.in_ok-take_until.ensures.reached;
    rest = c.in_ok-state_text.ensures.parts.0;
    is = c.in_ok-state_text.ensures.parts.1;
  };
}

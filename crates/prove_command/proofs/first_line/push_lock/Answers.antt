use Rattle.prove_command.proofs.Lines.{locked}
use Rattle.prove_command.proofs.first_line.push_lock.Goals as goal

pub returns : goal.returns
returns c = record {
  lock = locked c.args.text.now.items _ _ c.push_always.new.text.items c.args.sem c.in_ok-extend_from_slice.ensures.items c.in_ok-push_number.ensures.number
      c.in_ok-push_always.ensures.always;
}

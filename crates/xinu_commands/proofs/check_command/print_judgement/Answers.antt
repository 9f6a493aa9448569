use Rattle.run_inputs.specs.Fetching.{refusal_of}
use Rattle.xinu_commands.proofs.Judged.{judgement_sent}
use Rattle.xinu_commands.proofs.check_command.print_judgement.Goals as goal

pub returns : goal.returns
returns g c =
    let h = g.H.Host.view c.args.host.now in
    let k = g.H.Host.view c.print_line.new.host in
    record { sends = judgement_sent c.args.is_transcript c.judgement_line.result (refusal_of c.print_line.result) h k c.judgement_line.ensures.line c.print_line.ensures.sends }

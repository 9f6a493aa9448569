use Rattle.std.proofs.Common.{ap}
use Rattle.host_port.specs.Printing.{Printing}
use Rattle.xinu_commands.proofs.Sent.{line_printed, text_sent}
use Rattle.xinu_commands.proofs.sending.print_line.Goals as goal

pub returns : goal.returns
returns g c = record {
  sends = text_sent c.args.line.now _ _ _ _ _ (ap (λ (x : Printing). x.failure) c.new-out.ensures.fresh) (line_printed _ _ _ _ _ c.new-out.ensures.fresh c.line.ensures.prints) c.printed.ensures.refused;
}

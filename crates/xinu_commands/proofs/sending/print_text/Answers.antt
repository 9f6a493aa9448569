use Rattle.std.proofs.Common.{ap}
use Rattle.std.specs.Prelude.{Err}
use Rattle.xinu_commands.proofs.SoakSent.{text_emitted, text_refused}
use Rattle.xinu_commands.proofs.sending.print_text.Goals as goal

pub returns-in-Ok : goal.returns-in-Ok
returns-in-Ok g c = record {
  sends = text_emitted c.args.text.now c.in-Ok.ensures.sent.part.0 _ _ c.in-Ok.ensures.sent.whole c.in-Ok.ensures.sent.part.1 c.in-Ok.ensures.cause.later;
}

pub returns-in-Err : goal.returns-in-Err
returns-in-Err g c = record {
  sends = text_refused c.args.text.now c.in-Err.ensures.sent.part.0 c.in-Err.fault c.from.result _ _ c.from.ensures c.in-Err.ensures.sent.part.1 (λ is. c.in-Err.ensures.cause.failed (ap Err is))
      c.in-Err.ensures.cause.later;
}

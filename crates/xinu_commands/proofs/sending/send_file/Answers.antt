use Rattle.std.proofs.Common.{ap}
use Rattle.std.specs.Prelude.{Err}
use Rattle.host_port.specs.Outside.{naming}
use Rattle.xinu_commands.proofs.Sent.{file_written, unnamed, unwritten}
use Rattle.xinu_commands.proofs.sending.send_file.Goals as goal

pub returns-in-Err : goal.returns-in-Err
returns-in-Err g c =
    let call = naming c.args.channel c.args.name.now in
    let refused = c.in-Err.ensures.named.refused in
    record {
      sends = unnamed c.args.channel c.requires.not_out c.requires.not_fault call c.args.bytes.now c.in-Err.fault c.from.result refused.1 refused.0 _ _ c.from.ensures refused.2
          (λ is. c.in-Err.ensures.cause.failed (ap Err is)) c.in-Err.ensures.cause.later;
    }

pub returns-in-Ok-emit : goal.returns-in-Ok-emit
returns-in-Ok-emit g c =
    let call = naming c.args.channel c.args.name.now in
    record {
      sends = file_written c.args.channel c.requires.not_out c.requires.not_fault call c.args.bytes.now _ _ _ c.in-Ok.ensures.named.ok c.in-Ok-emit.ensures.sent.whole c.in-Ok.ensures.cause.later
          c.in-Ok-emit.ensures.cause.later;
    }

pub returns-in-Err-emit : goal.returns-in-Err-emit
returns-in-Err-emit g c =
    let call = naming c.args.channel c.args.name.now in
    record {
      sends = unwritten c.args.channel c.requires.not_out c.requires.not_fault call c.args.bytes.now c.in-Err-emit.fault c.from-in-Err-emit.result c.in-Err-emit.ensures.sent.part.0 _ _ _ c.from-in-Err-emit.ensures
          c.in-Ok.ensures.named.ok c.in-Err-emit.ensures.sent.part.1 (λ is. c.in-Err-emit.ensures.cause.failed (ap Err is)) c.in-Ok.ensures.cause.later c.in-Err-emit.ensures.cause.later;
    }

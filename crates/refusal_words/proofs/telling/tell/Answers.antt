use Rattle.std.proofs.Common.{◌∙◌, ap, Err}
use Rattle.refusal_words.proofs.Told.{line_failed, line_lost, line_sent}
use Rattle.refusal_words.proofs.telling.tell.Goals as goal

pub returns-in-Ok : goal.returns-in-Ok
returns-in-Ok g c = record {
  tells = line_sent c.args.refusal c.args.line.now c.refuse-status.result _ _ _ c.refuse-status.ensures c.in-Ok.ensures.sent.whole c.in-Ok.ensures.cause.later;
}

pub returns-in-Err-Failed : goal.returns-in-Err-Failed
returns-in-Err-Failed g c =
    let sent = c.in-Err-Failed.ensures.sent in
    let cause = c.in-Err-Failed.ensures.cause in
    record {
      tells = line_failed c.args.refusal c.args.line.now c.refuse-status.result sent.part.0 _ _ _ c.refuse-status.ensures sent.part.1
          (c.emit.ensures.cause.failed (c.in-Err-Failed.is ∙ ap Err c.in-Err-Failed.field-0-is)) cause.later;
    }

pub returns-in-Err-NoMemory : goal.returns-in-Err-NoMemory
returns-in-Err-NoMemory g c =
    let sent = c.in-Err-NoMemory.ensures.sent in
    record {
      tells = line_lost c.args.refusal c.args.line.now c.refuse-status.result sent.part.0 _ _ _ c.refuse-status.ensures sent.part.1
          c.in-Err-NoMemory.ensures.cause.later;
    }

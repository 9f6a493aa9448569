-- The text was sent, the host failed, or memory ran out.
use Rattle.std.proofs.Common.{◌∙◌, ap, Err, refl}
use Rattle.listing_command.proofs.Endings.{ends_failed, ends_lost}
use Rattle.listing_command.specs.Answers.{Lists}
use Rattle.listing_command.proofs.command.send.Goals as goal

pub returns-in-Ok : goal.returns-in-Ok
returns-in-Ok g c = record {
  sends = record {
    gives = λ three seven. (refl, c.in-Ok.ensures.sent.whole);
    failed = λ three. cc;
    later = c.in-Ok.ensures.cause.later;
  };
}

pub returns-in-Err-Failed : goal.returns-in-Err-Failed
returns-in-Err-Failed g c = record {
  sends = ends_failed (Lists c.args.text.now) _ _ _ _ _ c.emit.ensures.cause.later
      (c.emit.ensures.cause.failed (c.in-Err-Failed.is ∙ ap Err c.in-Err-Failed.field-0-is))
      c.tell_refusal.ensures.tells;
}

pub returns-in-Err-NoMemory : goal.returns-in-Err-NoMemory
returns-in-Err-NoMemory g c = record {
  sends = ends_lost (Lists c.args.text.now) _ _ _ _ _ c.emit.ensures.cause.later c.tell_refusal-in-Err-NoMemory.ensures.tells;
}

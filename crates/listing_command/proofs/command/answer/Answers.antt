-- What a source deserves, by what it is assembled to.
use Rattle.std.proofs.Common.{◌∙◌}
use Rattle.listing_command.proofs.Endings.{ends_listed, ends_long, ends_refused}
use Rattle.listing_command.proofs.command.answer.Goals as goal

pub returns-then-source-gt-LONGEST_SOURCE : goal.returns-then-source-gt-LONGEST_SOURCE
returns-then-source-gt-LONGEST_SOURCE g c = record {
  answers = ends_long c.args.source.now c.as_bytes.result.now _ _ _ c.if-source-gt-LONGEST_SOURCE.true c.as_bytes.ensures.value
      c.tell.ensures.tells;
}

pub returns-in-Ok : goal.returns-in-Ok
returns-in-Ok g c =
    let made = c.in-Ok.ensures.assembles in
    let sent = rw (c.as_slice.ensures.value ∙ c.in-Ok.ensures.listed) at c.send.ensures.sends in
    record { answers = ends_listed c.args.source.now made.0 _ _ _ c.if-source-gt-LONGEST_SOURCE.false made.1 sent }

pub returns-in-Err : goal.returns-in-Err
returns-in-Err g c = record {
  answers = ends_refused c.args.source.now c.in-Err.fault _ _ _ c.if-source-gt-LONGEST_SOURCE.false c.in-Err.ensures.fault
      c.refuse_source.ensures.tells;
}

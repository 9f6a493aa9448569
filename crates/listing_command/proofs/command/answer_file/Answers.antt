-- What the bytes of a file deserve.
use Rattle.std.proofs.Common.{◌∙◌, ◌≤◌, length, ap, arith, Err, []}
use Rattle.run_inputs.specs.declared.refusals.Refusal.TheVariants as refusal
use Rattle.listing_command.specs.Answers.{Lists}
use Rattle.listing_command.proofs.Endings.{answers_fetched, answers_unread, ends_failed, ends_lost, never_done}
use Rattle.listing_command.proofs.command.answer_file.Goals as goal

pub returns-in-Ok : goal.returns-in-Ok
returns-in-Ok g c =
    let ends = rw c.as_slice.ensures.value at c.answer.ensures.answers in
    let len = rw c.as_slice.ensures.value at c.as_slice.ensures.len in
    let few : length c.in-Ok.source.items ≤ 1048577 = omega (arith, len, c.in-Ok.ensures.bound) in
    record {
      answers = answers_fetched c.args.name.now c.in-Ok.source.items _ _ _ _ few c.in-Ok.ensures.bytes
          c.in-Ok.ensures.calls.ok c.in-Ok.ensures.cause.later ends;
    }

pub returns-in-Err-Failed : goal.returns-in-Err-Failed
returns-in-Err-Failed g c = record {
  answers = answers_unread c.args.name.now _ _ _
      (ends_failed (Lists []) _ _ _ _ _ c.fetch.ensures.cause.later
      (c.fetch.ensures.cause.failed (c.in-Err-Failed.is ∙ ap Err c.in-Err-Failed.field-0-is)) c.tell_cause.ensures.tells)
      (never_done _ refusal.HostFault _ _ _ (λ e. cc) c.tell_cause.ensures.tells);
}

pub returns-in-Err-NoMemory : goal.returns-in-Err-NoMemory
returns-in-Err-NoMemory g c = record {
  answers = answers_unread c.args.name.now _ _ _
      (ends_lost (Lists []) _ _ _ _ _ c.fetch.ensures.cause.later c.tell_refusal.ensures.tells)
      (never_done _ refusal.NoMemory _ _ _ (λ e. cc) c.tell_refusal.ensures.tells);
}

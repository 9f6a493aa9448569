use Rattle.std.proofs.Common.{◌∙◌, ap, sym, List, ℕ, Err}
use Rattle.std.specs.Prelude.{option_map}
use Rattle.preemptions.specs.Preempted.{preempted_at}
use Rattle.schedule_text.specs.Written.{schedule_text}
use Rattle.races_command.proofs.Sending.{name_stops, text_stops}
use Rattle.races_command.proofs.reports.write_found.Goals as goal

pub returns-in-Err : goal.returns-in-Err
returns-in-Err g c =
    let refused = c.in-Err.ensures.named.refused in
    record {
      writes = name_stops _ c.in-Some.name.now c.args.outcome c.args.base.now c.args.table.now c.in-Some-row_numbered.row.now c.in-Ok.text.items refused.0 refused.1
          c.in-Err.fault _ _ _ (ap (option_map (λ s. s.now)) c.in-Some.is)
          (sym c.row_numbered.ensures.row ∙ ap (option_map (λ r. r.now)) c.in-Some-row_numbered.is)
          (c.in-Ok.ensures.text ∙ ap (λ (p : List ℕ). schedule_text (preempted_at p c.args.base.now)) c.first.ensures.first) c.host_failed.ensures refused.2
          c.in-Err.ensures.cause.later (λ failed. c.name_out.ensures.cause.failed (c.in-Err.is ∙ ap Err failed));
    }

pub returns : goal.returns
returns g c =
    let part = c.in-Err-emit.ensures.sent.part in
    record {
      writes = text_stops _ c.in-Some.name.now c.args.outcome c.args.base.now c.args.table.now c.in-Some-row_numbered.row.now c.as_slice.result.now part.0
          c.in-Err-emit.fault _ _ _ _ (ap (option_map (λ s. s.now)) c.in-Some.is)
          (sym c.row_numbered.ensures.row ∙ ap (option_map (λ r. r.now)) c.in-Some-row_numbered.is)
          (c.as_slice.ensures.value ∙ c.in-Ok.ensures.text ∙ ap (λ (p : List ℕ). schedule_text (preempted_at p c.args.base.now)) c.first.ensures.first)
          c.host_failed-in-Err-emit.ensures c.in-Ok-name_out.ensures.named.ok part.1 c.in-Ok-name_out.ensures.cause.later c.in-Err-emit.ensures.cause.later
          (λ failed. c.emit.ensures.cause.failed (c.in-Err-emit.is ∙ ap Err failed));
    }

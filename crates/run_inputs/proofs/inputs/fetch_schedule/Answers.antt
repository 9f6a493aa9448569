use Rattle.std.proofs.Common.{arith}
use Rattle.schedule_file.specs.ScheduleFiles.{Reads}
use Rattle.run_inputs.specs.Reading.{ReadsSchedule}
use Rattle.run_inputs.proofs.ImageFiles.{of_error}
use Rattle.run_inputs.proofs.InputFaults.{schedule_fault-long, schedule_fault-short}
use Rattle.run_inputs.proofs.ReadSchedules.{schedule_bad, schedule_events, schedule_unfetched, schedule_unread}
use Rattle.run_inputs.proofs.inputs.fetch_schedule.Goals as goal

pub returns-in_err-text-clause-reads : goal.returns-in_err-text-clause-reads
returns-in_err-text-clause-reads g c =
    let h = g.H.Host.view c.args.host.now in
    let k = g.H.Host.view c.fetch_file.new.host in
    let r = c.in_err-text.field-0.0 in
    of_error c.from_residual.result r (λ x. ReadsSchedule c.args.name.now x h k) c.from_residual.ensures.0 c.from_residual.ensures.1
    (schedule_unfetched c.args.name.now r h k c.in_err-text.ensures.cause c.in_err-text.ensures.fetches)

pub returns-then-len-gt-LONGEST_SCHEDULE : goal.returns-then-len-gt-LONGEST_SCHEDULE
returns-then-len-gt-LONGEST_SCHEDULE g c =
    let h = g.H.Host.view c.args.host.now in
    let k = g.H.Host.view c.fetch_file.new.host in
    let items = c.in_ok-text.text.items in
    record {
      reads = schedule_bad c.args.name.now 0 items h k c.in_ok-text.ensures.bytes.front c.in_ok-text.ensures.fetches (schedule_fault-long items (omega arith));
      last = λ is. absurd (cc);
      few = tt;
    }

pub returns-in-Ok-clause-reads : goal.returns-in-Ok-clause-reads
returns-in-Ok-clause-reads g c =
    let h = g.H.Host.view c.args.host.now in
    let k = g.H.Host.view c.fetch_file.new.host in
    let items = c.as_slice.result.now in
    let same = c.as_slice.ensures.value in
    schedule_events c.args.name.now c.in-Ok.schedule c.in_ok-text.text.items items h k same c.in_ok-text.ensures.bytes.front c.in_ok-text.ensures.fetches
    (record { good = schedule_fault-short items (Reads c.in-Ok.schedule) (omega arith) c.in-Ok.ensures.read; reads = c.in-Ok.ensures.events })

pub returns-clause-reads : goal.returns-clause-reads
returns-clause-reads g c =
    let h = g.H.Host.view c.args.host.now in
    let k = g.H.Host.view c.fetch_file.new.host in
    schedule_unread c.args.name.now c.in-Err.fault c.from.result c.in_ok-text.text.items c.as_slice.result.now h k c.as_slice.ensures.value (omega arith) c.in_ok-text.ensures.bytes.front
    c.in_ok-text.ensures.fetches c.from.ensures c.in-Err.ensures.read

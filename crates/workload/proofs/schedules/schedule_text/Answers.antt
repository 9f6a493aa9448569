-- What is written reads.
use Rattle.std.proofs.Common.{◌∙◌, ap, arith}
use Rattle.schedule_file.specs.ScheduleFiles.{reading}
use Rattle.workload.proofs.Reading.{drawn_reads}
use Rattle.workload.proofs.schedules.schedule_text.Goals as goal

pub returns-in-Ok : goal.returns-in-Ok
returns-in-Ok c = record {
  reads = ap reading c.in-Ok.ensures.text ∙ drawn_reads 200000 c.args.draws.now (omega arith);
  size = c.in-Ok.ensures.size;
}

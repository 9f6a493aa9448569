-- What is written reads.
use Rattle.std.proofs.Common.{◌∙◌, ap}
use Rattle.schedule_file.specs.ScheduleFiles.{events_in}
use Rattle.schedule_text.proofs.Whole.{text_reads}
use Rattle.schedule_text.proofs.texts.schedule_text.Goals as goal

pub returns-in-Ok-clause-reads : goal.returns-in-Ok-clause-reads
returns-in-Ok-clause-reads c =
    ap events_in c.in-Ok.ensures.text ∙ text_reads c.args.events.now c.in-Ok.ensures.written c.requires.most

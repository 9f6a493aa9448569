use Rattle.std.proofs.Common.{subst}
use Rattle.printed_runs.specs.Semaphores.{Knows}
use Rattle.run_story.proofs.SaidBy.{said_else}
use Rattle.run_story.proofs.story.note.Goals as goal

pub returns-in_default : goal.returns-in_default
returns-in_default c = record {
  knows = λ said k. subst (λ s. Knows s c.note.new.self.usages) (said_else c.args.event c.args.lines.now said c.in_default.not-Dump)
      (c.note.ensures.knows said k);
}

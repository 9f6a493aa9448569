use Rattle.std.proofs.Common.{subst}
use Rattle.printed_runs.specs.Notes.{said_after}
use Rattle.printed_runs.specs.Semaphores.{Knows}
use Rattle.text_lines.specs.Lines.{lines_of}
use Rattle.printed_runs.proofs.reader.Reader.note.Goals as goal

pub returns : goal.returns
returns c = record {
  knows = λ said k. subst (λ text. Knows (said_after (lines_of text) said) c.note_all.new.usages) c.as_bytes.ensures.value (c.note_all.ensures.knows said k);
}

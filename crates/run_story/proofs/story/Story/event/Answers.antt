use Rattle.run_story.proofs.SaidBy.{same_reader}
use Rattle.run_story.proofs.story.Story.event.Goals as goal

pub returns : goal.returns
returns c = record {
  knows = λ said k. same_reader _ c.note.new.reader c.quiet.new.self.reader c.add.new.self.reader c.change.new.self.reader c.quiet.ensures.reader
      c.add.ensures.reader c.change.ensures.reader (c.note.ensures.knows said k);
}

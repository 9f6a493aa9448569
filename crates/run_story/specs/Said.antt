-- What the events of a run say of calls.
use Rattle.std.specs.Prelude.{ℕ, List}
use Rattle.printed_runs.specs.Notes.{said_after}
use Rattle.printed_runs.specs.declared.notes.Note.{Note}
use Rattle.text_lines.specs.Lines.{lines_of}
use Rattle.xinu_base.specs.declared.events.Event.{Event}
use Rattle.xinu_base.specs.declared.events.Event.TheVariants.{Dump}

-- what was said once an event printed this text too: tables that are dumped say nothing
abbrev pub said_by : Event → List ℕ → List Note → List Note
said_by Dump text said = said
said_by event text said = said_after (lines_of text) said

-- What is counted of the lines of a run while it is under way.
use Rattle.std.specs.Prelude.{◌≡◌, ℕ, List}
use Rattle.soak.specs.Soaks.{Takes}
use Rattle.workload.specs.Summaries.{Counts, added, counts_of}
use Rattle.xinu_base.specs.declared.events.Event.{Event}
use Rattle.xinu_base.specs.declared.events.End.{End}
use Rattle.xinu_base.specs.declared.lines.TranscriptLine.{TranscriptLine}
use Rattle.xinu_model.specs.Events.{Happens}
use Rattle.xinu_model.specs.Machine.{Xinu}
use Rattle.xinu_model.specs.Text.{text}

-- An event happened, and its lines were counted.
pub record CountsEvent (old : Xinu) (e : Event) (new : Xinu) (before after : Counts) : Type 0 where
  pub lines : List TranscriptLine
  pub happens : Happens old e lines new
  pub counted : after ≡ added before (counts_of (text lines))

-- So many of these events were taken, and their lines were counted.
pub record CountsEvents (taken : ℕ) (old : Xinu) (events : List Event) (new : Xinu) (end : End) (before after : Counts) : Type 0 where
  pub lines : List TranscriptLine
  pub runs : Takes taken old events lines new end
  pub counted : after ≡ added before (counts_of (text lines))

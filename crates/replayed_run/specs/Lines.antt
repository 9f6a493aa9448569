-- What an event printed.
use Rattle.std.specs.Prelude.{◌≡◌, ℕ, List, Option, IfSome}
use Rattle.xinu_base.specs.declared.events.Event.{Event}
use Rattle.xinu_base.specs.declared.lines.TranscriptLine.{TranscriptLine}
use Rattle.xinu_model.specs.Events.{Happens}
use Rattle.xinu_model.specs.Machine.{Xinu}
use Rattle.xinu_model.specs.Text.{text}

-- The event happened, and these are the bytes of its lines, if they were kept.
pub record IsPrinted (old : Xinu) (e : Event) (new : Xinu) (printed : Option (List ℕ)) : Type 0 where
  pub lines : List TranscriptLine
  pub happens : Happens old e lines new
  pub bytes : IfSome printed (λ bytes. bytes ≡ text lines)

-- What the laws say of memory in one event.
use Rattle.std.proofs.Common.{List}
use Rattle.xinu_base.specs.declared.events.Event.{Event}
use Rattle.xinu_base.specs.declared.lines.TranscriptLine.{TranscriptLine}
use Rattle.event_laws.proofs.Ownership.Events.{apart_happens}
use Rattle.event_laws.proofs.Ownership.Giving.{given_away_is_shared}
use Rattle.event_laws.proofs.Ownership.GrantEvents.{event_gives}
use Rattle.xinu_model.specs.Events.{Happens}
use Rattle.xinu_model.specs.Machine.{Xinu}
use Rattle.xinu_model.specs.Sound.State.{IsSound}
use Rattle.machine.specs.Apart.{KeepsApart}

-- an event from a sound state keeps memory apart
pub keeps_apart : (old : Xinu) (e : Event) (lines : List TranscriptLine) (new : Xinu) → IsSound old → Happens old e lines new → KeepsApart old e new
keeps_apart old e lines new sound h = record {
  kept = λ apart. apart_happens old e lines new sound apart h;
  broken = given_away_is_shared old e lines new sound h;
  granted = event_gives old e lines new sound h;
}

use Rattle.event_laws.proofs.Ownership.GrantEvents.{call_gives, event_gives}
use Rattle.event_laws.proofs.memory.holders_get_only_free_memory.Goals as goal

pub returns : goal.returns
returns c = record {
  calls = call_gives;
  events = event_gives;
}
